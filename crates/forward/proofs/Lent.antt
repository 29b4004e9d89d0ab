-- The front of an array of empty sets that is lent for the sets that go forwards, before and after; and that of an array of zeros, for transitions
-- that cut nothing.
use mathlib.Core.Path.{◌≡◌, ap, ◌∙◌}
use mathlib.Core.List.{List, ◌++◌}
use Prim.Native.Nat.{ℕ, ◌≤◌, ◌<◌}
use native.Mathlib.Omega.{arith}
use borrow.Author.Rules.{rules}
use lib.ListN.{length, get_or, take, replicate, length-append, length-replicate}
use lib.Seq.{take_at, length-take-le}
use Rattle.lists.proofs.Zeros.{take_zeros}
use Rattle.model.proofs.Settled.{length_settled}
use Rattle.chart_lists.specs.Limits.{most_locations, most_transitions}
use Rattle.flow.proofs.EdgeLists.{locations_are}
use Rattle.forward.specs.Forward.{own_sets, SafeForward, forward_sets}
use Rattle.forward.proofs.Visiting.{long_own}

length_empty : (n m : ℕ) → n ≤ m → ◌≡◌ (length {A = ℕ} (take n (replicate m 0))) n
length_empty n m h = length-take-le n (replicate m 0) (omega (arith, length-replicate {A = ℕ} m 0))

length_forward : (initial locations : ℕ) (sources targets cut : List ℕ) → length (forward_sets initial locations sources targets cut) ≡ locations
unfolding forward_sets
length_forward initial locations sources targets cut =
    length_settled _ ∙ locations_are targets sources cut (replicate (length sources) 0) (own_sets initial locations) ∙ long_own initial locations

module _ {initial locations : ℕ} {sources targets cut : List ℕ} (d : SafeForward initial locations sources targets cut) where
  pub few_transitions : length sources ≤ most_transitions
  few_transitions = omega (arith, d.edges.edges, d.edges.froms)

  -- nothing is cut
  pub none_front : ◌≡◌ {A = List ℕ} (take (length sources) (replicate most_transitions 0)) (replicate (length sources) 0)
  none_front = take_zeros (length sources) most_transitions few_transitions

  pub none_length : ◌≡◌ (length {A = ℕ} (take (length sources) (replicate most_transitions 0))) (length sources)
  none_length = length_empty (length sources) most_transitions few_transitions

  pub none_cut : SafeForward initial locations sources targets (replicate (length sources) 0)
  none_cut = let e = length-replicate {A = ℕ} (length sources) 0 ∙ d.edges.froms in search rules

  -- the front that is lent
  pub few_locations : locations ≤ most_locations
  few_locations = omega (arith, d.edges.locations, long_own initial locations)

  abbrev lent : List ℕ
  lent = take locations (replicate most_locations 0)

  pub lent_length : length lent ≡ locations
  lent_length = length_empty locations most_locations few_locations

  pub lent_safe : SafeForward initial (length lent) sources targets cut
  lent_safe = rw lent_length d

  pub lent_empty : lent ≡ replicate (length lent) 0
  lent_empty = rw lent_length (take_zeros locations most_locations few_locations)

  module _ {sets : List ℕ} (e : sets ≡ forward_sets initial (length lent) sources targets cut) (rest : List ℕ) where
    pub made_sets : sets ≡ forward_sets initial locations sources targets cut
    made_sets = rw lent_length at e

    made_length : length sets ≡ locations
    made_length = ap length made_sets ∙ length_forward initial locations sources targets cut

    -- the front is read again
    pub made_room : locations ≤ length (sets ++ rest)
    made_room = rw length-append (omega (arith, made_length))

    seen : take locations (sets ++ rest) ≡ sets
    seen = take_at sets rest locations made_length

    pub seen_length : length (take locations (sets ++ rest)) ≡ locations
    seen_length = ap length seen ∙ made_length

    pub seen_sets : take locations (sets ++ rest) ≡ forward_sets initial locations sources targets cut
    seen_sets = seen ∙ made_sets

    -- every source is among them
    pub sources_seen : (i : ℕ) → i < length sources → get_or sources i 0 < length (take locations (sets ++ rest))
    sources_seen i h =
        omega (arith, seen_length, long_own initial locations, d.edges.from_below i (omega (arith, d.edges.froms)))
