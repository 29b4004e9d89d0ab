-- Rounds from the empty sets: they grow, hold only what comes, and hold all of it where a round changes nothing. Hard: that they hold all of it, by
-- induction over how a timer comes, from sets that a round does not change.
use mathlib.Core.Path.{◌≡◌, refl}
use mathlib.Core.Logic.{◌⊎◌, inl, inr}
use mathlib.Core.Bool.{Bool, true, false}
use mathlib.Core.Option.{some}
use mathlib.Core.List.{List, [], ◌∷◌}
use Prim.Native.Nat.{ℕ, zero, suc, ◌≤◌, ◌<◌, ◌^◌}
use native.Mathlib.Omega.{arith}
use lib.Dec.{eqb, lit<}
use lib.ListN.{length, get_or, get_elem?, length-replicate, get_or-eq_default}
use Rattle.timer_set.specs.Members.{member, joined}
use Rattle.model.specs.Comes.{Comes, Shaped}
use Rattle.timer_set.proofs.Members.{member_empty, joined_lt, minus_lt}
use Rattle.lists.proofs.Bools.{lt_or_le, not_both}
use Rattle.lists.proofs.Gather.{length_up_to, get_d_up_to}
use Rattle.lists.proofs.Zeros.{get_d_zeros}
use Rattle.model.specs.Flow.{Edge, Flow, brings, made, round, rounds_of}
use Rattle.model.proofs.Edges.{with_edge, with_edges}
use Rattle.model.proofs.Flow.{Way, way_as, made_out, made_in}
use Rattle.model.specs.Comes.Comes.{owned, gained, along}
use Rattle.model.proofs.Flow.Way.{by_own, by_gain, by_edge}

-- where timer j is in a set of a, it is in the same set of b
abbrev pub Under : ℕ → List ℕ → List ℕ → Type 0
Under j a b = (q : ℕ) → member (get_or a q 0) j ≡ true → member (get_or b q 0) j ≡ true

-- every set is a word of 64
abbrev pub Words : List ℕ → Type 0
Words l = (q : ℕ) → get_or l q 0 < 2 ^ 64

module _ (f : Flow) where
  pub length_round : (before : List ℕ) → length (round f before) ≡ f.locations
  unfolding round
  length_round before = length_up_to _ f.locations

  pub length_rounds : (k : ℕ) → length (rounds_of f k) ≡ f.locations
  unfolding rounds_of
  length_rounds zero = length-replicate {A = ℕ} f.locations 0
  length_rounds (suc k) = length_round (rounds_of f k)

  pub rounds_beyond : (k q : ℕ) → f.locations ≤ q → get_or (rounds_of f k) q 0 ≡ 0
  rounds_beyond k q h = get_or-eq_default (rounds_of f k) 0 (omega (arith, length_rounds k))

  get_d_round : (before : List ℕ) (q : ℕ) → q < f.locations → get_or (round f before) q 0 ≡ made f before q
  unfolding round
  get_d_round before q h = get_d_up_to (made f before) f.locations q 0 h

  get_d_beyond : (before : List ℕ) (q : ℕ) → f.locations ≤ q → get_or (round f before) q 0 ≡ 0
  get_d_beyond before q h = get_or-eq_default (round f before) 0 (omega (arith, length_round before))

  -- the members of a set that a round makes
  pub record InRound (before : List ℕ) (q j : ℕ) : Type 0 where
    pub below : q < f.locations
    pub way : Way f j (λ s. member (get_or before s 0) j ≡ true) q

  pub round_out : (before : List ℕ) (q j : ℕ) → member (get_or (round f before) q 0) j ≡ true → InRound before q j
  round_out before q j h = go (lt_or_le q f.locations)
    where
      go : (q < f.locations) ⊎ (f.locations ≤ q) → InRound before q j
      go (inl l) = record { below = l; way = made_out f before q j (rw (get_d_round before q l) at h) }
      go (inr l) = absurd (not_both (rw (get_d_beyond before q l) at h) (member_empty j))

  pub round_in : (before : List ℕ) (q j : ℕ) → InRound before q j → member (get_or (round f before) q 0) j ≡ true
  round_in before q j x = rw (get_d_round before q x.below) (made_in f before q j x.way)

  pub round_mono : (j : ℕ) (a b : List ℕ) → Under j a b → Under j (round f a) (round f b)
  round_mono j a b u q h = let x = round_out a q j h in round_in b q j (record { below = x.below; way = way_as u x.way })

  pub rounds_grow : (j k : ℕ) → Under j (rounds_of f k) (rounds_of f (suc k))
  unfolding rounds_of
  rounds_grow j zero q h = absurd (not_both (rw get_d_zeros at h) (member_empty j))
  rounds_grow j (suc k) q h = round_mono j (rounds_of f k) (rounds_of f (suc k)) (rounds_grow j k) q h

  pub sound : (k q j : ℕ) → member (get_or (rounds_of f k) q 0) j ≡ true → Comes f j q
  unfolding rounds_of
  sound zero q j h = absurd (not_both (rw get_d_zeros at h) (member_empty j))
  sound (suc k) q j h = go (λ s. sound k s j) (round_out (rounds_of f k) q j h).way
    where
      go : ((s : ℕ) → member (get_or (rounds_of f k) s 0) j ≡ true → Comes f j s)
          → Way f j (λ s. member (get_or (rounds_of f k) s 0) j ≡ true) q → Comes f j q
      go ih (by_own o) = owned o
      go ih (by_gain i g) = gained i g
      go ih (by_edge {e} i n s) = along i n (ih e.from s)

  module _ (shaped : Shaped f) where
    pub complete : (sets : List ℕ) → round f sets ≡ sets → (j q : ℕ) → q < f.locations → Comes f j q → member (get_or sets q 0) j ≡ true
    complete sets still j q l (owned o) = rw still at (round_in sets q j (record { below = l; way = by_own o }))
    complete sets still j q l (gained i g) = rw still at (round_in sets q j (record { below = l; way = by_gain i g }))
    complete sets still j q l (along {e = e} i n m) =
        let before = complete sets still j e.from (shaped.from_below i.number i.is_nth) m in
        rw still at (round_in sets q j (record { below = l; way = by_edge i n before }))

    -- ---- every set of a round is a word of 64

    edges_word : (before : List ℕ) → Words before → (q : ℕ) (es : List Edge) (w : ℕ) → w < 2 ^ 64
        → ((i : ℕ) (e : Edge) → get_elem? es i ≡ some e → e.gain < 2 ^ 64) → with_edges before q w es < 2 ^ 64
    unfolding brings
    edges_word before words q [] w h g = h
    edges_word before words q (e ∷ es) w h g = edges_word before words q es (with_edge before q w e) (one (eqb e.into q)) (λ i. g (suc i))
      where
        one : (b : Bool) → elim b as (λ _. ℕ) [ true ↦ joined w (brings before e) | false ↦ w ] < 2 ^ 64
        one true =
            let kept = minus_lt 64 (get_or before e.from 0) e.cut (words e.from) in
            joined_lt 64 w (brings before e) h (joined_lt 64 e.gain _ (g 0 e refl) kept)
        one false = h

    round_words : (before : List ℕ) → Words before → Words (round f before)
    unfolding made
    round_words before words q = go (lt_or_le q f.locations)
      where
        go : (q < f.locations) ⊎ (f.locations ≤ q) → get_or (round f before) q 0 < 2 ^ 64
        go (inl l) =
            rw (get_d_round before q l) (edges_word before words q f.edges (f.own q) (shaped.own_word q) (λ i e n. shaped.gain_word i n))
        go (inr l) = rw (get_d_beyond before q l) (lit< tt)

    pub rounds_words : (k : ℕ) → Words (rounds_of f k)
    unfolding rounds_of
    rounds_words zero q = rw get_d_zeros (lit< tt)
    rounds_words (suc k) q = round_words (rounds_of f k) (rounds_words k) q
