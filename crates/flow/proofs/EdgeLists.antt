-- The flow of lists of code: the first round edge by edge, as its loop goes, what the laws of rounds ask of a flow, and the adjacency lists of its
-- edges.
use mathlib.Core.Path.{◌≡◌, refl, sym, ap, ◌∙◌}
use mathlib.Core.Option.{some, some-injective}
use mathlib.Core.List.{List}
use Prim.Native.Nat.{ℕ, suc, ◌≤◌, ◌<◌}
use native.Mathlib.Omega.{arith}
use lib.Bits.{or_zero_r}
use lib.ListN.{length, get_or, get_elem?, set, replicate}
use lib.Seq.{ext_get_or}
use Rattle.timer_set.specs.Members.{joined, minus}
use Rattle.lists.specs.Lists.{up_to}
use Rattle.model.specs.Comes.{Shaped}
use Rattle.lists.proofs.Gather.{length_up_to, get_d_up_to}
use Rattle.lists.proofs.Zeros.{get_d_zeros}
use Rattle.lists.proofs.Nth.{below_nth, nth_up_to}
use Rattle.model.specs.Flow.{Edge, brings, round}
use Rattle.model.proofs.Edges.{round_to, round_to_start, round_to_step, round_to_end}
use Rattle.model.proofs.Rounds.{Words}
use Rattle.model.proofs.Settled.{Changes, few_changes}
use Rattle.worklist.specs.Worklist.{Nexts, Firsts, Adjacency}
use Rattle.flow.specs.Edges.{edge_at, flow_of, SafeEdges}

module _ {A : Type 0} where
  up_to_get_d : (l : List A) (d : A) → up_to (λ i. get_or l i d) (length l) ≡ l
  up_to_get_d l d =
      ext_get_or d _ l (length_up_to _ (length l)) (λ i h. get_d_up_to _ (length l) i d (omega (arith, length_up_to (λ i. get_or l i d) (length l))))

module _ (into from cut gain own : List ℕ) where
  pub nth_edge : (i : ℕ) → i < length into → get_elem? (flow_of into from cut gain own).edges i ≡ some (edge_at into from cut gain i)
  unfolding flow_of
  nth_edge i h = nth_up_to (edge_at into from cut gain) (length into) i h

  length_edges : length (flow_of into from cut gain own).edges ≡ length into
  unfolding flow_of
  length_edges = length_up_to (edge_at into from cut gain) (length into)

  -- ---- the first round, from empty sets

  abbrev empty : List ℕ
  empty = replicate (length own) 0

  pub round_start : own ≡ round_to (flow_of into from cut gain own) empty 0
  unfolding flow_of
  round_start = sym (round_to_start (flow_of into from cut gain own) empty ∙ up_to_get_d own 0)

  -- an edge brings from empty sets what it gains
  brings_gain : (e : Edge) → brings empty e ≡ e.gain
  unfolding brings joined minus
  brings_gain e = rw (get_d_zeros, or_zero_r e.gain)

  -- the sets after the first i edges, with what edge number i brings to the set w that it leads into
  pub round_step : (i : ℕ) (after : List ℕ) (w : ℕ) → i < length into → after ≡ round_to (flow_of into from cut gain own) empty i
      → w ≡ joined (get_or after (get_or into i 0) 0) (get_or gain i 0)
      → set after (get_or into i 0) w ≡ round_to (flow_of into from cut gain own) empty (suc i)
  unfolding edge_at
  round_step i after w h e j = let edge = edge_at into from cut gain i in
      rw (j, ← brings_gain edge, e) (sym (round_to_step (flow_of into from cut gain own) empty i edge (nth_edge i h)))

  pub round_end : (i : ℕ) (after : List ℕ) → i ≡ length into → after ≡ round_to (flow_of into from cut gain own) empty i
      → after ≡ round (flow_of into from cut gain own) empty
  round_end i after l e =
      e ∙ ap (round_to (flow_of into from cut gain own) empty) (l ∙ sym length_edges) ∙ round_to_end (flow_of into from cut gain own) empty

  pub edge_of : (i : ℕ) {e : Edge} → get_elem? (flow_of into from cut gain own).edges i ≡ some e
      → (i < length into) × (e ≡ edge_at into from cut gain i)
  edge_of i n =
      let below : i < length into = omega (arith, below_nth (flow_of into from cut gain own).edges i n, length_edges) in
      (below, some-injective _ _ (sym n ∙ nth_edge i below))

  -- where the lists are safe and hold words of 64 the laws of rounds hold
  pub shaped_lists : SafeEdges into from cut gain own → Words gain → Words own → Shaped (flow_of into from cut gain own)
  unfolding flow_of edge_at
  shaped_lists m g o = record {
    into_below = λ i {e} n. let x = edge_of i n in rw x.1 (m.into_below i x.0);
    from_below = λ i {e} n. let x = edge_of i n in rw x.1 (m.from_below i x.0);
    own_word = o;
    gain_word = λ i {e} n. rw (edge_of i n).1 (g i);
  }

  -- the number of rounds that change a set
  pub few_rounds : Shaped (flow_of into from cut gain own) → (k : ℕ) → Changes (flow_of into from cut gain own) k → k ≤ length own
  unfolding flow_of
  few_rounds s k m = few_changes (flow_of into from cut gain own) s k m

  pub locations_are : (flow_of into from cut gain own).locations ≡ length own
  unfolding flow_of
  locations_are = refl

-- the edges of safe lists, listed by the location that they leave
pub adjacency : {into from cut gain own first next : List ℕ} → SafeEdges into from cut gain own → length own ≤ length first
    → Firsts from first → Nexts from next → Adjacency (length own) from into cut first next
adjacency safe room firsts nexts = record {
  intos = sym safe.froms;
  cuts = safe.cuts ∙ sym safe.froms;
  into_below = safe.into_below;
  room = room;
  firsts = firsts;
  nexts = nexts;
}
