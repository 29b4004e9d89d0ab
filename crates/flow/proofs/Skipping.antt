-- A round over the edges that leave changed locations alone makes what a round over all edges makes: what the others bring, the round before has
-- brought. Hard: an edge that is passed over must be found again in the round before: there it took the same timers from a set that has not changed
-- since.
use mathlib.Core.Path.{◌≡◌, sym, ap, ◌∙◌}
use mathlib.Core.Logic.{◌⊎◌, inl, inr}
use mathlib.Core.Bool.{true, false}
use mathlib.Core.List.{List}
use Prim.Native.Nat.{ℕ, suc, ◌<◌}
use native.Mathlib.Omega.{arith}
use lib.ListN.{length, get_or}
use lib.Seq.{ext_get_or}
use Rattle.timer_set.specs.Members.{member}
use Rattle.timer_set.proofs.Members.{member_ext}
use Rattle.lists.proofs.Bools.{same_bool}
use Rattle.model.specs.Comes.{EdgeInto, Shaped}
use Rattle.model.specs.Flow.{Edge, Flow, rounds_of}
use Rattle.model.proofs.Flow.{Way}
use Rattle.model.proofs.Flow.Way.{by_own, by_gain, by_edge}
use Rattle.model.proofs.Rounds.{Under, Words, InRound, length_rounds, rounds_words, rounds_grow, round_out, round_in}
use Rattle.worklist.specs.Worklist.{Among}
use Rattle.worklist.specs.GoneOver.{Brought, GoneOver}
use Rattle.flow.specs.Edges.{edge_at, flow_of, SafeEdges}
use Rattle.flow.specs.Rounds.{LeavesOne}
use Rattle.flow.proofs.EdgeLists.{nth_edge, edge_of}

-- among the first n of the list are all locations at which two lists of sets differ
abbrev pub Listed : (locations : ℕ) → (before after list : List ℕ) → ℕ → Type 0
Listed locations before after list n = (q : ℕ) → q < locations → (get_or after q 0 ≡ get_or before q 0) ⊎ Among list n q

module _ {into from cut gain own : List ℕ} (safe : SafeEdges into from cut gain own) where
  abbrev f : Flow
  f = flow_of into from cut gain own

  -- the sets after i + 1 rounds are gone over
  module _ (shaped : Shaped f) (i : ℕ) {changed : List ℕ} {n : ℕ} {idle after idleAfter : List ℕ}
      (listed : Listed f.locations (rounds_of f i) (rounds_of f (suc i)) changed n)
      (over : GoneOver from into cut (LeavesOne from changed n) (λ q. get_or (rounds_of f (suc i)) q 0)
      (rounds_of f (suc i)) idle after idleAfter) where
    -- what has been brought, the next round has
    out : (j : ℕ) → Under j after (rounds_of f (suc (suc i)))
    unfolding rounds_of flow_of edge_at
    out j q m = go (over.only q j m)
      where
        go : (member (get_or (rounds_of f (suc i)) q 0) j ≡ true)
            ⊎ Brought from into cut (LeavesOne from changed n) (λ q. get_or (rounds_of f (suc i)) q 0) q j
            → member (get_or (rounds_of f (suc (suc i))) q 0) j ≡ true
        go (inl s) = rounds_grow f j (suc i) q s
        go (inr b) =
            let below : b.edge < length into = omega (arith, b.below, safe.froms) in
            let is_nth = nth_edge into from cut gain own b.edge below in
            round_in f (rounds_of f (suc i)) q j (record {
              below = rw (← b.leads) (safe.into_below b.edge below);
              way = by_edge (record { number = b.edge; is_nth = is_nth; leads = b.leads }) b.uncut b.stands;
            })

    -- what the next round has, has been brought, or was there
    back : (j : ℕ) → Under j (rounds_of f (suc (suc i))) after
    unfolding rounds_of edge_at
    back j q m = go x.way
      where
        x : InRound f (rounds_of f (suc i)) q j
        x = round_out f (rounds_of f (suc i)) q j m

        -- the round before had it
        had : Way f j (λ s. member (get_or (rounds_of f i) s 0) j ≡ true) q → member (get_or after q 0) j ≡ true
        had w = over.kept q j (round_in f (rounds_of f i) q j (record { below = x.below; way = w }))

        edge : {e : Edge} (t : EdgeInto f q e) → member e.cut j ≡ false → member (get_or (rounds_of f (suc i)) e.from 0) j ≡ true
            → (get_or (rounds_of f (suc i)) e.from 0 ≡ get_or (rounds_of f i) e.from 0) ⊎ Among changed n e.from
            → member (get_or after q 0) j ≡ true
        edge t u s (inl same) = had (by_edge t u (rw same at s))
        edge t u s (inr l) =
            let p = edge_of into from cut gain own t.number t.is_nth in
            over.brought q j (record {
              edge = t.number;
              below = omega (arith, p.0, safe.froms);
              gone = rw p.1 at l;
              leads = sym (ap (λ (e : Edge). e.into) p.1) ∙ t.leads;
              stands = rw p.1 at s;
              uncut = rw p.1 at u;
            })

        go : Way f j (λ s. member (get_or (rounds_of f (suc i)) s 0) j ≡ true) q → member (get_or after q 0) j ≡ true
        go (by_own o) = had (by_own o)
        go (by_gain t g) = had (by_gain t g)
        go (by_edge {e} t u s) = edge t u s (listed e.from (shaped.from_below t.number t.is_nth))

    pub skips : Words after → after ≡ rounds_of f (suc (suc i))
    skips words = ext_get_or 0 _ _ (over.long ∙ length_rounds f (suc i) ∙ sym (length_rounds f (suc (suc i))))
        (λ q l. member_ext 64 _ _ (words q) (rounds_words f shaped (suc (suc i)) q) (λ j h. same_bool _ _ (out j q) (back j q)))
