-- A location is taken from the worklist and its transitions are gone over. The sets hold only what comes, as before; and what a transition of an idle
-- location brought is still there, since a location whose set grows waits.
use mathlib.Core.Path.{◌≡◌, ap, ◌∙◌}
use mathlib.Core.Logic.{◌⊎◌, inl, inr}
use mathlib.Core.Bool.{true}
use mathlib.Core.List.{List}
use Prim.Native.Nat.{ℕ, ◌+◌, ◌<◌}
use native.Mathlib.Decide.{ℕ_discrete}
use native.Mathlib.Omega.{arith}
use lib.ListN.{length, get_or, replicate, set, length-set, length-replicate}
use lib.Seq.{get_or-set_other}
use Rattle.timer_set.specs.Members.{every_timer, member}
use Rattle.model.specs.Comes.{EdgeInto, Comes}
use Rattle.model.specs.Comes.Comes.{along}
use Rattle.worklist.specs.Worklist.{Worklist}
use Rattle.worklist.specs.GoneOver.{Brought, GoneOver, Leaves}
use Rattle.worklist.proofs.Waiting.{pop}
use Rattle.worklist.proofs.GoingOver.{brought_as}
use Rattle.flow.specs.Edges.{edge_at}
use Rattle.flow.proofs.EdgeLists.{nth_edge}
use Rattle.forward.specs.Forward.{own_sets, forward_flow}
use Rattle.forward.specs.Working.{SoundSets, LeavesIdle, BetweenVisits}

-- there is a set for each location
pub long_own : (initial locations : ℕ) → length (own_sets initial locations) ≡ locations
long_own initial locations = length-set (replicate locations 0) initial every_timer ∙ length-replicate {A = ℕ} locations 0

module _ {initial locations : ℕ} {sources targets cut first next sets idle waiting : List ℕ} {depth : ℕ}
    (b : BetweenVisits initial locations sources targets cut first next sets idle waiting depth) (k : ℕ) (e : depth ≡ k + 1) where
  -- the location that is taken from the list is the last one there
  abbrev last : ℕ
  last = get_or waiting k 0

  pub last_taken : Worklist locations (set idle last 1) waiting k
  last_taken = pop b.working.worklist k e

  -- its transitions are gone over
  module _ {after idleAfter : List ℕ}
      (over : GoneOver sources targets cut (Leaves sources last) (λ q. get_or sets last 0) sets (set idle last 1) after idleAfter) where
    -- what one of them brings comes
    brought_comes : (q t : ℕ) → Brought sources targets cut (Leaves sources last) (λ q. get_or sets last 0) q t
        → Comes (forward_flow initial locations sources targets cut) t q
    unfolding edge_at
    brought_comes q t y =
        let into : y.edge < length targets = omega (arith, y.below, b.safe.edges.froms) in
        let none : List ℕ = replicate (length sources) 0 in
        let nth = nth_edge targets sources cut none (own_sets initial locations) y.edge into in
        let edge : EdgeInto (forward_flow initial locations sources targets cut) q (edge_at targets sources cut none y.edge)
        = record { number = y.edge; is_nth = nth; leads = y.leads } in
        along edge y.uncut (rw y.gone (b.working.sound.comes last t y.stands))

    sound_after : SoundSets initial locations sources targets cut after
    sound_after = record {
      long = over.long ∙ b.working.sound.long;
      owns = λ q t o. over.kept q t (b.working.sound.owns q t o);
      comes = λ q t m. either q t (over.only q t m);
    }
      where
        either : (q t : ℕ) → (member (get_or sets q 0) t ≡ true) ⊎ Brought sources targets cut (Leaves sources last) (λ q. get_or sets last 0) q t
            → Comes (forward_flow initial locations sources targets cut) t q
        either q t (inl m) = b.working.sound.comes q t m
        either q t (inr y) = brought_comes q t y

    brought_after : (q t : ℕ) → Brought sources targets cut (LeavesIdle sources idleAfter) (λ p. get_or after p 0) q t
        → member (get_or after q 0) t ≡ true
    brought_after q t y = go (ℕ_discrete source last)
      where
        source : ℕ
        source = get_or sources y.edge 0

        -- it was idle before, and its set has not grown
        still : (get_or (set idle last 1) source 0 ≡ 0 → ⊥) × (get_or after source 0 ≡ get_or sets source 0)
        still = over.still_idle source y.gone

        go : Dec (source ≡ last) → member (get_or after q 0) t ≡ true
        go (yes here) = over.brought q t (brought_as y here (still.1 ∙ ap (λ (p : ℕ). get_or sets p 0) here))
        go (no ne) = over.kept q t (b.working.brought q t (brought_as y (λ z. still.0 (get_or-set_other idle last source 1 0 ne ∙ z)) still.1))

    pub between_again : {waitingAfter : List ℕ} {r : ℕ} → Worklist locations idleAfter waitingAfter r
        → BetweenVisits initial locations sources targets cut first next after idleAfter waitingAfter r
    between_again w = record {
      safe = b.safe;
      adjacency = b.adjacency;
      working = record { sound = sound_after; worklist = w; brought = brought_after };
    }
