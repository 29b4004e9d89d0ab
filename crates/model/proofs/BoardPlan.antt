-- The board numbers of a chart are a plan; each transition of the rewritten chart starts the numbers of the timers born on it; and 20 is given
-- exactly where more than K numbers are used. Hard: that a timer keeps its number over a transition that does not start it: it is live at both ends,
-- so the transition links the two pairs.
use mathlib.Core.Path.{◌≡◌, refl, ◌∙◌}
use mathlib.Core.Logic.{inl, ◌↔◌}
use mathlib.Core.Bool.{true}
use mathlib.Core.Option.{some}
use Prim.Native.Nat.{ℕ, ◌<◌}
use Rattle.lists.specs.Lists.{memb}
use Rattle.lists.proofs.Gather.{pick_in, pick_out}
use Rattle.lists.proofs.Elements.{filter_in, filter_out}
use Rattle.model.specs.Chart.{Transition, Chart, Nth}
use Rattle.model.specs.Valid.{Valid}
use Rattle.model.specs.Path.{Live, Born, UnstartedTest}
use Rattle.model.specs.Live.{live_sets, live}
use Rattle.model.specs.Twins.{Twins, lowest_twin}
use Rattle.model.specs.Family.{live_pairs, families}
use Rattle.model.specs.FirstFit.{first_fit, used_by, number_at, blocked, board, used}
use Rattle.model.specs.Rewrite.{numbering, through, board_numbering, new_starts}
use Rattle.model.specs.Plan.{Has, Plan}
use Rattle.model.specs.SharingRule.{LiveLink}
use Rattle.model.proofs.Paths.{live_here, live_back, live_unstarted}
use Rattle.model.proofs.LivePaths.{live_iff}
use Rattle.model.proofs.Twins.{live_itself, lowest_twins, pair_twin}
use Rattle.model.proofs.Through.{through_in, through_has}
pub use Rattle.model.proofs.LivePairs.{live_pairs_formed}
use Rattle.model.proofs.LivePairs.{linked_iff}
use Rattle.model.proofs.FirstFit.{blocked_iff}
use Rattle.model.proofs.NumberAt.{number_below}
use Rattle.model.proofs.PairNumbers.{number_of_pair, linked_same, apart}

-- as many are used as the families need
pub numbering_used : (c : Chart) → (board_numbering c).used ≡ used_by (board c)
unfolding board_numbering through numbering
numbering_used c = refl

pub number_under : (c : Chart) (q j k : ℕ) → Has (board_numbering c) q j k → k < (board_numbering c).used
unfolding board_numbering numbering
number_under c q j k e = rw (numbering_used c)
    (number_below (board c) q (lowest_twin c j) k (through_has (live_sets c) (lowest_twin c) (numbering (board c)) q j k e).1)

module _ {W : ℕ} {c : Chart} (valid : Valid W c) where
  -- a timer has a number exactly where it is live: that of the pair of its lowest twin
  pub number_iff : (q j k : ℕ) → Has (board_numbering c) q j k ↔ (Live c q j × (number_at (board c) q (lowest_twin c j) ≡ some k))
  unfolding board_numbering numbering live
  number_iff q j k = (
    λ e. let x = through_has (live_sets c) (lowest_twin c) (numbering (board c)) q j k e in ((live_iff valid q j).0 x.0, x.1),
    λ x. through_in (live_sets c) (lowest_twin c) (numbering (board c)) q j ((live_iff valid q j).1 x.0) ∙ x.1,
  )

  pub number_live : (q j k : ℕ) → Has (board_numbering c) q j k → Live c q j
  number_live q j k e = ((number_iff q j k).0 e).0

  pub live_number : (q j : ℕ) → Live c q j → (k : ℕ) × Has (board_numbering c) q j k
  unfolding board
  live_number q j l =
      let x = number_of_pair (live_pairs_formed valid) q (lowest_twin c j) ((pair_twin valid q j).1 (live_itself l)) in
      (x.0, (number_iff q j x.0).1 (l, x.1))

  -- timers that have one number at a location are twins
  pub number_twins : (q j i k : ℕ) → Has (board_numbering c) q j k → Has (board_numbering c) q i k → Twins c j i
  unfolding board
  number_twins q j i k e e' =
      let x = (number_iff q j k).0 e in
      let y = (number_iff q i k).0 e' in
      lowest_twins valid (live_itself x.0) (live_itself y.0) (apart (live_pairs c) q _ k _ x.1 y.1)

  pub board_plan : ((i : ℕ) (r : Transition) → Nth c i r → UnstartedTest c r → ⊥) → Plan c (board_numbering c)
  unfolding board
  board_plan started = record {
    begins = λ j k e. let u = live_unstarted (number_live c.initial j k e) in started _ u.transition u.is_nth u.test;
    reads = λ q j x r. live_number q j (live_here r);
    keeps = λ i r j k n x f e.
        let y = (number_iff r.target j k).0 e in
        let back = live_back n f y.0 in
        let link : LiveLink c j r.source r.target = record {
          number = i;
          transition = r;
          is_nth = n;
          not_started = f;
          ends = inl (refl, refl);
          live_one = live_itself back;
          live_other = live_itself y.0;
        } in
        (number_iff r.source j k).1 (back, linked_same (live_pairs_formed valid) ((linked_iff valid j r.source r.target).1 link) ∙ y.1);
    apart = λ q j i k x e e' m r n y. (number_twins q j i k e e').together m r n;
    below = number_under c;
  }

  -- a transition of the rewritten chart starts exactly the numbers that the timers born on it have at its target
  pub born_starts : (r : Transition) (k : ℕ)
      → (memb k (new_starts (board_numbering c) r) ≡ true) ↔ ((j : ℕ) × Born c r j × Has (board_numbering c) r.target j k)
  unfolding new_starts
  born_starts r k = (
    λ m.
        let x = filter_out ((board_numbering c).number r.target) r.starts k (pick_out _ (board_numbering c).used k m).1 in
        (x.0, record { started = x.1; active = number_live r.target x.0 k x.2 }, x.2),
    λ x.
        pick_in _ (board_numbering c).used k (number_under c r.target x.0 k x.2)
        (filter_in ((board_numbering c).number r.target) r.starts x.0 k x.1.started x.2),
  )

-- 20: all K numbers are held exactly where more than K are used
pub board_blocked : (K : ℕ) (c : Chart) → (blocked K (board c) ≡ true) ↔ (K < used c)
unfolding used board first_fit
board_blocked K c = blocked_iff K (families (live_pairs c))
