-- Every plan that gives meeting families different numbers keeps what the rewriting needs, so the rewritten chart behaves as the drawn one by any of
-- them. Hard: that a timer keeps its number over a transition that does not start it: it is live at both ends, so the transition links the two pairs.
use mathlib.Core.Path.{refl}
use mathlib.Core.Logic.{inr}
use mathlib.Core.List.{[], ◌∷◌}
use Prim.Native.Nat.{ℕ}
use Rattle.model.specs.Chart.{Transition, Chart, Nth}
use Rattle.model.specs.Path.{UnstartedTest}
use Rattle.model.specs.Rewrite.{Numbering}
use Rattle.model.specs.Plan.{Plan}
use Rattle.model.specs.SharingRule.{LiveLink, SameFamily}
use Rattle.sharing_plans.specs.SharingPlan.{SharingPlan}
use Rattle.model.proofs.Paths.{live_here, live_back, live_unstarted}
use Rattle.model.proofs.Twins.{twins_refl, live_itself}
use Rattle.sharing_plans.proofs.Fullest.{plan_different_here}

pub sharing_plan_is_plan : {c : Chart} {N : Numbering} → ((i : ℕ) (r : Transition) → Nth c i r → UnstartedTest c r → ⊥) → SharingPlan c N → Plan c N
sharing_plan_is_plan {c} {N} started plan = record {
  begins = λ j k e. let u = live_unstarted (plan.live c.initial j k e) in started _ u.transition u.is_nth u.test;
  reads = λ q j x r. plan.numbered q j (live_here r);
  keeps = λ i r j k n x f e.
      let l = plan.live r.target j k e in
      let back = live_back n f l in
      let link : LiveLink c j r.target r.source = record {
        number = i;
        transition = r;
        is_nth = n;
        not_started = f;
        ends = inr (refl, refl);
        live_one = live_itself l;
        live_other = live_itself back;
      } in
      let same : SameFamily c j r.target r.source = record { pair = live_itself l; way = r.source ∷ []; chain = (link, refl) } in
      plan.one_number r.target r.source j j k same (twins_refl j) back e;
  apart = λ q j j' k x e e' i r n y. (plan_different_here plan q j j' k e e').together i r n;
  below = plan.below;
}
