-- At every point of a run of the drawn chart the rewritten one is at a point of its run, after the same steps and the same wait, and every test there
-- reads the same: the point is that of `Alike`, which has it for every front of a run and every wait.
use mathlib.Core.Path.{◌≡◌, refl, sym, ap, ◌∙◌, subst}
use mathlib.Core.List.{List}
use Rattle.model.specs.Chart.{Chart}
use Rattle.model.specs.Run.{Counts, State, Step, Point, waited}
use Rattle.model.specs.Equivalence.{SamePoint, SamePoints, Alike, IsRun}
use Rattle.model.proofs.Answers.{result_same}
use Rattle.equivalence.specs.Points.{SamePointOf}

pub points_alike : (c c' : Chart) → Alike c c' → (v w : Counts) (es : List Step) → IsRun c v es → (s : State) (p : Point c v es s)
    → SamePointOf c c' v w es s p
points_alike c c' alike v w es run s p =
    let both : SamePoints c c' v w p.taken = alike.points v w p.taken p.rest (subst (IsRun c v) p.parts run) in
    let left : both.left ≡ p.left = result_same (sym both.run.ends ∙ p.run.ends) in
    let here : waited p.wait both.left ≡ s = ap (waited p.wait) left ∙ sym p.is in
    record {
      state = waited p.wait both.left';
      point = record { taken = p.taken; rest = p.rest; parts = p.parts; left = both.left'; run = both.run'; wait = p.wait; is = refl };
      steps = refl;
      wait = refl;
      same = subst (λ (x : State). SamePoint c c' p.taken x (waited p.wait both.left')) here (both.waits p.wait);
    }
