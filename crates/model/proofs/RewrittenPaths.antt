-- The rewritten chart has the paths of the chart, and no test of it is unstarted. Hard: back along a path that does not start a board timer, the
-- drawn timer has had its number from the beginning, and there no timer has one.
use mathlib.Core.Path.{◌≡◌, sym, ap, ◌∙◌, subst}
use mathlib.Core.Logic.{◌↔◌}
use mathlib.Core.Bool.{false}
use mathlib.Core.List.{List, [], ◌∷◌}
use Prim.Native.Nat.{ℕ}
use Rattle.lists.specs.Lists.{memb}
use Rattle.model.specs.Chart.{Transition, Chart, Nth}
use Rattle.model.specs.Path.{Path, StartsNowhere, Reached, UnstartedTest}
use Rattle.model.specs.Rewrite.{Numbering, new_transition, rewritten_by}
use Rattle.model.specs.Plan.{Has, Plan}
use Rattle.model.proofs.Paths.{reached_initial, reached_step}
use Rattle.model.proofs.Rewritten.{new_nth, old_nth, tested_old}
use Rattle.model.proofs.Agree.{started_alike}

module _ (c : Chart) (N : Numbering) where
  pub new_path : (p : List ℕ) (q s : ℕ) → Path c q p s → Path (rewritten_by N c) q p s
  unfolding new_transition
  new_path [] q s w = w
  new_path (i ∷ p) q s w = (new_transition N w.0, new_nth N c i w.1, w.2, new_path p w.0.target s w.3)

  pub old_path : (p : List ℕ) (q s : ℕ) → Path (rewritten_by N c) q p s → Path c q p s
  old_path [] q s w = w
  old_path (i ∷ p) q s w = go (old_nth N c i w.1) (old_path p w.0.target s w.3)
    where
      go : (r : Transition) × Nth c i r × (new_transition N r ≡ w.0) → Path c w.0.target p s → Path c q (i ∷ p) s
      go o rest = unfold new_transition in (
        o.0,
        o.1,
        ap (λ (x : Transition). x.source) o.2 ∙ w.2,
        subst (λ (x : ℕ). Path c x p s) (sym (ap (λ (x : Transition). x.target) o.2)) rest,
      )

  pub same_reached : (q : ℕ) → Reached c q ↔ Reached (rewritten_by N c) q
  unfolding rewritten_by
  same_reached q = (
    λ x. record { path = x.path; leads = new_path x.path c.initial q x.leads },
    λ x. record { path = x.path; leads = old_path x.path c.initial q x.leads },
  )

  module _ (P : Plan c N) where
    -- back along a path that starts board timer k nowhere, a timer that has the number k at its end has had it from its beginning
    numbered_before : (j k s : ℕ) → Has N s j k → (p : List ℕ) (q : ℕ) → Reached c q → Path c q p s → StartsNowhere (rewritten_by N c) k p
        → Has N q j k
    numbered_before j k s h [] q reach w u = rw w h
    numbered_before j k s h (i ∷ p) q reach w u =
        rw (← w.2) (over w.1 (rw w.2 reach) (u.0 _ (new_nth N c i w.1))
        (numbered_before j k s h p w.0.target (reached_step (rw w.2 reach) w.1) w.3 u.1))
      where
        over : {r : Transition} → Nth c i r → Reached c r.source → memb k (new_transition N r).starts ≡ false
            → Has N r.target j k → Has N r.source j k
        over {r} n here f t = unfold new_transition in (P.keeps i r j k n here (sym (started_alike c N P n here j k t) ∙ f) t)

    -- no transition of the rewritten chart has an unstarted test
    pub rewritten_started : (i : ℕ) (r : Transition) → Nth (rewritten_by N c) i r → UnstartedTest (rewritten_by N c) r → ⊥
    rewritten_started i r' n x = let o = old_nth N c i n in go o.0 o.1 (rw (← o.2) at x)
      where
        go : (r : Transition) → Nth c i r → UnstartedTest (rewritten_by N c) (new_transition N r) → ⊥
        go r m u = unfold new_transition rewritten_by in (
            let path : List ℕ = u.unstarted.path in
            let w : Path c c.initial path r.source = old_path path c.initial r.source u.unstarted.leads in
            let t = tested_old N r.source u.timer r.tests u.tests_it in
            P.begins t.0 u.timer
            (numbered_before t.0 u.timer r.source t.2 path c.initial reached_initial w u.unstarted.nowhere))
