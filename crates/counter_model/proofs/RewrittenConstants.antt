-- Which constants over 65,535 the rewriting keeps: exactly those on transitions that leave a reached location. So 18 comes of the rewritten chart
-- exactly where it comes of the drawn one, unless all such constants of the drawn one are on transitions that leave spare locations. Where a plan
-- numbers every tested timer, each test stays with its constant, and a transition that leaves a spare location has no tests.
use mathlib.Core.Path.{◌≡◌, refl, sym, ap, subst, ◌∙◌}
use mathlib.Core.Logic.{⊎_elim, ◌↔◌}
use mathlib.Core.Bool.{Bool, true, false}
use mathlib.Core.Option.{some, none-ne-some}
use Prim.Native.Nat.{ℕ, ◌≤◌}
use lib.ListN.{get_elem?}
use Rattle.lists.proofs.Bools.{same_bool, not_both, is_no}
use Rattle.model.specs.Chart.{Test, Transition, Chart, Nth}
use Rattle.model.specs.Version.{widest, large_constant, LargeConstant}
use Rattle.model.specs.Valid.{Valid}
use Rattle.model.specs.Path.{Reached}
use Rattle.model.specs.Live.{reached_sets}
use Rattle.model.specs.Spare.{leaves_reached, bare_unless, spare_cleared}
use Rattle.model.specs.Rewrite.{Numbering, new_transition, rewritten_by}
use Rattle.model.specs.Plan.{Plan}
use Rattle.model.proofs.SameReached.{plan_there}
use Rattle.model.proofs.ReachedPart.{leaves_iff}
use Rattle.model.proofs.SpareCleared.{cleared_from, cleared_kept, cleared_same, cleared_valid, reached_or_spare, cleared_numbered}
use Rattle.model.proofs.Rewritten.{new_nth, on_timer, tested_nth, new_test}
use Rattle.model.proofs.RewrittenValid.{rewritten_valid}
use Rattle.model.proofs.Versions.{narrowed, narrow_small, large_iff}
use Rattle.counter_model.specs.Constants.{LargeReached, LargeSpare}

-- ---- the chart whose spare transitions are cleared

module _ {W : ℕ} {c : Chart} (valid : Valid W c) where
  -- every test of it is one of the chart, on a transition that leaves a reached location
  tested_kept : {i : ℕ} {r : Transition} → Nth (spare_cleared c) i r → (n : ℕ) {t : Test} → get_elem? r.tests n ≡ some t
      → Nth c i r × Reached c r.source
  tested_kept {i} {r} m n e = let u = cleared_from c m in go u.0 u.1 (leaves_reached (reached_sets c) u.0) refl u.2
    where
      go : (o : Transition) → Nth c i o → (b : Bool) → leaves_reached (reached_sets c) o ≡ b → bare_unless b o ≡ r → Nth c i r × Reached c r.source
      go o k true h z = (subst (Nth c i) z k, subst (λ (x : Transition). Reached c x.source) z ((leaves_iff valid k).0 h))
      go o k false h z = absurd (none-ne-some _ (ap (λ (x : Transition). get_elem? x.tests n) z ∙ e))

  large_from : LargeConstant (spare_cleared c) → LargeReached c
  large_from l = let k = tested_kept l.is_nth l.place l.is_test in record {
    large = record {
      number = l.number;
      transition = l.transition;
      is_nth = k.0;
      place = l.place;
      test = l.test;
      is_test = l.is_test;
      over = l.over;
    };
    reached = k.1;
  }

  large_into : LargeReached c → LargeConstant (spare_cleared c)
  large_into x = let l = x.large in record {
    number = l.number;
    transition = l.transition;
    is_nth = cleared_kept valid l.is_nth x.reached;
    place = l.place;
    test = l.test;
    is_test = l.is_test;
    over = l.over;
  }

  -- it has a constant over 65,535 exactly where the chart has one on a transition that leaves a reached location
  pub large_cleared_iff : (large_constant (spare_cleared c) ≡ true) ↔ LargeReached c
  large_cleared_iff = let i = large_iff (spare_cleared c) in ((λ e. large_from (i.0 e)), (λ x. i.1 (large_into x)))

  pub small_cleared : large_constant c ≡ false → large_constant (spare_cleared c) ≡ false
  small_cleared e = is_no _ (λ h. not_both ((large_iff c).1 (large_cleared_iff.0 h).large) e)

  -- it has one exactly where the chart has one, unless the chart has them on transitions that leave spare locations alone
  pub large_same_iff : (large_constant (spare_cleared c) ≡ large_constant c) ↔ (LargeSpare c → LargeReached c)
  large_same_iff = (
    (λ e x. large_cleared_iff.0 (e ∙ (large_iff c).1 x.large)),
    (λ f. same_bool _ _ (λ h. (large_iff c).1 (large_cleared_iff.0 h).large) (λ h. large_cleared_iff.1 (either f ((large_iff c).0 h)))),
  )
    where
      either : (LargeSpare c → LargeReached c) → LargeConstant c → LargeReached c
      either f l = ⊎_elim (λ x. record { large = l; reached = x }) (λ x. f (record { large = l; spare = x })) (reached_or_spare valid l.is_nth)

-- ---- the chart that is made of it

module _ (c : Chart) (N : Numbering) (P : Plan c N) (valid : Valid widest c) (few : N.used ≤ 64) where
  abbrev d : Chart
  d = spare_cleared c

  plan : Plan d N
  plan = plan_there (cleared_same valid) P

  large_new : LargeConstant d → LargeConstant (rewritten_by N d)
  unfolding new_transition
  large_new l =
      let r = l.transition in
      let numbered = cleared_numbered valid P l.number r l.is_nth in
      let has = numbered l.test.timer (tested_nth r.tests l.place l.is_test) in
      record {
        number = l.number;
        transition = _;
        is_nth = new_nth N d l.number l.is_nth;
        place = l.place;
        test = on_timer l.test has.0;
        is_test = new_test N r.source r.tests numbered l.place l.is_test has.1;
        over = l.over;
      }

  -- no constant comes from elsewhere
  small_new : large_constant d ≡ false → large_constant (rewritten_by N d) ≡ false
  small_new e = narrow_small (rewritten_by N d) (rewritten_valid d N plan 2 (narrowed d e (cleared_valid valid)) few)

  pub large_kept : large_constant (rewritten_by N (spare_cleared c)) ≡ large_constant (spare_cleared c)
  large_kept = same_bool _ _ (back (large_constant d) refl) (λ e. (large_iff (rewritten_by N d)).1 (large_new ((large_iff d).0 e)))
    where
      back : (b : Bool) → large_constant d ≡ b → large_constant (rewritten_by N d) ≡ true → b ≡ true
      back true e h = refl
      back false e h = absurd (not_both h (small_new e))

  -- so 18 comes of both charts or of neither, exactly unless all constants over 65,535 are on transitions that leave spare locations
  pub large_both_iff : (large_constant c ≡ large_constant (rewritten_by N (spare_cleared c))) ↔ (LargeSpare c → LargeReached c)
  large_both_iff = let i = large_same_iff valid in ((λ e. i.0 (sym large_kept ∙ sym e)), (λ f. sym (large_kept ∙ i.1 f)))

  -- and wherever no transition that leaves a spare location has one
  pub large_both : (LargeSpare c → ⊥) → large_constant c ≡ large_constant (rewritten_by N (spare_cleared c))
  large_both none = large_both_iff.1 (λ x. absurd (none x))
