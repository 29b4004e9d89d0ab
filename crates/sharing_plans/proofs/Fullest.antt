-- The count of the fullest set: none has more, and one has as many; and every plan has a timer for each timer of a live set, twins counted once. What
-- is hard: the timers of one live set that are not twins have different numbers.
use mathlib.Core.Path.{◌≡◌, refl, sym, ap, ◌∙◌}
use mathlib.Core.Logic.{◌⊎◌, inl, inr}
use mathlib.Core.Bool.{true, Bool-discrete}
use mathlib.Core.Option.{some}
use mathlib.Core.List.{List, [], ◌∷◌}
use Prim.Native.Nat.{ℕ, zero, suc, ◌≤◌, ◌<◌}
use native.Mathlib.Omega.{arith}
use lib.Count.{ones}
use lib.ListN.{length, get_or}
use Rattle.lists.specs.Lists.{memb}
use Rattle.lists.proofs.Bools.{lt_or_le}
use Rattle.model.specs.Chart.{Chart}
use Rattle.model.specs.Valid.{Valid}
use Rattle.model.specs.Live.{fullest}
use Rattle.model.specs.Twins.{Twins, LowestTwin, merged_sets}
use Rattle.model.specs.Rewrite.{Numbering}
use Rattle.model.specs.Plan.{Has}
use Rattle.model.specs.SharingRule.{SameFamily}
use Rattle.sharing_plans.specs.SharingPlan.{SharingPlan}
use Rattle.sharing_plans.specs.CountedOnce.{CountedOnce}
use Rattle.model.proofs.Twins.{one_lowest, live_itself}
use Rattle.sharing_plans.proofs.DifferentNumbers.{few_numbers}
use Rattle.sharing_plans.proofs.ChartPlans.{choose}
use Rattle.sharing_plans.proofs.CountedOnce.{counted_once}

-- ---- the fullest of sets

pub fullest_most : (l : List ℕ) (q : ℕ) → ones (get_or l q 0) ≤ fullest l
unfolding fullest ones
fullest_most [] q = omega arith
fullest_most (w ∷ l) zero = omega arith
fullest_most (w ∷ l) (suc q) = omega (arith, fullest_most l q)

pub fullest_least : (n : ℕ) (l : List ℕ) → ((q : ℕ) → q < length l → ones (get_or l q 0) ≤ n) → fullest l ≤ n
unfolding fullest
fullest_least n [] h = omega arith
fullest_least n (w ∷ l) h = omega (arith, h 0 (omega arith), fullest_least n l (λ q b. h (suc q) (omega arith)))

pub fullest_reached : (l : List ℕ) → 1 ≤ length l → (q : ℕ) × (q < length l) × (ones (get_or l q 0) ≡ fullest l)
unfolding fullest
fullest_reached [] h = absurd (omega arith)
fullest_reached (w ∷ []) h = (0, omega arith, omega arith)
fullest_reached (w ∷ v ∷ l) h = go (fullest_reached (v ∷ l) (omega arith)) (lt_or_le (ones w) (fullest (v ∷ l)))
  where
    go : (q : ℕ) × (q < length (v ∷ l)) × (ones (get_or (v ∷ l) q 0) ≡ fullest (v ∷ l)) → (ones w < fullest (v ∷ l)) ⊎ (fullest (v ∷ l) ≤ ones w)
        → (q : ℕ) × (q < length (w ∷ v ∷ l)) × (ones (get_or (w ∷ v ∷ l) q 0) ≡ fullest (w ∷ v ∷ l))
    go x (inl k) = (suc x.0, omega (arith, x.1), omega (arith, x.2))
    go x (inr k) = (0, omega arith, omega arith)

-- ---- of a chart's plan

-- timers that have one number at a location are twins
pub plan_different_here : {c : Chart} {N : Numbering} → SharingPlan c N → (q j i n : ℕ) → Has N q j n → Has N q i n → Twins c j i
plan_different_here {c} {N} plan q j i n e e' =
    plan.different q j q i n (record { location = q; of_one = itself j e; of_other = itself i e' }) e e'
  where
    itself : (j : ℕ) → Has N q j n → SameFamily c j q q
    itself j e = record { pair = live_itself (plan.live q j n e); way = []; chain = refl }

-- no more timers are live at a location, twins counted once, than a plan has
module _ {c : Chart} {N : Numbering} (plan : SharingPlan c N) (q : ℕ) where
  -- m is the lowest twin of a timer that has the number n
  record TwinNumber (m n : ℕ) : Type 0 where
    timer : ℕ
    is_lowest : LowestTwin c timer m
    number : Has N q timer n

  counted_few : {n : ℕ} → CountedOnce c q n → n ≤ N.used
  counted_few a =
      let x = choose (λ m. Bool-discrete (memb m a.timers) true) number in
      rw (← a.count) (few_numbers x.0 N.used c.timers 0 a.timers a.rising
      (λ m h. plan.below _ _ _ (x.1 m h).number)
      (λ m m' h h' e. same (x.1 m h) (x.1 m' h') e))
    where
      number : (m : ℕ) → memb m a.timers ≡ true → (n : ℕ) × TwinNumber m n
      number m h =
          let y = (a.are m).0 h in
          let n = plan.numbered q y.0 y.1 in
          (n.0, record { timer = y.0; is_lowest = y.2; number = n.1 })

      same : {m m' n n' : ℕ} → TwinNumber m n → TwinNumber m' n' → n ≡ n' → m ≡ m'
      same a b e = one_lowest (plan_different_here plan q _ _ _ a.number (b.number ∙ ap some (sym e))) a.is_lowest b.is_lowest

pub plan_holds_live : {W : ℕ} {c : Chart} → Valid W c → {N : Numbering} → SharingPlan c N → (q : ℕ) → ones (get_or (merged_sets c) q 0) ≤ N.used
plan_holds_live valid plan q = counted_few plan q (counted_once valid q)
