-- A plan of a chart by paths gives one of its list of families, and back, with as many timers, so `fewest` of that list is the fewest timers of any
-- plan; and first fit is such a plan. Hard: a timer has the number of the one place where its family stands.
use mathlib.Core.Path.{◌≡◌, refl, sym, ap, ◌∙◌}
use mathlib.Core.Option.{some, some-injective}
use mathlib.Core.List.{List, map}
use Prim.Native.Nat.{ℕ, ◌*◌, ◌<◌}
use native.Mathlib.Decide.{ℕ_discrete, dec_lt}
use native.Mathlib.Omega.{arith}
use lib.ListN.{length, get_elem?}
use Rattle.lists.proofs.Membership.{nth_map}
use Rattle.lists.proofs.Nth.{nth_below, below_nth}
use Rattle.model.specs.Chart.{Chart}
use Rattle.model.specs.Valid.{Valid}
use Rattle.model.specs.Path.{Live}
use Rattle.model.specs.Live.{live_sets, live}
use Rattle.model.specs.Twins.{Twins, lowest_twin}
use Rattle.model.specs.Family.{Pairs, live_pairs, Family, family_number, family_of, families, WellFormed}
use Rattle.model.specs.FirstFit.{number_at}
use Rattle.model.specs.SmallestPlan.{fewest}
use Rattle.model.specs.Rewrite.{Numbering, through, board_numbering}
use Rattle.model.specs.Plan.{Has}
use Rattle.model.specs.SharingRule.{SameFamily, FamiliesMeet, SharingRule}
use Rattle.sharing_plans.specs.SharingPlan.{SharingPlan, FewestTimers}
use Rattle.model.proofs.Joined.{joined_refl}
use Rattle.model.proofs.Families.{family_timer, family_has, family_same}
use Rattle.model.proofs.FamilyList.{families_have, families_are, families_rising}
use Rattle.model.proofs.NumberAt.{has_pair, number_in, number_out}
use Rattle.model.proofs.PairNumbers.{has_whole}
use Rattle.model.proofs.LivePaths.{live_iff}
use Rattle.model.proofs.Twins.{live_itself, same_lowest, lowest_twins, pair_twin}
use Rattle.model.proofs.LivePairs.{live_pairs_formed, joined_iff}
use Rattle.model.proofs.FamilyNumbers.{family, live_family, meets_iff}
use Rattle.model.proofs.Through.{through_in, through_has}
use Rattle.model.proofs.FirstFitShares.{first_fit_shares}
use Rattle.model.proofs.SharingDetermined.{meeting_apart}
use Rattle.sharing_plans.specs.FamilyPlans.{FamilyPlan}
use Rattle.sharing_plans.proofs.DifferentNumbers.{rising_once}
use Rattle.sharing_plans.proofs.Fewest.{with, given, given_nth, nth_given, fewest_plan, fewest_least}

-- where every i that is A has a number that is P of it, a function gives one
pub choose : {A : ℕ → Type 0} {P : ℕ → ℕ → Type 0} → ((i : ℕ) → Dec (A i)) → ((i : ℕ) → A i → (k : ℕ) × P i k)
    → (f : ℕ → ℕ) × ((i : ℕ) → A i → P i (f i))
choose {A} {P} decide Some-number = (λ i. at i (decide i), λ i a. is i a (decide i))
  where
    at : (i : ℕ) → Dec (A i) → ℕ
    at i (yes a) = (Some-number i a).0
    at i (no n) = 0

    is : (i : ℕ) → A i → (d : Dec (A i)) → P i (at i d)
    is i a (yes b) = (Some-number i b).1
    is i a (no n) = absurd (n a)

module _ {W : ℕ} {c : Chart} (valid : Valid W c) where
  abbrev pairs : Pairs
  pairs = live_pairs c

  abbrev own : List Family
  own = families pairs

  formed : WellFormed pairs
  formed = live_pairs_formed valid

  -- a family stands at one place
  place_once : (i j : ℕ) {g : Family} → get_elem? own i ≡ some g → get_elem? own j ≡ some g → i ≡ j
  place_once i j e e' =
      rising_once (64 * pairs.locations) 0 (map family_number own) (families_rising formed) i j
      (nth_map family_number own i e) (nth_map family_number own j e')

  one_family : {j q s : ℕ} → SameFamily c j q s → family valid q j ≡ family valid s j
  one_family {j} {q} {s} a = family_same formed ((pair_twin valid q j).1 a.pair) ((joined_iff valid j q s a.pair).1 a)

  twins_family : (q : ℕ) {j i : ℕ} → Twins c j i → family valid q j ≡ family valid q i
  twins_family q t = ap (family_of pairs q) (same_lowest c t)

  -- families of twins that meet are the same
  meet_same : {q j s i : ℕ} → FamiliesMeet c q j s i → Twins c j i → family valid q j ≡ family valid s i
  meet_same m t = one_family m.of_one ∙ twins_family m.location t ∙ sym (one_family m.of_other)

  -- ---- from a plan by paths

  module _ {N : Numbering} (plan : SharingPlan c N) where
    -- the family at place i is that of a live timer, which has the number n
    record TimerNumber (i n : ℕ) : Type 0 where
      location : ℕ
      timer : ℕ
      live : Live c location timer
      is_nth : get_elem? own i ≡ some (family valid location timer)
      number : Has N location timer n

    timer_number : (i : ℕ) → i < length own → (n : ℕ) × TimerNumber i n
    timer_number i h =
        let x = nth_below own i h in
        let q = x.0.first in
        let y = live_family valid x.0 (families_are formed i x.0 x.1) in
        let n = plan.numbered q y.timer y.live in
        (n.0, record { location = q; timer = y.timer; live = y.live; is_nth = x.1 ∙ ap some y.whole; number = n.1 })

    pub family_plan : (f : ℕ → ℕ) × FamilyPlan own N.used f
    family_plan = let x = choose (λ i. dec_lt i (length own)) timer_number in (
      x.0,
      record {
        below = λ i h. plan.below _ _ _ (x.1 i h).number;
        different = λ i j g h e e' n m s.
            let a = x.1 i (below_nth own i e) in
            let b = x.1 j (below_nth own j e') in
            let is = some-injective _ _ (sym a.is_nth ∙ e) in
            let is' = some-injective _ _ (sym b.is_nth ∙ e') in
            let meet = (meets_iff valid _ _ _ _ (live_itself a.live) (live_itself b.live)).0 (rw (is, is') m) in
            let t = plan.different _ _ _ _ (x.0 i) meet a.number (b.number ∙ ap some (sym s)) in
            n (place_once i j a.is_nth (b.is_nth ∙ ap some (sym (meet_same meet t))));
      },
    )

  -- ---- to a plan by paths

  module _ {k : ℕ} {f : ℕ → ℕ} (plan : FamilyPlan own k f) where
    -- the numbers of the families' pairs
    abbrev M : Numbering
    M = record { number = number_at (given f own); used = k }

    -- a live timer has that of its lowest twin
    abbrev N : Numbering
    N = through (live_sets c) (lowest_twin c) M

    -- the timer is live, and its family stands at a place that is given n
    record PlaceNumber (q j n : ℕ) : Type 0 where
      live : Live c q j
      place : ℕ
      is_nth : get_elem? own place ≡ some (family valid q j)
      number : f place ≡ n

    number_place : (q j n : ℕ) → Has N q j n → PlaceNumber q j n
    unfolding live
    number_place q j n e =
        let h = through_has (live_sets c) (lowest_twin c) M q j n e in
        let x = number_out q (lowest_twin c j) (given f own) n h.1 in
        let y = nth_given f own x.place x.is_nth in
        let g = x.placed.family in
        let a = families_are formed x.place g y.0 in
        record {
          live = (live_iff valid q j).0 h.0;
          place = x.place;
          is_nth = y.0 ∙ ap some (has_whole formed g q (lowest_twin c j) a x.holds);
          number = sym y.1 ∙ x.number;
        }

    place_number : (q j i : ℕ) → Live c q j → get_elem? own i ≡ some (family valid q j) → Has N q j (f i)
    unfolding live
    place_number q j i l e =
        let m = lowest_twin c j in
        let pair = (pair_twin valid q j).1 (live_itself l) in
        let its = has_pair (family_of pairs q m) q m (family_timer pairs q m) ((family_has formed q m pair q).1 (joined_refl q)) in
        let x = number_in q m (given f own) i (with (family_of pairs q m) (f i)) (given_nth f own i e) its in
        let given-it = through_in (live_sets c) (lowest_twin c) M q j ((live_iff valid q j).1 l) ∙ x.1 in
        let y = number_place q j x.0 given-it in
        given-it ∙ ap some (sym y.number ∙ ap f (place_once y.place i y.is_nth e))

    pub sharing_plan : (N : Numbering) × SharingPlan c N × (N.used ≡ k)
    unfolding through
    sharing_plan = (
      N,
      record {
        numbered = λ q j l. let e = families_have formed q (lowest_twin c j) ((pair_twin valid q j).1 (live_itself l)) in
            (f e.place, place_number q j e.place l e.is_nth);
        live = λ q j n e. (number_place q j n e).live;
        one_number = λ q s j i n a t l e.
            let x = number_place q j n e in
            place_number s i x.place l (x.is_nth ∙ ap some (one_family a ∙ twins_family s t)) ∙ ap some x.number;
        different = different;
        below = λ q j n e. let x = number_place q j n e in rw x.number at (plan.below x.place (below_nth own x.place x.is_nth));
      },
      refl,
    )
      where
        different : (q j s i n : ℕ) → FamiliesMeet c q j s i → Has N q j n → Has N s i n → Twins c j i
        different q j s i n m e e' =
            let x = number_place q j n e in
            let y = number_place s i n e' in
            go x y (ℕ_discrete x.place y.place)
          where
            go : (x : PlaceNumber q j n) (y : PlaceNumber s i n) → Dec (x.place ≡ y.place) → Twins c j i
            go x y (yes p) =
                let g = some-injective _ _ (sym x.is_nth ∙ ap (get_elem? own) p ∙ y.is_nth) in
                lowest_twins valid m.of_one.pair m.of_other.pair
                (sym (family_timer pairs q _) ∙ ap (λ (g : Family). g.timer) g ∙ family_timer pairs s _)
            go x y (no d) =
                let met = (meets_iff valid q j s i m.of_one.pair m.of_other.pair).1 m in
                absurd (plan.different x.place y.place _ _ x.is_nth y.is_nth d met (x.number ∙ sym y.number))

  -- ---- the fewest

  pub fewest_timers : FewestTimers c (fewest own)
  fewest_timers =
      let x = sharing_plan (fewest_plan own).1 in
      record { numbering = x.0; plan = x.1; used_is = x.2; least = λ N a. fewest_least (family_plan a).1 }

  -- the rule of first fit gives a plan
  pub rule_plan : {N : Numbering} → SharingRule c N → SharingPlan c N
  rule_plan rule = record {
    numbered = rule.numbered;
    live = rule.live;
    one_number = rule.one_number;
    different = λ q j s i n m e e'. (meeting_apart valid rule q j s i n m e e').0;
    below = rule.used_above;
  }

  pub first_fit_plan : SharingPlan c (board_numbering c)
  first_fit_plan = rule_plan (first_fit_shares valid)

-- there is one such number
pub one_fewest : {c : Chart} {m n : ℕ} → FewestTimers c m → FewestTimers c n → m ≡ n
one_fewest a b = omega (arith, a.least b.numbering b.plan, b.least a.numbering a.plan, a.used_is, b.used_is)
