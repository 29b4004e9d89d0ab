-- The family that is computed of a pair is its family by chains of transitions: its locations, its number, which one is earlier, and which ones meet.
use mathlib.Core.Path.{◌≡◌, refl, sym, ap, ◌∙◌}
use mathlib.Core.Logic.{◌↔◌}
use mathlib.Core.Bool.{true}
use Prim.Native.Nat.{ℕ, ◌<◌}
use native.Mathlib.Omega.{arith}
use Rattle.lists.specs.Lists.{memb}
use Rattle.lists.proofs.Membership.{any_memb_in, any_memb_out}
use Rattle.model.specs.Chart.{Chart}
use Rattle.model.specs.Valid.{Valid}
use Rattle.model.specs.Path.{Live}
use Rattle.model.specs.Twins.{TwinLive, lowest_twin}
use Rattle.model.specs.Family.{live_pairs, Family, family_number, family_of, meets}
use Rattle.model.specs.Placing.{FamilyOfPair}
use Rattle.model.specs.SharingRule.{SameFamily, FamilyNumber, Earlier, FamiliesMeet}
use Rattle.model.proofs.Families.{family_timer, family_has, first_least, first_joined}
use Rattle.model.proofs.Twins.{twins_refl, one_lowest, twin_lowest, pair_lowest, pair_twin}
use Rattle.model.proofs.LivePairs.{live_pairs_formed, joined_iff}

-- a family has one number
pub number_unique : {c : Chart} {q j m n : ℕ} → FamilyNumber c q j m → FamilyNumber c q j n → m ≡ n
number_unique {j = j} a b = omega (
  arith,
  one_lowest (twins_refl j) a.is_lowest b.is_lowest,
  a.is_its,
  b.is_its,
  a.smallest b.location b.same,
  b.smallest a.location a.same,
)

-- meeting goes both ways
pub meet_sym : {c : Chart} {q j s i : ℕ} → FamiliesMeet c q j s i → FamiliesMeet c s i q j
meet_sym m = record { location = m.location; of_one = m.of_other; of_other = m.of_one }

module _ {W : ℕ} {c : Chart} (valid : Valid W c) where
  -- the family that is computed of a pair: that of its lowest twin
  abbrev pub family : ℕ → ℕ → Family
  family q j = family_of (live_pairs c) q (lowest_twin c j)

  pub family_locations : (q j : ℕ) → TwinLive c q j → (s : ℕ) → (memb s (family q j).locations ≡ true) ↔ SameFamily c j q s
  family_locations q j l s =
      let has = family_has (live_pairs_formed valid) q (lowest_twin c j) ((pair_twin valid q j).1 l) s in
      (λ m. (joined_iff valid j q s l).0 (has.0 m), λ a. has.1 ((joined_iff valid j q s l).1 a))

  pub family_number_lem : (q j : ℕ) → TwinLive c q j → FamilyNumber c q j (family_number (family q j))
  unfolding family_number
  family_number_lem q j l = let m = lowest_twin c j in let pair = (pair_twin valid q j).1 l in record {
    location = (family q j).first;
    lowest = m;
    same = (joined_iff valid j q (family q j).first l).0 (first_joined (live_pairs_formed valid) q m pair);
    is_lowest = twin_lowest valid l;
    is_its = rw (family_timer (live_pairs c) q m) refl;
    smallest = λ s a. rw (family_timer (live_pairs c) q m)
        (omega (arith, first_least (live_pairs_formed valid) q m pair s ((joined_iff valid j q s l).1 a)));
  }

  -- a family that is computed is that of a timer that is live at its first location
  pub record LiveFamily (f : Family) : Type 0 where
    pub timer : ℕ
    pub live : Live c f.first timer
    pub whole : f ≡ family f.first timer

  pub live_family : (f : Family) → FamilyOfPair (live_pairs c) f → LiveFamily f
  live_family f o =
      let x = (pair_lowest valid f.first f.timer).0 o.pair in
      record { timer = x.timer; live = x.live; whole = o.whole ∙ ap (family_of (live_pairs c) f.first) (sym x.lowest_is) }

  module _ (q j s i : ℕ) (l : TwinLive c q j) (l' : TwinLive c s i) where
    pub earlier_iff : (family_number (family q j) < family_number (family s i)) ↔ Earlier c q j s i
    earlier_iff = (
      λ h. record {
        lower = family_number (family q j);
        higher = family_number (family s i);
        is_lower = family_number_lem q j l;
        is_higher = family_number_lem s i l';
        rises = h;
      },
      λ e. omega (arith, number_unique e.is_lower (family_number_lem q j l), number_unique e.is_higher (family_number_lem s i l'), e.rises),
    )

    pub meets_iff : (meets (family q j) (family s i) ≡ true) ↔ FamiliesMeet c q j s i
    unfolding meets
    meets_iff = (
      λ h.
          let x = any_memb_out (λ y. memb y (family s i).locations) (family q j).locations h in
          record { location = x.0; of_one = (family_locations q j l x.0).0 x.1; of_other = (family_locations s i l' x.0).0 x.2 },
      λ m.
          any_memb_in (λ y. memb y (family s i).locations) m.location (family q j).locations
          ((family_locations q j l m.location).1 m.of_one) ((family_locations s i l' m.location).1 m.of_other),
    )
