-- Twins are an equivalence, the lowest twin that is computed is the lowest, and the pairs of a chart are the lowest twins of its live timers: a pair
-- exists exactly where some twin is live.
use mathlib.Core.Path.{◌≡◌, refl, sym, ap, ◌∙◌}
use mathlib.Core.Logic.{◌↔◌}
use mathlib.Core.Bool.{Bool, true, false, not, xor}
use mathlib.Core.List.{List, map}
use Prim.Native.Nat.{ℕ, ◌^◌, ◌≤◌, ◌<◌}
use native.Mathlib.Nat.{le_antisymm}
use native.Mathlib.Omega.{arith}
use lib.ListN.{length, get_or, length-map}
use Rattle.timer_set.specs.Members.{member, image}
use Rattle.timer_set.proofs.Members.{member_set_of}
use Rattle.timer_set.proofs.Images.{image_in, image_out, image_lt, image_empty}
use Rattle.lists.specs.Lists.{any_of}
use Rattle.lists.proofs.Bools.{not_both, is_no, same_bool, not-true}
use Rattle.lists.proofs.Membership.{any_in, any_out, nth_map, nth_unmap}
use Rattle.lists.proofs.Nth.{get_d_map_all}
use Rattle.lists.proofs.Lowest.{lowest_passes, lowest_most, lowest_same}
use Rattle.model.specs.Chart.{Chart}
use Rattle.model.specs.Valid.{Valid}
use Rattle.model.specs.Path.{Live}
use Rattle.model.specs.Live.{starts_set, live_flow, live_sets, live}
use Rattle.model.specs.Twins.{Twins, LowestTwin, TwinLive, in_same_sets, lowest_in_same, lowest_twin, merged_sets}
use Rattle.model.specs.Family.{is_pair, live_pairs}
use Rattle.model.proofs.Paths.{live_inside}
use Rattle.model.proofs.Settled.{length_settled, settled_words}
use Rattle.model.proofs.LivePaths.{live_shaped, live_iff}

-- ---- an equivalence

module _ {c : Chart} where
  pub twins_refl : (j : ℕ) → Twins c j j
  twins_refl j = record { together = λ i r n. refl }

  pub twins_sym : {j k : ℕ} → Twins c j k → Twins c k j
  twins_sym t = record { together = λ i r n. sym (t.together i r n) }

  pub twins_trans : {j k m : ℕ} → Twins c j k → Twins c k m → Twins c j m
  twins_trans t u = record { together = λ i r n. t.together i r n ∙ u.together i r n }

  -- twins have one lowest twin
  pub one_lowest : {j k m n : ℕ} → Twins c j k → LowestTwin c j m → LowestTwin c k n → m ≡ n
  one_lowest t a b = le_antisymm (a.lowest _ (twins_trans t b.twin)) (b.lowest _ (twins_trans (twins_sym t) a.twin))

  pub live_itself : {q j : ℕ} → Live c q j → TwinLive c q j
  live_itself {q} {j} l = record { twin = j; is_twin = twins_refl j; live = l }

-- ---- computed

xor_same : (a b : Bool) → xor a b ≡ false → a ≡ b
unfolding xor
xor_same true true e = refl
xor_same true false e = absurd (not_both refl e)
xor_same false true e = absurd (not_both refl e)
xor_same false false e = refl

xor_self : (a : Bool) → xor a a ≡ false
unfolding xor
xor_self true = refl
xor_self false = refl

pub same_as_itself : (ws : List ℕ) (j : ℕ) → in_same_sets ws j j ≡ true
unfolding in_same_sets
same_as_itself ws j = ap not (is_no (any_of (λ w. xor (member w j) (member w j)) ws) (λ h.
    let x = any_out (λ w. xor (member w j) (member w j)) ws h in
    not_both x.3 (xor_self (member x.1 j))))

-- the lowest is no higher
pub lowest_low : (ws : List ℕ) (n j : ℕ) → lowest_in_same ws n j ≤ j
unfolding lowest_in_same
lowest_low ws n j = lowest_most (in_same_sets ws j) n j (same_as_itself ws j)

module _ (c : Chart) where
  abbrev sets : List ℕ
  sets = map starts_set c.transitions

  pub twins_iff : (j k : ℕ) → (in_same_sets sets j k ≡ true) ↔ Twins c j k
  unfolding in_same_sets starts_set
  twins_iff j k = (
    λ h. record {
      together = λ i r n.
          let w = starts_set r in
          let none = is_no (xor (member w j) (member w k)) (λ x. not_both (any_in _ sets i (nth_map starts_set c.transitions i n.there) x)
          (not-true (any_of differ sets) h)) in
          sym (member_set_of r.starts j) ∙ xor_same _ _ none ∙ member_set_of r.starts k;
    },
    λ t. ap not (is_no (any_of differ sets) (λ h.
        let x = any_out differ sets h in
        let y = nth_unmap starts_set c.transitions x.0 x.2 in
        let same : member (starts_set y.0) j ≡ member (starts_set y.0) k =
        member_set_of y.0.starts j ∙ t.together x.0 y.0 (record { there = y.1 }) ∙ sym (member_set_of y.0.starts k) in
        not_both x.3 (ap differ (sym y.2) ∙ ap (λ (b : Bool). xor b (member (starts_set y.0) k)) same ∙ xor_self _))),
  )
    where
      differ : ℕ → Bool
      differ w = xor (member w j) (member w k)

  -- a lowest twin that is a timer of the chart is a twin
  pub lowest_is_twin : (j : ℕ) → lowest_twin c j < c.timers → Twins c j (lowest_twin c j)
  unfolding lowest_twin lowest_in_same
  lowest_is_twin j h = (twins_iff j _).0 (lowest_passes (in_same_sets sets j) c.timers h)

  pub lowest_twin_low : (j : ℕ) → lowest_twin c j ≤ j
  unfolding lowest_twin
  lowest_twin_low j = lowest_low sets c.timers j

  pub lowest_of_twins : (j k : ℕ) → Twins c j k → lowest_twin c j ≤ k
  unfolding lowest_twin lowest_in_same
  lowest_of_twins j k t = lowest_most (in_same_sets sets j) c.timers k ((twins_iff j k).1 t)

  pub lowest_twin_lem : (j : ℕ) → j < c.timers → LowestTwin c j (lowest_twin c j)
  lowest_twin_lem j h =
      record { twin = lowest_is_twin j (omega (arith, lowest_twin_low j)); lowest = λ k t. lowest_of_twins j k t }

  pub same_lowest : {j k : ℕ} → Twins c j k → lowest_twin c j ≡ lowest_twin c k
  unfolding lowest_twin lowest_in_same
  same_lowest {j} {k} t = lowest_same (in_same_sets sets j) (in_same_sets sets k) c.timers (λ i h. same_bool _ _
      (λ x. (twins_iff k i).1 (twins_trans (twins_sym t) ((twins_iff j i).0 x)))
      (λ x. (twins_iff j i).1 (twins_trans t ((twins_iff k i).0 x))))

-- ---- the pairs

-- one set for each location
pub merged_each : (c : Chart) → length (merged_sets c) ≡ c.locations
unfolding merged_sets live_sets live_flow
merged_each c = length-map (live_sets c) (image (lowest_twin c)) ∙ length_settled (live_flow c)

module _ {W : ℕ} {c : Chart} (valid : Valid W c) where
  pub live_lowest : {q j : ℕ} → Live c q j → LowestTwin c j (lowest_twin c j)
  live_lowest {q} {j} l = lowest_twin_lem c j (live_inside valid l).timer

  pub twin_lowest : {q j : ℕ} → TwinLive c q j → LowestTwin c j (lowest_twin c j)
  twin_lowest {q} {j} l = let a = live_lowest l.live in rw (same_lowest c l.is_twin)
      (record { twin = twins_trans l.is_twin a.twin; lowest = λ k t. a.lowest k (twins_trans (twins_sym l.is_twin) t) })

  -- timers that are live somewhere and have one lowest twin are twins
  pub lowest_twins : {q s j k : ℕ} → TwinLive c q j → TwinLive c s k → lowest_twin c j ≡ lowest_twin c k → Twins c j k
  lowest_twins l l' e = twins_trans (twin_lowest l).twin (twins_sym (rw e (twin_lowest l').twin))

  pub live_word : (q : ℕ) → get_or (live_sets c) q 0 < 2 ^ 64
  unfolding live_sets
  live_word = settled_words (live_flow c) (live_shaped valid)

  pub merged_at : (q : ℕ) → get_or (merged_sets c) q 0 ≡ image (lowest_twin c) (get_or (live_sets c) q 0)
  unfolding merged_sets
  merged_at q = get_d_map_all (image (lowest_twin c)) (image_empty (lowest_twin c)) (live_sets c) q

  pub live_member : (q j : ℕ) → member (get_or (live_sets c) q 0) j ≡ true → j < c.timers
  unfolding live
  live_member q j m = (live_inside valid ((live_iff valid q j).0 m)).timer

  -- a merged set has the chart's timers alone
  pub merged_few : (q : ℕ) → get_or (merged_sets c) q 0 < 2 ^ c.timers
  merged_few q = rw (merged_at q) (image_lt (lowest_twin c) (get_or (live_sets c) q 0) (live_word q) c.timers
      (λ j m. omega (arith, live_member q j m, lowest_twin_low c j)))

  -- the lowest twin of a live timer
  pub record LowestLive (q m : ℕ) : Type 0 where
    pub timer : ℕ
    pub live : Live c q timer
    pub lowest_is : lowest_twin c timer ≡ m

  pub pair_lowest : (q m : ℕ) → (is_pair (live_pairs c) q m ≡ true) ↔ LowestLive q m
  unfolding is_pair live_pairs live
  pair_lowest q m = (
    λ h.
        let x = image_out (lowest_twin c) _ (live_word q) m (rw (merged_at q) at h) in
        record { timer = x.0; live = (live_iff valid q x.0).0 x.1; lowest_is = x.2 },
    λ x. rw (merged_at q, ← x.lowest_is) (image_in (lowest_twin c) _ (live_word q) x.timer ((live_iff valid q x.timer).1 x.live)),
  )

  lowest_live_twin : {q j m : ℕ} → LowestLive q m → lowest_twin c j ≡ m → TwinLive c q j
  lowest_live_twin {q} {j} {m} x e =
      let a = live_lowest x.live in
      let small : lowest_twin c j < c.timers =
      omega (arith, e, x.lowest_is, (live_inside valid x.live).timer, lowest_twin_low c x.timer) in
      let same : lowest_twin c x.timer ≡ lowest_twin c j = x.lowest_is ∙ sym e in
      record { twin = x.timer; is_twin = twins_trans (lowest_is_twin c j small) (twins_sym (rw same at a.twin)); live = x.live }

  -- a pair exists exactly where some twin is live
  pub pair_twin : (q j : ℕ) → (is_pair (live_pairs c) q (lowest_twin c j) ≡ true) ↔ TwinLive c q j
  pair_twin q j = (
    λ h. lowest_live_twin ((pair_lowest q (lowest_twin c j)).0 h) refl,
    λ l. (pair_lowest q (lowest_twin c j)).1 (record { timer = l.twin; live = l.live; lowest_is = sym (same_lowest c l.is_twin) }),
  )

  -- the timer of a pair is its own lowest twin
  pub pair_own : (q m : ℕ) → is_pair (live_pairs c) q m ≡ true → lowest_twin c m ≡ m
  pair_own q m h =
      let x = (pair_lowest q m).0 h in
      ap (lowest_twin c) (sym x.lowest_is) ∙ sym (same_lowest c (live_lowest x.live).twin) ∙ x.lowest_is
