-- What the sharing rule says of the numberings that keep it: families that meet have different numbers, so two timers of a location that are not
-- twins have, and there is only one such numbering. Hard: two of them are equal by induction over the family numbers. If a family had a smaller
-- number in the one than in the other, an earlier family that it meets would hold that number in the other, so, numbered alike already, in the one
-- too.
use mathlib.Core.Path.{◌≡◌, refl, sym, ap, ◌∙◌}
use mathlib.Core.Logic.{⊎_elim}
use mathlib.Core.Option.{Option, none, some}
use mathlib.Core.List.{[]}
use Prim.Native.Nat.{ℕ, zero, suc, ◌≤◌, ◌<◌}
use native.Mathlib.Nat.{le_antisymm, lt-suc_self}
use native.Mathlib.Omega.{arith}
use Rattle.lists.proofs.Bools.{lt_or_le}
use Rattle.model.specs.Chart.{Chart}
use Rattle.model.specs.Valid.{Valid}
use Rattle.model.specs.Path.{Live}
use Rattle.model.specs.Twins.{Twins, TwinLive, lowest_twin}
use Rattle.model.specs.Rewrite.{Numbering}
use Rattle.model.specs.Plan.{Has}
use Rattle.model.specs.SharingRule.{SameFamily, FamilyNumber, Earlier, FamiliesMeet, HeldEarlier, SharingRule}
use Rattle.model.proofs.Paths.{live_inside}
use Rattle.model.proofs.Joined.{joined_trans, joined_sym}
use Rattle.model.proofs.Twins.{twins_refl, one_lowest, live_itself, twin_lowest, lowest_twins}
use Rattle.model.proofs.LivePairs.{joined_iff}
use Rattle.model.proofs.FamilyNumbers.{number_unique, meet_sym, family_number_lem}

-- a family is not earlier than one that it meets and that has the same number
not_earlier : {c : Chart} {N : Numbering} → SharingRule c N → {q j s i k a b : ℕ} → FamiliesMeet c q j s i → Has N q j k → Has N s i k
    → FamilyNumber c q j a → FamilyNumber c s i b → b ≤ a
not_earlier {c} {N} rule {q} {j} {s} {i} {k} {a} {b} m e e' f g = ⊎_elim (λ l. absurd (rule.free s i k e' (held l))) (λ l. l) (lt_or_le a b)
  where
    held : a < b → HeldEarlier c N s i k
    held l =
        let earlier : Earlier c q j s i = record { lower = a; higher = b; is_lower = f; is_higher = g; rises = l } in
        record { location = q; timer = j; earlier = earlier; meet = m; number = e }

-- pairs that have one number, of families that meet, are of one family
pub meeting_apart : {W : ℕ} {c : Chart} → Valid W c → {N : Numbering} → SharingRule c N → (q j s i k : ℕ) → FamiliesMeet c q j s i
    → Has N q j k → Has N s i k → Twins c j i × SameFamily c j q s
meeting_apart {c = c} valid rule q j s i k m e e' =
    let l = m.of_one.pair in
    let l' = m.of_other.pair in
    let f = family_number_lem valid q j l in
    let g = family_number_lem valid s i l' in
    let same = le_antisymm (not_earlier rule (meet_sym m) e' e g f) (not_earlier rule m e e' f g) in
    let u : f.lowest ≡ lowest_twin c j = one_lowest (twins_refl j) f.is_lowest (twin_lowest valid l) in
    let w : g.lowest ≡ lowest_twin c i = one_lowest (twins_refl i) g.is_lowest (twin_lowest valid l') in
    let t : lowest_twin c j ≡ lowest_twin c i = omega (arith, same, f.is_its, g.is_its, u, w, small l, small l') in
    let way = (joined_iff valid i s m.location l').1 m.of_other in (
      lowest_twins valid l l' t,
      (joined_iff valid j q s l).0 (joined_trans ((joined_iff valid j q m.location l).1 m.of_one) (joined_sym (rw (sym t) at way))),
    )
  where
    small : {q j : ℕ} → TwinLive c q j → lowest_twin c j < 64
    small {q} {j} l = omega (arith, (twin_lowest valid l).lowest l.twin l.is_twin, (live_inside valid l.live).timer, valid.few_timers)

-- so two timers that are live at one location and are not twins have different numbers there
pub different_here : {W : ℕ} {c : Chart} → Valid W c → {N : Numbering} → SharingRule c N → (q j i k : ℕ) → Has N q j k → Has N q i k → Twins c j i
different_here {c = c} valid {N} rule q j i k e e' =
    (meeting_apart valid rule q j q i k (record { location = q; of_one = itself j e; of_other = itself i e' }) e e').0
  where
    itself : (j : ℕ) → Has N q j k → SameFamily c j q q
    itself j e = record { pair = live_itself (rule.live q j k e); way = []; chain = refl }

-- the two number the families below the limit alike
abbrev AlikeBelow : Chart → ℕ → Numbering → Numbering → Type 0
AlikeBelow c limit N M = (q j n : ℕ) → Live c q j → FamilyNumber c q j n → n < limit → N.number q j ≡ M.number q j

-- then the next one's number in M is at most that in N
next_most : {c : Chart} {N M : Numbering} → SharingRule c N → SharingRule c M → (q j n k m : ℕ) → FamilyNumber c q j n → AlikeBelow c n N M
    → Has N q j k → Has M q j m → m ≤ k
next_most {c} {N} {M} a b q j n k m f alike e e' =
    ⊎_elim (λ l. absurd (a.free q j k e (held (b.smaller_held q j m k e' l)))) (λ l. l) (lt_or_le k m)
  where
    held : HeldEarlier c M q j k → HeldEarlier c N q j k
    held h =
        let x = h.earlier in
        let l = b.live h.location h.timer k h.number in
        let same = alike h.location h.timer x.lower l x.is_lower (omega (arith, number_unique x.is_higher f, x.rises)) in
        record { location = h.location; timer = h.timer; earlier = x; meet = h.meet; number = same ∙ h.number }

alike_below : {c : Chart} {N M : Numbering} → SharingRule c N → SharingRule c M → (limit : ℕ) → AlikeBelow c limit N M
alike_below a b zero q j n live f l = absurd (omega arith)
alike_below {c} {N} {M} a b (suc limit) q j n live f l =
    let before : AlikeBelow c n N M = λ s i o live g h. alike_below a b limit s i o live g (omega arith) in
    let x = a.numbered q j live in
    let y = b.numbered q j live in
    let most = next_most a b q j n x.0 y.0 f before x.1 y.1 in
    let least = next_most b a q j n y.0 x.0 f (λ s i o live g h. sym (before s i o live g h)) y.1 x.1 in
    x.1 ∙ ap (λ (k : ℕ). some k) (le_antisymm least most) ∙ sym y.1

-- then no more numbers are used
used_most : {c : Chart} {N M : Numbering} → SharingRule c N → SharingRule c M → ((q j : ℕ) → M.number q j ≡ N.number q j)
    → (u : ℕ) → N.used ≡ u → N.used ≤ M.used
used_most a b same zero e = omega arith
used_most a b same (suc u) e = let x = a.used_reached u e in omega (arith, b.used_above x.0 x.1 u (same x.0 x.1 ∙ x.2))

pub sharing_determines : {W : ℕ} {c : Chart} → Valid W c → (N M : Numbering) → SharingRule c N → SharingRule c M
    → ((q j : ℕ) → N.number q j ≡ M.number q j) × (N.used ≡ M.used)
sharing_determines {c = c} valid N M a b =
    (number, le_antisymm (used_most a b (λ q j. sym (number q j)) N.used refl) (used_most b a number M.used refl))
  where
    of_pair : (q j : ℕ) → Live c q j → N.number q j ≡ M.number q j
    of_pair q j l = alike_below a b _ q j _ l (family_number_lem valid q j (live_itself l)) (lt-suc_self _)

    cases : (q j : ℕ) (x y : Option ℕ) → N.number q j ≡ x → M.number q j ≡ y → N.number q j ≡ M.number q j
    cases q j (some k) y e e' = of_pair q j (a.live q j k e)
    cases q j none (some k) e e' = of_pair q j (b.live q j k e')
    cases q j none none e e' = e ∙ sym e'

    number : (q j : ℕ) → N.number q j ≡ M.number q j
    number q j = cases q j (N.number q j) (M.number q j) refl refl
