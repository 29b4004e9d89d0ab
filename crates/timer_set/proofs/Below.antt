-- A set has no timer from n on where the digits from place n on are 0. Hard: only the step from members to the shifted word: a word of no members is
-- 0.
use mathlib.Core.Path.{◌≡◌, sym, ap, ◌∙◌}
use mathlib.Core.Bool.{true, false, not}
use Prim.Native.Nat.{ℕ, ◌+◌, ◌-◌, ◌/◌, ◌%◌, ◌^◌, ◌≤◌, ◌<◌}
use native.Mathlib.Omega.{arith}
use lib.Dec.{leb, eqb}
use lib.Pow.{shr-shr, shr_le}
use borrow.Author.Tests.{leb-true, le-leb, eqb-true, eq-eqb, not-true}
use Rattle.lists.specs.Lists.{any_of}
use Rattle.lists.proofs.Bools.{is_no, same_bool, not_both}
use Rattle.lists.proofs.Membership.{any_memb_in, any_memb_out}
use Rattle.timer_set.specs.Members.{member, members, all_below}
use Rattle.timer_set.proofs.Members.{member_empty, member_past, none_empty, memb_members}

-- the members of a shifted word
pub member_shifted : (w n j : ℕ) → member (w / 2 ^ n) j ≡ member w (n + j)
unfolding member
member_shifted w n j = ap (λ (x : ℕ). eqb (x % 2) 1) (shr-shr w n j)

module _ (n w : ℕ) (h : w < 2 ^ 64) where
  pub below_all : ((j : ℕ) → n ≤ j → member w j ≡ false) → all_below n w ≡ true
  unfolding all_below
  below_all f = ap not (is_no (any_of (λ j. leb n j) (members w)) found)
    where
      found : any_of (λ j. leb n j) (members w) ≡ true → ⊥
      found a =
          let m = any_memb_out (λ j. leb n j) (members w) a in
          not_both (sym (memb_members w m.0 h) ∙ m.1) (f m.0 (leb-true _ _ m.2))

  -- a word of 64 digits has no timer from 64 on
  pub all_below_over : 64 ≤ n → all_below n w ≡ true
  all_below_over l = below_all (λ j q. member_past w j h (omega arith))

  pub all_below_lem : all_below n w ≡ true → (j : ℕ) → n ≤ j → member w j ≡ false
  unfolding all_below
  all_below_lem a j l =
      is_no (member w j)
      (λ m. not_both (any_memb_in (λ i. leb n i) j (members w) (memb_members w j h ∙ m) (le-leb n j l)) (not-true _ a))

  pub machine_all_below : eqb (w / 2 ^ n) 0 ≡ all_below n w
  machine_all_below = same_bool _ _ (λ e. below_all (λ j l. high (eqb-true _ _ e) j l)) (λ a. eq-eqb _ _ (zero a))
    where
      high : w / 2 ^ n ≡ 0 → (j : ℕ) → n ≤ j → member w j ≡ false
      high e j l = ap (member w) (omega arith) ∙ sym (member_shifted w n (j - n)) ∙ ap (λ (x : ℕ). member x (j - n)) e ∙ member_empty (j - n)

      zero : all_below n w ≡ true → w / 2 ^ n ≡ 0
      zero a = none_empty 64 (w / 2 ^ n) (omega (arith, shr_le w n)) (λ j l. member_shifted w n j ∙ all_below_lem a (n + j) (omega arith))
