-- The timers of a set, one after another: the lowest that is left stands first among the rest. What is hard is that taking the lowest out of the word
-- takes the first out of the list of its members.
use mathlib.Core.Path.{◌≡◌, refl, sym, ap, ◌∙◌}
use mathlib.Core.Logic.{◌⊎◌, inl, inr}
use mathlib.Core.Bool.{Bool, true, false, ◌&&◌, ◌||◌, not, and-true}
use mathlib.Core.List.{List, [], ◌∷◌}
use Prim.Native.Nat.{ℕ, suc, ◌+◌, ◌^◌, ◌≤◌, ◌<◌}
use native.Mathlib.Omega.{arith}
use lib.Count.{ones}
use lib.Dec.{eqb}
use lib.ListN.{length, get_or, drop, length-drop}
use lib.Seq.{drop-cons, drop-drop}
use borrow.Author.Tests.{eq-eqb}
use Rattle.lists.specs.Lists.{memb}
use Rattle.lists.specs.Rising.{Rising}
use Rattle.lists.proofs.Bools.{yes_or_no, not_both, not-true, and_left, and_right, same_number}
use Rattle.lists.proofs.Membership.{memb_head}
use Rattle.lists.proofs.Lowest.{lowest_most}
use Rattle.lists.proofs.Rising.{rising_same}
use Rattle.timer_set.specs.Iteration.{Taken}
use Rattle.timer_set.specs.Members.{member, removed, members, lowest_member}
use Rattle.timer_set.proofs.Members.{member_empty, member_removed, removed_lt, memb_members, members_rising}
use Rattle.timer_set.proofs.Counts.{ones_members}
use Rattle.timer_set.proofs.LowestMember.{lowest_below, lowest_member_lem}
use Rattle.list_judging.proofs.Turns.{members_few}

-- a rising list none of which is below from rises from there
rising_from : (limit lo from : ℕ) (xs : List ℕ) → Rising limit lo xs → ((k : ℕ) → memb k xs ≡ true → from ≤ k) → Rising limit from xs
rising_from limit lo from [] r f = tt
rising_from limit lo from (x ∷ xs) r f = ((f x (memb_head x x xs refl), r.0.1), r.1)

module _ (w : ℕ) (h : w < 2 ^ 64) (some : w ≡ 0 → ⊥) where
  abbrev others : List ℕ
  others = members (removed w (lowest_member w))

  memb_others : (k : ℕ) → memb k others ≡ (member w k && not (eqb k (lowest_member w)))
  memb_others k = memb_members _ k (removed_lt 64 w _ h) ∙ member_removed w _ k

  others_above : (k : ℕ) → memb k others ≡ true → suc (lowest_member w) ≤ k
  unfolding lowest_member
  others_above k m =
      let p = sym (memb_others k) ∙ m in
      let other : k ≡ lowest_member w → ⊥ = λ e. not_both (eq-eqb k _ e) (not-true _ (and_right (member w k) _ p)) in
      omega (arith, lowest_most (member w) 64 k (and_left (member w k) _ p))

  first_or_other : (k : ℕ) → (eqb k (lowest_member w) ≡ true) ⊎ (eqb k (lowest_member w) ≡ false)
      → member w k ≡ (eqb k (lowest_member w) || (member w k && not (eqb k (lowest_member w))))
  first_or_other k (inl e) = rw e (ap (member w) (same_number e) ∙ lowest_member_lem w h some)
  first_or_other k (inr e) = rw e (sym (and-true (member w k)))

  members_first : members w ≡ lowest_member w ∷ members (removed w (lowest_member w))
  unfolding memb
  members_first = rising_same 64 64 0 (members w) (lowest_member w ∷ others) (members_rising w)
      ((omega arith, lowest_below w h some), rising_from 64 0 _ others (members_rising _) others_above)
      (λ k. memb_members w k h ∙ first_or_other k (yes_or_no _) ∙ ap (λ (b : Bool). eqb k (lowest_member w) || b) (sym (memb_others k)))

members_none : members 0 ≡ []
unfolding memb
members_none = rising_same 64 64 0 (members 0) [] (members_rising 0) tt (λ k. memb_members 0 k (omega arith) ∙ member_empty k)

-- s is how many timers the set w has
pub counted : (w : ℕ) {s : ℕ} → s ≡ ones w → w < 2 ^ 64 → (s ≡ length (members w)) × (s ≤ 64)
counted w e h = let is = e ∙ ones_members w h in (is, rw is (members_few w))

-- ---- one timer of a set after another

-- where a timer is taken, some are left
pub some_left : {w j left : ℕ} → Taken w j left → w ≡ 0 → ⊥
some_left t e = omega (arith, t.fewer)

-- of the timers of w those from place at on are left
pub record TimersLeft (w at left : ℕ) : Type 0 where
  pub small : left < 2 ^ 64
  pub are : drop at (members w) ≡ members left

pub left_all : {w : ℕ} → w < 2 ^ 64 → TimersLeft w 0 w
left_all h = record { small = h; are = refl }

module _ {w at left : ℕ} (x : TimersLeft w at left) where
  pub left_none : left ≡ 0 → length (members w) ≤ at
  left_none e = omega (arith, length-drop at (members w), ap length (x.are ∙ ap members e ∙ members_none))

  -- the lowest that is left stands at that place
  module _ (some : left ≡ 0 → ⊥) where
    next_are : drop at (members w) ≡ lowest_member left ∷ members (removed left (lowest_member left))
    next_are = x.are ∙ members_first left x.small some

    pub next_place : at < length (members w)
    next_place = omega (arith, length-drop at (members w), ap length next_are)

    pub next_is : get_or (members w) at 0 ≡ lowest_member left
    next_is = ap (λ (l : List ℕ). get_or l 0 0) (sym (drop-cons (members w) at 0 next_place) ∙ next_are)

    pub left_fewer : TimersLeft w (at + 1) (removed left (lowest_member left))
    left_fewer = record { small = removed_lt 64 left _ x.small; are = sym (drop-drop 1 at (members w)) ∙ ap (drop 1) next_are }
