-- The started timers of a transition, as a list and as a set: all are below the number of timers.
use mathlib.Core.Path.{◌≡◌, refl}
use mathlib.Core.Bool.{Bool, true, false, ◌||◌}
use mathlib.Core.List.{List, [], ◌∷◌}
use Prim.Native.Nat.{ℕ, suc, ◌≤◌}
use native.Mathlib.Omega.{arith}
use lib.Dec.{leb}
use borrow.Author.Tests.{leb-false, lt-leb, not-true}
use Rattle.lists.specs.Lists.{any_of}
use Rattle.lists.specs.Rising.{Rising}
use Rattle.timer_set.specs.Members.{members, set_of, all_below}
use Rattle.timer_set.proofs.Members.{members_rising, members_set_of}

or_neither : (a b : Bool) → (a || b) ≡ false → (a ≡ false) × (b ≡ false)
or_neither true b e = (e, absurd (let z : ◌≡◌ {A = ℕ} 0 1 = cc in omega arith))
or_neither false b e = (refl, e)

-- a rising list none of which is at or above n is one below n
rising_narrow : (n limit lo : ℕ) (xs : List ℕ) → Rising limit lo xs → any_of (λ j. leb n j) xs ≡ false → Rising n lo xs
unfolding any_of
rising_narrow n limit lo [] r e = tt
rising_narrow n limit lo (x ∷ xs) r e =
    let b = or_neither (leb n x) (any_of (λ j. leb n j) xs) e in
    ((r.0.0, leb-false n x b.0), rising_narrow n limit (suc x) xs r.1 b.1)

rising_none : (n lo : ℕ) (xs : List ℕ) → Rising n lo xs → any_of (λ j. leb n j) xs ≡ false
unfolding any_of
rising_none n lo [] r = refl
rising_none n lo (x ∷ xs) r = rw (lt-leb n x r.0.1, rising_none n (suc x) xs r.1)

pub members_below : (timers w : ℕ) → all_below timers w ≡ true → Rising timers 0 (members w)
unfolding all_below
members_below timers w e = rising_narrow timers 64 0 (members w) (members_rising w) (not-true _ e)

pub set_below : (timers : ℕ) (xs : List ℕ) → timers ≤ 64 → Rising timers 0 xs → all_below timers (set_of xs) ≡ true
unfolding all_below
set_below timers xs h r = rw (members_set_of timers xs r h, rising_none timers 0 xs r)
