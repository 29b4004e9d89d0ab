-- A set of timers is one word (document 01, "The chart"): timer j is in it where the binary digit at place j is 1. The operations on sets, at no
-- fixed width. Their laws by members are in proofs/.
use Rattle.std.specs.Prelude.{Bool, not, ℕ, ◌-◌, ◌/◌, ◌%◌, ◌^◌, leb, eqb}
use mathlib.Core.List.{List, foldl, map}
use Rattle.std.specs.Int.Bits.{bit_and, bit_or, bit_xor}
use Rattle.lists.specs.Lists.{any_of, lowest, pick}

-- j is in w
unfoldable pub member : (w j : ℕ) → Bool
member w j = eqb (w / 2 ^ j % 2) 1

-- what is in a or in b
unfoldable pub joined : (a b : ℕ) → ℕ
joined a b = bit_or a b

-- what is in a and in b
unfoldable pub common : (a b : ℕ) → ℕ
common a b = bit_and a b

-- what is in a and not in b
unfoldable pub minus : (a b : ℕ) → ℕ
minus a b = bit_xor a (bit_and a b)

-- w with j
unfoldable pub added : (w j : ℕ) → ℕ
added w j = bit_or w (2 ^ j)

-- w without j
unfoldable pub removed : (w j : ℕ) → ℕ
removed w j = minus w (2 ^ j)

-- all 64 timers
unfoldable pub every_timer : ℕ
every_timer = 2 ^ 64 - 1

-- the set of the numbers of a list
unfoldable pub set_of : List ℕ → ℕ
set_of l = foldl added 0 l

-- the timers of a set, rising
unfoldable pub members : ℕ → List ℕ
members w = pick (member w) 64

-- the set of what f gives for the timers of w
unfoldable pub image : (f : ℕ → ℕ) → (w : ℕ) → ℕ
image f w = set_of (map f (members w))

-- every timer of the set is below n
unfoldable pub all_below : (n w : ℕ) → Bool
all_below n w = not (any_of (λ j. leb n j) (members w))

-- the lowest of the 64 timers that is not in the set, or 64
unfoldable pub lowest_missing : ℕ → ℕ
lowest_missing w = lowest (λ j. not (member w j)) 64

-- the lowest timer of the set, or 64
unfoldable pub lowest_member : ℕ → ℕ
lowest_member w = lowest (member w) 64
