-- `put_decimal`: the digits before the last are those of a tenth of the number.
use mathlib.Core.Path.{sym, ap}
use mathlib.Core.List.{List}
use Prim.Native.Nat.{ℕ, ◌+◌, ◌/◌, ◌%◌, ◌^◌, ◌≤◌, ◌<◌}
use native.Mathlib.Omega.{arith}
use lib.ListN.{length, set}
use borrow.Author.Rules.{rules}
use Rattle.listing.specs.Text.{decimal}
use Rattle.listing.specs.PutBytes.{PutBytes}
use Rattle.listing.proofs.PutBytes.{bytes_none, bytes_more, bytes_as}
use Rattle.listing.proofs.Decimal.{decimal_one, decimal_more, length_more}
use Rattle.listing.proofs.text.+put_decimal.Goals as goal

-- one digit, and one digit more
one : (n : ℕ) (l : List ℕ) → n < 10 → 1 ≤ length l → PutBytes (decimal n) l (set l 0 (48 + n)) 1
one n l h k = bytes_as (bytes_more (bytes_none l) (48 + n) k) (sym (decimal_one n h))

more : (n : ℕ) (l out : List ℕ) (at : ℕ) → 10 ≤ n → n < 10 ^ 20 → length (decimal n) ≤ length l → PutBytes (decimal (n / 10)) l out at
    → PutBytes (decimal n) l (set out at (48 + n % 10)) (at + 1)
more n l out at h b k w =
    bytes_as (bytes_more w (48 + n % 10) (omega (arith, w.size_is, length_more n h b))) (sym (decimal_more n h b))

pub bounds-out-0 : goal.bounds-out-0
bounds-out-0 t c = omega (arith, c.requires, ap length (decimal_one c.args.n c.if-n-lt10.true))

pub returns-then-n-lt10 : goal.returns-then-n-lt10
returns-then-n-lt10 t c =
    let l = ap length (decimal_one c.args.n c.if-n-lt10.true) in
    one c.args.n c.args.out.now c.if-n-lt10.true (omega (arith, c.requires, l))

pub put_decimal-at-requires : goal.put_decimal-at-requires
put_decimal-at-requires t c = (
  omega (arith, c.decreases, c.if-n-lt10.false),
  omega (arith, c.requires, length_more c.args.n c.if-n-lt10.false (search rules)),
)

pub bounds-out-at : goal.bounds-out-at
bounds-out-at t c =
    omega (arith, c.put_decimal-at.auto.out, c.requires, c.put_decimal-at.ensures.size_is, length_more c.args.n c.if-n-lt10.false (search rules))

pub overflow_add-result : goal.overflow_add-result
overflow_add-result t c =
    omega (arith, c.put_decimal-at.auto.out, c.requires, c.put_decimal-at.ensures.size_is, length_more c.args.n c.if-n-lt10.false (search rules))

pub returns : goal.returns
returns t c = more c.args.n c.args.out.now _ _ c.if-n-lt10.false (search rules) c.requires c.put_decimal-at.ensures
