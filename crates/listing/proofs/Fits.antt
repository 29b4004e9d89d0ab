-- Every text fits a buffer of 131,072 bytes. What is hard is to bound the digits of a line: timers and board numbers below 64 have at most two.
use mathlib.Core.Path.{◌≡◌, refl}
use mathlib.Core.Bool.{Bool, true, false}
use mathlib.Core.Option.{Option, none, some}
use mathlib.Core.List.{List}
use Prim.Native.Nat.{ℕ, zero, suc, ◌*◌, ◌/◌, ◌≤◌, ◌<◌}
use native.Mathlib.Nat.{mul-suc}
use native.Mathlib.Omega.{arith}
use lib.Dec.{ltb}
use lib.ListN.{length, length-append}
use borrow.Author.Tests.{ltb-true, ltb-false}
use Rattle.lists.specs.Lists.{gather}
use Rattle.model.specs.Chart.{Chart}
use Rattle.model.specs.Valid.{Valid}
use Rattle.model.specs.Spare.{reached_part}
use Rattle.model.specs.FirstFit.{used}
use Rattle.model.specs.Floor.{floor, searched}
use Rattle.model.specs.Rewrite.{Numbering, board_numbering}
use Rattle.model.proofs.BoardPlan.{numbering_used, number_under}
use Rattle.listing.specs.Text.{decimal_in, decimal, at_word}
use Rattle.listing.specs.Listing.{largest_text, refused_text, entry_text, line_of, chart_text}
use Rattle.listing.proofs.Decimal.{decimal_one, length_more}
use Rattle.listing.proofs.Parts.{refused_length, word_most, first_length, entry_length}

digits_most : (k n : ℕ) → length (decimal_in k n) ≤ k
unfolding decimal_in
digits_most zero n = omega arith
digits_most (suc k) n = go (ltb n 10) refl (digits_most k (n / 10))
  where
    go : (b : Bool) → ltb n 10 ≡ b → length (decimal_in k (n / 10)) ≤ k → length (decimal_in (suc k) n) ≤ suc k
    go true e ih = rw (e, decimal_in) (omega arith)
    go false e ih = rw (e, decimal_in, length-append) (omega arith)

decimal_most : (n : ℕ) → length (decimal n) ≤ 20
unfolding decimal
decimal_most n = digits_most 20 n

decimal_two : (n : ℕ) → n < 100 → length (decimal n) ≤ 2
decimal_two n h = go (ltb n 10) refl
  where
    go : (b : Bool) → ltb n 10 ≡ b → length (decimal n) ≤ 2
    go true e = rw (decimal_one n (ltb-true n 10 e)) (omega arith)
    go false e = rw (length_more n (ltb-false n 10 e) (omega arith), decimal_one (n / 10) (omega arith)) (omega arith)

gather_most : (f : ℕ → List ℕ) (w n : ℕ) → ((i : ℕ) → i < n → length (f i) ≤ w) → length (gather f n) ≤ w * n
unfolding gather
gather_most f w zero h = omega arith
gather_most f w (suc n) h =
    let ih = gather_most f w n (λ i l. h i (omega arith)) in
    rw (length-append, mul-suc) (omega (arith, ih, h n (omega arith)))

pub refused_fits : (n p : ℕ) → length (refused_text n p) ≤ largest_text
refused_fits n p = omega (arith, refused_length n p, decimal_most n, decimal_most p)

entry_most : (j : ℕ) (o : Option ℕ) → j < 100 → ((k : ℕ) → o ≡ some k → k < 100) → length (entry_text j o) ≤ 6
entry_most j none h l = omega arith
entry_most j (some k) h l = omega (arith, entry_length j k, decimal_two j h, decimal_two k (l k refl))

-- a line of a numbering that gives no number above 63
module _ (N : Numbering) (few : (q j k : ℕ) → N.number q j ≡ some k → k < 64) (timers : ℕ) (narrow : timers ≤ 64) where
  line_most : (q : ℕ) → length (line_of timers N q) ≤ 408
  unfolding line_of at_word
  line_most q =
      let e = gather_most (λ j. entry_text j (N.number q j)) 6 timers
      (λ j h. entry_most j (N.number q j) (omega arith) (λ k e. omega (arith, few q j k e))) in
      simp length-append (omega (arith, e, decimal_most q))

-- no number of the board is above 63 if at most 64 are used
pub board_few : (c : Chart) → used c ≤ 64 → (q j k : ℕ) → (board_numbering c).number q j ≡ some k → k < 64
unfolding used
board_few c few q j k e = omega (arith, number_under c q j k e, numbering_used c)

pub chart_fits : {W : ℕ} {c : Chart} → Valid W c → used (reached_part c) ≤ 64 → (K : ℕ) → length (chart_text K c) ≤ largest_text
unfolding chart_text
chart_fits {W} {c} v few K =
    let part = reached_part c in
    let N = board_numbering part in
    let lines = gather_most (line_of c.timers N) 408 c.locations (λ q h. line_most N (board_few part few) c.timers v.few_timers q) in
    let first = first_length N.used (floor part) (searched part) K in
    rw length-append
    (omega (arith, lines, v.few_locations, first, decimal_most N.used, word_most (searched part), decimal_most (floor part), decimal_most K))
