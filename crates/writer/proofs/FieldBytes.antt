-- The bytes of numbers, tests and started timers, item by item, and the parts of a record one after another.
use mathlib.Core.Path.{◌≡◌, refl, ap, ◌∙◌}
use mathlib.Core.Option.{some}
use mathlib.Core.List.{List, [], ◌∷◌, ◌++◌, append_assoc}
use Prim.Native.Nat.{ℕ, suc, ◌+◌}
use native.Mathlib.Omega.{arith}
use lib.ListN.{length, get_or, get_elem?, length-append}
use Rattle.lists.specs.Lists.{gather}
use Rattle.lists.proofs.Growing.{gather_first}
use Rattle.lists.proofs.Nth.{get_d_nth}
use Rattle.timer_set.specs.Members.{members}
use Rattle.file_format.specs.Parse.{digits, write_all}
use Rattle.file_format.proofs.Lengths.{length_digits, length_numbers}
use Rattle.chart_lists.specs.Lists.{Lists}
use Rattle.writer.specs.Bytes.{test_bytes, test_at, tests_bytes, head_bytes, record_bytes}

-- the items of a list, each by its place
pub gather_all : {A : Type 0} (w : A → List ℕ) (xs : List A) (f : ℕ → List ℕ) → ((i : ℕ) (a : A) → get_elem? xs i ≡ some a → f i ≡ w a)
    → gather f (length xs) ≡ write_all w xs
unfolding gather write_all
gather_all w [] f e = refl
gather_all w (x ∷ xs) f e = gather_first f (length xs) ∙ rw (e 0 x refl, gather_all w xs (λ i. f (suc i)) (λ i a g. e (suc i) a g))

-- ---- tests

pub length_test : (W timer code constant : ℕ) → length (test_bytes W timer code constant) ≡ 2 + W
unfolding test_bytes
length_test W timer code constant = simp (length-append, length_digits) (omega arith)

pub length_test_at : (W : ℕ) (l : Lists) (k : ℕ) → length (test_at W l k) ≡ 2 + W
unfolding test_at
length_test_at W l k = length_test W _ _ _

-- ---- started timers

pub starts_bytes : (w : ℕ) → gather (λ i. digits 1 (get_or (members w) i 0)) (length (members w)) ≡ write_all (digits 1) (members w)
starts_bytes w = gather_all (digits 1) (members w) _ (λ i j e. ap (digits 1) (get_d_nth (members w) i 0 e))

length_starts : (w : ℕ) → length (write_all (digits 1) (members w)) ≡ length (members w)
length_starts w = omega (arith, length_numbers 1 (members w))

-- ---- a record

pub length_head : (W source target event s g : ℕ) → length (head_bytes W source target event s g) ≡ 8
unfolding head_bytes
length_head W source target event s g = simp (length-append, length_digits)

-- its parts one after another, s being the number of started timers
module _ (W source target event w g s : ℕ) (e : s ≡ length (members w)) where
  abbrev head : List ℕ
  head = head_bytes W source target event s g

  pub length_started : 8 + s ≡ length (head ++ write_all (digits 1) (members w))
  length_started = simp (length-append, length_head, length_starts) (omega arith)

  pub length_numbered : 8 + s + 1 ≡ length ((head ++ write_all (digits 1) (members w)) ++ digits 1 g)
  length_numbered = simp (length-append, length_head, length_starts, length_digits) (omega arith)

  pub record_parts : (l : Lists) (k : ℕ)
      → ((head ++ write_all (digits 1) (members w)) ++ digits 1 g) ++ tests_bytes W l k g ≡ record_bytes W source target event w l k g
  unfolding record_bytes
  record_parts l k = rw e (simp append_assoc)
