-- How many bytes a written chart has, and how many at most. Hard: only the bound, a sum of products: starts and tests of a transition, then
-- transitions, each at its most.
use mathlib.Core.Path.{◌≡◌, refl, ◌∙◌}
use mathlib.Core.List.{List, [], ◌∷◌, map}
use Prim.Native.Nat.{ℕ, zero, suc, ◌+◌, ◌*◌, ◌/◌, ◌≤◌}
use native.Mathlib.Nat.{mul-le-mul, le_refl}
use native.Mathlib.Numerals.{add-one}
use native.Mathlib.Omega.{arith}
use lib.ListN.{length, length-append}
use Rattle.lists.specs.Lists.{sum_of}
use Rattle.lists.proofs.Sums.{sum_same, sum_most}
use Rattle.model.specs.Chart.{Test, Transition, Chart}
use Rattle.model.specs.Version.{width_of}
use Rattle.model.specs.Valid.{ValidTransition, Valid, Storable}
use Rattle.model.proofs.Versions.{width_most}
use Rattle.file_format.specs.Parse.{digits, write_all}
use Rattle.file_format.specs.Body.{record_length, write_test, write_transition, write_header, write_body}
use Rattle.file_format.specs.File.{write_file, file_of}
use Rattle.file_format.proofs.Fields.{rising_most}
use Rattle.file_format.specs.Lengths.{transition_length, body_length, file_length, most_bytes, largest_file}

pub length_digits : (w v : ℕ) → length (digits w v) ≡ w
unfolding digits
length_digits zero v = refl
length_digits (suc w) v = rw (length-append, length_digits w (v / 256)) (add-one w)

-- what is written item by item
module _ {A : Type 0} (w : A → List ℕ) where
  pub length_all : (f : A → ℕ) → ((a : A) → length (w a) ≡ f a) → (xs : List A) → length (write_all w xs) ≡ sum_of (map f xs)
  unfolding sum_of write_all
  length_all f h [] = refl
  length_all f h (a ∷ xs) = rw (length-append, h a, length_all f h xs)

-- numbers of w bytes
pub length_numbers : (w : ℕ) (xs : List ℕ) → length (write_all (digits w) xs) ≡ w * length xs
length_numbers w xs = length_all (digits w) (λ x. w) (length_digits w) xs ∙ sum_same (λ x. w) w (λ x. refl) xs

-- ---- the parts of the file

pub length_test : (W : ℕ) (t : Test) → length (write_test W t) ≡ 2 + W
unfolding write_test
length_test W t = simp (length-append, length_digits) (omega arith)

pub length_tests : (W : ℕ) (ts : List Test) → length (write_all (write_test W) ts) ≡ (2 + W) * length ts
length_tests W ts = length_all (write_test W) (λ t. 2 + W) (length_test W) ts ∙ sum_same (λ t. 2 + W) (2 + W) (λ t. refl) ts

pub length_transition : (W : ℕ) (r : Transition) → length (write_transition W r) ≡ transition_length W r
unfolding write_transition transition_length record_length
length_transition W r = simp (length-append, length_digits, length_numbers, length_tests) (omega arith)

pub length_header : (c : Chart) → length (write_header c) ≡ 9 + 2 * length c.accepting
unfolding write_header
length_header c = simp (length-append, length_digits, length_numbers) (omega arith)

pub length_body : (W : ℕ) (c : Chart) → length (write_body W c) ≡ body_length W c
unfolding write_body body_length
length_body W c = rw (length-append, length_header, length_all (write_transition W) (transition_length W) (length_transition W))

pub length_file : (W : ℕ) (c : Chart) → length (write_file W c) ≡ file_length W c
unfolding write_file file_length
length_file W c = simp (length-append, length_digits, length_body) (omega arith)

-- ---- at most

transition_most : (W locations timers : ℕ) → timers ≤ 64 → (r : Transition) → ValidTransition W locations timers r
    → transition_length W r ≤ 73 + (2 + W) * 8
unfolding transition_length record_length
transition_most W locations timers h r v =
    let m : (2 + W) * length r.tests ≤ (2 + W) * 8 = mul-le-mul (le_refl (2 + W)) v.few_tests in
    omega (arith, rising_most timers 64 r.starts h v.starts)

pub file_most : (W : ℕ) (c : Chart) → Valid W c → file_length W c ≤ most_bytes W
unfolding file_length body_length
file_most W c v =
    let few = rising_most c.locations 256 c.accepting v.few_locations v.accepting in
    let each = transition_most W c.locations c.timers v.few_timers in
    let m : (73 + (2 + W) * 8) * length c.transitions ≤ (73 + (2 + W) * 8) * 512 = mul-le-mul (le_refl _) v.few_transitions in
    omega (arith, few, sum_most (transition_length W) (73 + (2 + W) * 8) _ each c.transitions v.transitions)

pub largest_file_lem : (c : Chart) → Storable c → length (file_of c) ≤ largest_file
unfolding file_of
largest_file_lem c s =
    let W = width_of c.version in
    omega (arith, length_file W c, file_most W c s.valid, width_most c.version)
