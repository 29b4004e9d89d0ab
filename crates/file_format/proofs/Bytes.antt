-- Whatever is written is bytes; and a chart can be held by a file if and only if some bytes are read as it. Both follow part by part.
use mathlib.Core.Logic.{◌↔◌}
use mathlib.Core.List.{List, [], ◌∷◌, ◌++◌}
use Prim.Native.Nat.{ℕ, zero, suc, ◌/◌, ◌%◌}
use native.Mathlib.Omega.{arith}
use lib.ListN.{length}
use Rattle.comparison.specs.Comparison.{code_of}
use Rattle.model.specs.Chart.{Test, Transition, Chart}
use Rattle.model.specs.Version.{width_of}
use Rattle.model.specs.Valid.{Storable}
use Rattle.file_format.specs.Parse.{digits, write_all, Bytes}
use Rattle.file_format.specs.Body.{record_length, write_test, write_transition, write_header, write_body}
use Rattle.file_format.specs.File.{write_file, file_of, ReadFrom}
use Rattle.file_format.proofs.File.{chart_survives, reads_storable}

pub bytes_append : (xs ys : List ℕ) → Bytes xs → Bytes ys → Bytes (xs ++ ys)
bytes_append [] ys h k = k
bytes_append (x ∷ xs) ys h k = (h.0, bytes_append xs ys h.1 k)

pub digits_bytes : (w v : ℕ) → Bytes (digits w v)
unfolding digits
digits_bytes zero v = tt
digits_bytes (suc w) v = bytes_append (digits w (v / 256)) (v % 256 ∷ []) (digits_bytes w (v / 256)) (omega arith, tt)

-- a number, and what follows it
after_digits : (w v : ℕ) (ys : List ℕ) → Bytes ys → Bytes (digits w v ++ ys)
after_digits w v ys h = bytes_append (digits w v) ys (digits_bytes w v) h

pub all_bytes : {A : Type 0} (write : A → List ℕ) → ((a : A) → Bytes (write a)) → (xs : List A) → Bytes (write_all write xs)
unfolding write_all
all_bytes write h [] = tt
all_bytes write h (a ∷ xs) = bytes_append (write a) (write_all write xs) (h a) (all_bytes write h xs)

test_bytes_lem : (W : ℕ) (t : Test) → Bytes (write_test W t)
unfolding write_test
test_bytes_lem W t = after_digits 1 t.timer _ (after_digits 1 (code_of t.comparison) _ (digits_bytes W t.constant))

transition_bytes : (W : ℕ) (r : Transition) → Bytes (write_transition W r)
unfolding write_transition
transition_bytes W r =
    after_digits 2 (record_length W (length r.starts) (length r.tests)) _
    (after_digits 2 r.source _
    (after_digits 2 r.target _
    (after_digits 1 r.event _
    (after_digits 1 (length r.starts) _
    (bytes_append (write_all (digits 1) r.starts) _ (all_bytes (digits 1) (digits_bytes 1) r.starts)
    (after_digits 1 (length r.tests) _ (all_bytes (write_test W) (test_bytes_lem W) r.tests)))))))

header_bytes : (c : Chart) → Bytes (write_header c)
unfolding write_header
header_bytes c =
    after_digits 2 c.locations _
    (after_digits 2 c.initial _
    (after_digits 1 c.timers _
    (after_digits 2 (length c.accepting) _
    (bytes_append (write_all (digits 2) c.accepting) _ (all_bytes (digits 2) (digits_bytes 2) c.accepting)
    (digits_bytes 2 (length c.transitions))))))

pub file_bytes : (W : ℕ) (c : Chart) → Bytes (write_file W c)
unfolding write_file write_body
file_bytes W c =
    after_digits 1 c.version _
    (after_digits 4 (length (write_body W c)) _
    (bytes_append (write_header c) _ (header_bytes c) (all_bytes (write_transition W) (transition_bytes W) c.transitions)))

pub storable_iff_read : (c : Chart) → Storable c ↔ ReadFrom c
unfolding file_of
storable_iff_read c = (
  λ s. record { file = file_of c; bytes = file_bytes (width_of c.version) c; reads = chart_survives c s },
  λ r. reads_storable r.file c r.bytes r.reads,
)
