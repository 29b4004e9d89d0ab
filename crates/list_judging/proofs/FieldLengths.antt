-- How many bytes the file of entries has at most, its constants in at most 8 bytes: what follows its length fits four bytes. And it is bytes. The
-- parts one after another.
use mathlib.Core.List.{List, [], ◌∷◌, ◌++◌}
use mathlib.Core.Option.{Option, none, some, map}
use Prim.Native.Nat.{ℕ, zero, suc, ◌+◌, ◌*◌, ◌≤◌, ◌<◌}
use native.Mathlib.Nat.{mul-suc, le_of_eq}
use native.Mathlib.Omega.{arith}
use lib.ListN.{length, get_or, get_elem?, length-append}
use Rattle.lists.specs.Lists.{gather, up_to}
use Rattle.lists.specs.Rising.{All}
use Rattle.timer_set.specs.Members.{members}
use Rattle.model.specs.Version.{width_of}
use Rattle.model.proofs.Versions.{width_most}
use Rattle.file_format.specs.Parse.{Bytes, digits, write_all}
use Rattle.file_format.proofs.Lengths.{length_digits, length_numbers}
use Rattle.file_format.proofs.Bytes.{bytes_append, digits_bytes, all_bytes}
use Rattle.chart_lists.specs.Lists.{Lists}
use Rattle.chart_lists.specs.declared.Header.{Header}
use Rattle.list_judging.specs.Typed.{Typed, TypedHeader}
use Rattle.list_judging.specs.FileFrom.{FieldBytes, bytes_of, entry_field, starts_field, test_fields, length_at, transition_fields, tests_before}
use Rattle.list_judging.specs.FileFrom.{record_fields, header_fields, body_from, file_from}
use Rattle.list_judging.proofs.Turns.{members_few}

-- an entry, or the 0 past the end
pub get_d_below : (n : ℕ) (l : List ℕ) (i : ℕ) → 0 < n → All (λ x. x < n) l → get_or l i 0 < n
get_d_below n [] i z h = z
get_d_below n (x ∷ l) zero z h = h.0
get_d_below n (x ∷ l) (suc i) z h = get_d_below n l i z h.1

-- the fields have at most n bytes, and these are bytes
record Most (fs : List FieldBytes) (n : ℕ) : Type 0 where
  is : length (bytes_of fs) ≤ n
  bytes : Bytes (bytes_of fs)

most_end : Most [] 0
unfolding bytes_of
most_end = record { is = omega arith; bytes = tt }

-- a field that comes from an entry, and those that follow it
most_first : (f : ℕ → List ℕ) (w : ℕ) → ((v : ℕ) → length (f v) ≤ w) → ((v : ℕ) → Bytes (f v)) → (o : Option ℕ) {gs : List FieldBytes} {n : ℕ}
    → Most gs n → Most (map f o ∷ gs) (w + n)
unfolding bytes_of
most_first f w h b none g = record { is = omega arith; bytes = tt }
most_first f w h b (some v) {gs} g =
    record { is = rw length-append (omega (arith, h v, g.is)); bytes = bytes_append (f v) (bytes_of gs) (b v) g.bytes }

most_number : (w : ℕ) (o : Option ℕ) {gs : List FieldBytes} {n : ℕ} → Most gs n → Most (map (digits w) o ∷ gs) (w + n)
most_number w o g = most_first (digits w) w (λ v. le_of_eq (length_digits w v)) (digits_bytes w) o g

parts : (fs gs : List FieldBytes) → length (bytes_of (fs ++ gs)) ≤ length (bytes_of fs) + length (bytes_of gs)
unfolding bytes_of
parts [] gs = omega arith
parts (none ∷ fs) gs = omega arith
parts (some bs ∷ fs) gs = simp length-append (omega (arith, parts fs gs))

parts_bytes : (fs gs : List FieldBytes) → Bytes (bytes_of fs) → Bytes (bytes_of gs) → Bytes (bytes_of (fs ++ gs))
unfolding bytes_of
parts_bytes [] gs a b = b
parts_bytes (none ∷ fs) gs a b = tt
parts_bytes (some [] ∷ fs) gs a b = parts_bytes fs gs a b
parts_bytes (some (x ∷ bs) ∷ fs) gs a b = (a.0, parts_bytes (some bs ∷ fs) gs a.1 b)

most_append : (fs gs : List FieldBytes) {m n : ℕ} → Most fs m → Most gs n → Most (fs ++ gs) (m + n)
most_append fs gs a b = record { is = omega (arith, parts fs gs, a.is, b.is); bytes = parts_bytes fs gs a.bytes b.bytes }

most_gather : (f : ℕ → List FieldBytes) (w : ℕ) → ((i : ℕ) → Most (f i) w) → (n : ℕ) → Most (gather f n) (w * n)
unfolding gather
most_gather f w h zero = record { is = omega (arith, most_end.is); bytes = most_end.bytes }
most_gather f w h (suc n) = rw (mul-suc) (most_append (gather f n) (f n) (most_gather f w h n) (h n))

module _ (W : ℕ) (narrow : W ≤ 8) (l : Lists) (typed : Typed l) where
  most_starts : (i : ℕ) {gs : List FieldBytes} {n : ℕ} → Most gs n → Most (starts_field l.starts i ∷ gs) (65 + n)
  unfolding starts_field
  most_starts i g = most_first _ 65 few byte (get_elem? l.starts i) g
    where
      few : (w : ℕ) → length (digits 1 (length (members w)) ++ write_all (digits 1) (members w)) ≤ 65
      few w = simp (length-append, length_digits, length_numbers) (omega (arith, members_few w))

      byte : (w : ℕ) → Bytes (digits 1 (length (members w)) ++ write_all (digits 1) (members w))
      byte w =
          bytes_append (digits 1 (length (members w))) _ (digits_bytes 1 (length (members w)))
          (all_bytes (digits 1) (digits_bytes 1) (members w))

  most_test : (k : ℕ) → Most (test_fields W l k) 10
  unfolding test_fields entry_field
  most_test k = record { is = omega (arith, fields.is); bytes = fields.bytes }
    where
      fields : Most (test_fields W l k) (1 + (1 + (W + 0)))
      fields = most_number 1 (get_elem? l.timers k) (most_number 1 (get_elem? l.codes k) (most_number W (get_elem? l.constants k) most_end))

  most_transition : (i k : ℕ) → Most (transition_fields W l i k) 2623
  unfolding transition_fields entry_field
  most_transition i k =
      record { is = omega (arith, fields.is, get_d_below 256 l.test_counts i (omega arith) typed.test_counts); bytes = fields.bytes }
    where
      fields : Most (transition_fields W l i k) (2 + (2 + (2 + (1 + (65 + (1 + 10 * get_or l.test_counts i 0))))))
      fields =
          most_number 2 (some (length_at W l i))
          (most_number 2 (get_elem? l.sources i)
          (most_number 2 (get_elem? l.targets i)
          (most_number 1 (get_elem? l.events i)
          (most_starts i
          (most_number 1 (get_elem? l.test_counts i)
          (most_gather (λ t. test_fields W l (k + t)) 10 (λ t. most_test (k + t)) (get_or l.test_counts i 0)))))))

header_most : (m : Header) (l : Lists) → Most (header_fields m l) (9 + 2 * m.accepting)
unfolding header_fields entry_field up_to
header_most m l = record { is = omega (arith, fields.is); bytes = fields.bytes }
  where
    fields : Most (header_fields m l) (2 + (2 + (1 + (2 + (2 * m.accepting + 2)))))
    fields =
        most_number 2 (some m.locations)
        (most_number 2 (some m.initial)
        (most_number 1 (some m.timers)
        (most_number 2 (some m.accepting)
        (most_append (up_to (entry_field 2 l.accepting) m.accepting) _
        (most_gather (λ i. entry_field 2 l.accepting i ∷ []) 2 (λ i. most_number 2 (get_elem? l.accepting i) most_end) m.accepting)
        (most_number 2 (some m.transitions) most_end)))))

module _ (m : Header) (l : Lists) (fits : TypedHeader m) (typed : Typed l) where
  most_body : (W : ℕ) → W ≤ 8 → Most (header_fields m l ++ record_fields W l m.transitions) (9 + 2 * m.accepting + 2623 * m.transitions)
  unfolding record_fields
  most_body W narrow =
      most_append (header_fields m l) _ (header_most m l)
      (most_gather _ 2623 (λ i. most_transition W narrow l typed i (tests_before l i)) m.transitions)

  pub body_most : (W : ℕ) → W ≤ 8 → length (body_from W m l) ≤ 172029384
  unfolding body_from
  body_most W narrow = omega (arith, fits.accepting, fits.transitions, (most_body W narrow).is)

  pub from_bytes : Bytes (file_from m l)
  unfolding file_from body_from
  from_bytes =
      bytes_append (digits 1 m.version) _ (digits_bytes 1 m.version)
      (bytes_append (digits 4 _) _ (digits_bytes 4 _) (most_body (width_of m.version) (omega (arith, width_most m.version))).bytes)
