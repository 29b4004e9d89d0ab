-- The chart file whose fields are the entries of nine lists, its constants in W bytes; it ends before the first field that no list has (document 01,
-- "The chart file"). Of lists the writer refuses what the reader refuses of this file, if its constants fit: proofs/FieldOrder.
use mathlib.Core.Option.{Option, none, some, map}
use Rattle.std.specs.Prelude.{List, [], ◌∷◌, ◌++◌, ℕ, ◌+◌, length, take, get_or}
use lib.ListN.{get_elem?}
use Rattle.lists.specs.Lists.{gather, up_to, sum_of}
use Rattle.timer_set.specs.Members.{members}
use Rattle.model.specs.Version.{width_of}
use Rattle.file_format.specs.Parse.{digits, write_all}
use Rattle.file_format.specs.Body.{record_length}
use Rattle.chart_lists.specs.Lists.{Lists}
use Rattle.chart_lists.specs.declared.Header.{Header}

-- the bytes of a field; none where a list ends before it
abbrev pub FieldBytes : Type 0
FieldBytes = Option (List ℕ)

-- the bytes of fields one after another, up to the first that is not there
unfoldable pub bytes_of : List FieldBytes → List ℕ
bytes_of [] = []
bytes_of (none ∷ fs) = []
bytes_of (some bs ∷ fs) = bs ++ bytes_of fs

-- the entry at place k of a list, in w bytes
unfoldable pub entry_field : (w : ℕ) → List ℕ → (k : ℕ) → FieldBytes
entry_field w l k = map (digits w) (get_elem? l k)

-- the count of the timers that transition i starts, and these, rising
unfoldable pub starts_field : List ℕ → (i : ℕ) → FieldBytes
starts_field l i = map (λ w. digits 1 (length (members w)) ++ write_all (digits 1) (members w)) (get_elem? l i)

-- the test at place k: timer, code, constant
unfoldable pub test_fields : (W : ℕ) → Lists → (k : ℕ) → List FieldBytes
test_fields W l k = entry_field 1 l.timers k ∷ entry_field 1 l.codes k ∷ entry_field W l.constants k ∷ []

-- the length of the record of transition i; it is judged only where the lists have the entries that it comes from
unfoldable pub length_at : (W : ℕ) → Lists → (i : ℕ) → ℕ
length_at W l i = record_length W (length (members (get_or l.starts i 0))) (get_or l.test_counts i 0)

-- transition i, its tests from place k on
unfoldable pub transition_fields : (W : ℕ) → Lists → (i k : ℕ) → List FieldBytes
transition_fields W l i k =
    some (digits 2 (length_at W l i))
    ∷ entry_field 2 l.sources i
    ∷ entry_field 2 l.targets i
    ∷ entry_field 1 l.events i
    ∷ starts_field l.starts i
    ∷ entry_field 1 l.test_counts i
    ∷ gather (λ t. test_fields W l (k + t)) (get_or l.test_counts i 0)

-- how many tests the first n transitions have: the place of the next one's first test
unfoldable pub tests_before : Lists → (n : ℕ) → ℕ
tests_before l n = sum_of (take n l.test_counts)

-- the first n transitions
unfoldable pub record_fields : (W : ℕ) → Lists → (n : ℕ) → List FieldBytes
record_fields W l n = gather (λ i. transition_fields W l i (tests_before l i)) n

-- what stands before the transitions, with their count
unfoldable pub header_fields : Header → Lists → List FieldBytes
header_fields m l =
    some (digits 2 m.locations)
    ∷ some (digits 2 m.initial)
    ∷ some (digits 1 m.timers)
    ∷ some (digits 2 m.accepting)
    ∷ (up_to (entry_field 2 l.accepting) m.accepting ++ (some (digits 2 m.transitions) ∷ []))

-- the header, then the transitions
unfoldable pub body_from : (W : ℕ) → Header → Lists → List ℕ
body_from W m l = bytes_of (header_fields m l ++ record_fields W l m.transitions)

-- the version, the number of bytes that follow, and these, by the version's width
unfoldable pub file_from : Header → Lists → List ℕ
file_from m l = let body = body_from (width_of m.version) m l in digits 1 m.version ++ (digits 4 (length body) ++ body)
