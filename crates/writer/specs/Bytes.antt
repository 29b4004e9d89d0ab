-- The bytes that the code writes, by the entries of the lists, constants in W bytes. That they are those of the chart that the lists describe is
-- shown in proofs/FileBytes.
use Rattle.std.specs.Prelude.{◌≡◌, List, ◌++◌, ℕ, ◌+◌, ◌≤◌, ◌<◌, ◌^◌, length, get_or}
use Rattle.lists.specs.Lists.{gather}
use Rattle.lists.specs.Rising.{All}
use Rattle.timer_set.specs.Members.{members}
use Rattle.model.specs.Answer.{Answer, returned}
use Rattle.model.specs.Chart.{Test, Transition, Chart}
use Rattle.file_format.specs.Parse.{digits, write_all}
use Rattle.file_format.specs.Body.{record_length, write_transition}
use Rattle.file_format.specs.File.{file_of}
use Rattle.chart_lists.specs.Lists.{Lists}
use Rattle.chart_lists.specs.declared.Header.{Header}
use Rattle.list_judging.specs.FromLists.{chart_from}

-- the first n numbers of a list, in w bytes each
unfoldable pub number_bytes : (w : ℕ) → List ℕ → (n : ℕ) → List ℕ
number_bytes w l n = gather (λ i. digits w (get_or l i 0)) n

-- two numbers in two bytes each and one in one byte: the ends and the event of a record, or what stands first in the header
unfoldable pub triple_bytes : (a b d : ℕ) → List ℕ
triple_bytes a b d = digits 2 a ++ (digits 2 b ++ digits 1 d)

-- a test
unfoldable pub test_bytes : (W timer code constant : ℕ) → List ℕ
test_bytes W timer code constant = digits 1 timer ++ (digits 1 code ++ digits W constant)

-- the test at place k of the lists
unfoldable pub test_at : (W : ℕ) → Lists → (k : ℕ) → List ℕ
test_at W l k = test_bytes W (get_or l.timers k 0) (get_or l.codes k 0) (get_or l.constants k 0)

-- g tests from place k on
unfoldable pub tests_bytes : (W : ℕ) → Lists → (k g : ℕ) → List ℕ
tests_bytes W l k g = gather (λ t. test_at W l (k + t)) g

-- the first eight bytes of the record of a transition with s started timers and g tests
unfoldable pub head_bytes : (W source target event s g : ℕ) → List ℕ
head_bytes W source target event s g =
    digits 2 (record_length W s g) ++ (digits 2 source ++ (digits 2 target ++ (digits 1 event ++ digits 1 s)))

-- the record of a transition that starts the timers of w and has g tests from place k on
unfoldable pub record_bytes : (W source target event w : ℕ) → Lists → (k g : ℕ) → List ℕ
record_bytes W source target event w l k g =
    head_bytes W source target event (length (members w)) g ++ (write_all (digits 1) (members w) ++ (digits 1 g ++ tests_bytes W l k g))

-- version, length of what follows, and the header up to the accepting locations
unfoldable pub front_bytes : (size : ℕ) → Header → List ℕ
front_bytes size m =
    digits 1 m.version
    ++ (digits 4 size
    ++ (digits 2 m.locations
    ++ (digits 2 m.initial
    ++ (digits 1 m.timers
    ++ digits 2 m.accepting))))

-- what a writer asks: there is a result, and room for its bytes
pub record Room {A : Type 0} (w : A → List ℕ) (x : Answer A) (room : ℕ) : Type 0 where
  pub item : A
  pub is : x ≡ returned item
  pub fits : length (w item) ≤ room

-- the records of transitions
unfoldable pub records : (W : ℕ) → List Transition → List ℕ
records W rs = write_all (write_transition W) rs

-- each of the g constants from place k on fits W bytes
abbrev pub FitFrom : (W : ℕ) → (constants : List ℕ) → (k g : ℕ) → Type 0
FitFrom W constants k g = (t : ℕ) → t < g → get_or constants (k + t) 0 < 256 ^ W

-- the constants of the transitions that are the result fit W bytes
abbrev pub Fit : (W : ℕ) → Answer (List Transition) → Type 0
Fit W x = (rs : List Transition) → x ≡ returned rs → All (λ (r : Transition). All (λ (t : Test). t.constant < 256 ^ W) r.tests) rs

-- what the writer of the file asks: the lists describe a chart, n is the length of its file, and there is room for it
pub record Writable (m : Header) (l : Lists) (n room : ℕ) : Type 0 where
  pub chart : Chart
  pub is : chart_from m l ≡ returned chart
  pub size : n ≡ length (file_of chart)
  pub fits : n ≤ room
