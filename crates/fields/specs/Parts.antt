-- The parts of a transition's record that the code reads one after another. That they make up the record is shown in proofs/.
use Rattle.std.specs.Prelude.{List, ℕ, length, leb, eqb}
use Rattle.timer_set.specs.Members.{set_of}
use Rattle.model.specs.Answer.{nowhere}
use Rattle.model.specs.Chart.{Transition}
use Rattle.model.specs.Live.{starts_set}
use Rattle.file_format.specs.Parse.{Parsed, value, bind, guard, number, below, rising}
use Rattle.file_format.specs.Body.{record_length}
use Rattle.fields.specs.declared.record.Ends.{Ends}
use Rattle.fields.specs.declared.record.Head.{Head}

-- the first four fields
unfoldable pub read_ends : (locations i : ℕ) → List ℕ → Parsed Ends
read_ends locations i bs =
    bind (number 2 bs) (λ len b₁.
    bind (below 2 locations 5 i b₁) (λ source b₂.
    bind (below 2 locations 5 i b₂) (λ target b₃.
    bind (number 1 b₃) (λ event b₄.
    value (record { length = len; source = source; target = target; event = event }) b₄))))

-- the started timers, as a set
unfoldable pub read_starts : (timers i n : ℕ) → List ℕ → Parsed ℕ
read_starts timers i n bs = bind (rising 1 timers 6 i n bs) (λ l t. value (set_of l) t)

-- the number of tests of a record of len bytes that starts s timers: this length is right for so many tests, and they are at most 8
unfoldable pub read_test_count : (W len s i : ℕ) → List ℕ → Parsed ℕ
read_test_count W len s i bs =
    bind (number 1 bs) (λ g t.
    guard (eqb len (record_length W s g)) 3 nowhere (
    guard (leb g 8) 4 i (
    value g t)))

-- a record up to its tests, with their number
unfoldable pub head_of : Transition → Head
head_of r = record { source = r.source; target = r.target; event = r.event; starts = starts_set r; tests = length r.tests }

unfoldable pub read_head : (W locations timers i : ℕ) → List ℕ → Parsed Head
read_head W locations timers i bs =
    bind (read_ends locations i bs) (λ e b₁.
    bind (below 1 65 4 i b₁) (λ s b₂.
    bind (read_starts timers i s b₂) (λ starts b₃.
    bind (read_test_count W e.length s i b₃) (λ g b₄.
    value (record { source = e.source; target = e.target; event = e.event; starts = starts; tests = g }) b₄))))
