-- The parts of a chart file that the code judges one after another. That they make up the file is shown in proofs/.
use Rattle.std.specs.Prelude.{List, ℕ, leb, length}
use Rattle.model.specs.Answer.{nowhere}
use Rattle.chart_lists.specs.declared.Header.{Header}
use Rattle.chart_lists.specs.Lists.{all_tests}
use Rattle.file_format.specs.Parse.{Parsed, value, bind, guard, number, below, rising}
use Rattle.file_format.specs.Body.{FileHeader, read_header, read_tests, read_transition, read_transitions}
use Rattle.file_judging.specs.declared.header.Limits.{Limits}

-- ---- the header

-- the first four numbers of the body: of locations, the initial location, of timers, of accepting locations
unfoldable pub read_limits : List ℕ → Parsed Limits
read_limits bs =
    bind (below 2 257 4 nowhere bs) (λ locations b₁.
    guard (leb 1 locations) 4 nowhere (
    bind (below 2 locations 5 nowhere b₁) (λ initial b₂.
    bind (below 1 65 4 nowhere b₂) (λ timers b₃.
    bind (number 2 b₃) (λ accepting b₄.
    value (record { locations = locations; initial = initial; timers = timers; accepting = accepting }) b₄)))))

-- the accepting locations, judged and skipped: their number
unfoldable pub skip_accepting : (locations n : ℕ) → List ℕ → Parsed ℕ
skip_accepting locations n bs = bind (rising 2 locations 5 nowhere n bs) (λ xs t. value (length xs) t)

-- the number of transitions, with the numbers before it
unfoldable pub read_count : (version locations initial timers accepting : ℕ) → List ℕ → Parsed Header
read_count version locations initial timers accepting bs =
    bind (below 2 513 4 nowhere bs) (λ count t. value (record {
      version = version;
      locations = locations;
      initial = initial;
      timers = timers;
      accepting = accepting;
      transitions = count;
    }) t)

-- a file's header as that of its chart
unfoldable pub chart_header : (version : ℕ) → FileHeader → Header
chart_header version h = record {
  version = version;
  locations = h.locations;
  initial = h.initial;
  timers = h.timers;
  accepting = length h.accepting;
  transitions = h.count;
}

-- the whole header, its accepting locations skipped
unfoldable pub skip_header : (version : ℕ) → List ℕ → Parsed Header
skip_header version bs = bind (read_header bs) (λ h t. value (chart_header version h) t)

-- ---- the transitions

-- tests that are judged and skipped: their number
unfoldable pub skip_tests : (W timers i g : ℕ) → List ℕ → Parsed ℕ
skip_tests W timers i g bs = bind (read_tests W timers i g bs) (λ ts t. value (length ts) t)

-- a record that is judged and skipped: the number of its tests
unfoldable pub skip_transition : (W locations timers i : ℕ) → List ℕ → Parsed ℕ
skip_transition W locations timers i bs = bind (read_transition W locations timers i bs) (λ r t. value (length r.tests) t)

-- all transitions, judged and skipped: the number of their tests
unfoldable pub skip_transitions : (W locations timers n : ℕ) → List ℕ → Parsed ℕ
skip_transitions W locations timers n bs = bind (read_transitions W locations timers n bs) (λ rs t. value (length (all_tests rs)) t)
