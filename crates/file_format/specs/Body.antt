-- The body of a chart file, its constants in W bytes (document 01, "The chart file"): how it is read, with the refusals 3 to 8 and their places, and
-- how it is written. The version is that of the chart; the body does not hold it.
use Rattle.std.specs.Prelude.{Bool, true, false, List, [], ◌∷◌, ◌++◌, ℕ, suc, ◌+◌, ◌*◌, length, leb, eqb}
use mathlib.Core.Option.{Option, none, some}
use Rattle.comparison.specs.declared.Comparison.{Comparison}
use Rattle.comparison.specs.Comparison.{comparison_of, code_of}
use Rattle.model.specs.Answer.{nowhere}
use Rattle.model.specs.Chart.{Test, Transition, Chart}
use Rattle.file_format.specs.Parse.{Parsed, value, refusal, bind, guard, number, below, many, rising, digits, write_all}

-- 8, a code of no comparison
abbrev pub known : (i : ℕ) → Option Comparison → List ℕ → Parsed Comparison
known i none t = refusal 8 i
known i (some x) t = value x t

-- a comparison by its code
unfoldable pub read_comparison : (i : ℕ) → List ℕ → Parsed Comparison
read_comparison i bs = bind (number 1 bs) (λ code t. known i (comparison_of code) t)

-- i is the number of the transition that is read, and the place of its refusals
unfoldable pub read_test : (W timers i : ℕ) → List ℕ → Parsed Test
read_test W timers i bs =
    bind (below 1 timers 6 i bs) (λ timer b₁.
    bind (read_comparison i b₁) (λ comparison b₂.
    bind (number W b₂) (λ constant b₃.
    value (record { timer = timer; comparison = comparison; constant = constant }) b₃)))

-- g tests
unfoldable pub read_tests : (W timers i g : ℕ) → List ℕ → Parsed (List Test)
read_tests W timers i g bs = many (λ (s : ℕ) (t : Test). s) (read_test W timers) i g bs

-- the length of a record with s starts and g tests, without its own two bytes
unfoldable pub record_length : (W s g : ℕ) → ℕ
record_length W s g = 7 + s + (2 + W) * g

-- the length is judged at g, and before the limit on g
unfoldable pub read_transition : (W locations timers i : ℕ) → List ℕ → Parsed Transition
read_transition W locations timers i bs =
    bind (number 2 bs) (λ len b₁.
    bind (below 2 locations 5 i b₁) (λ source b₂.
    bind (below 2 locations 5 i b₂) (λ target b₃.
    bind (number 1 b₃) (λ event b₄.
    bind (below 1 65 4 i b₄) (λ s b₅.
    bind (rising 1 timers 6 i s b₅) (λ starts b₆.
    bind (number 1 b₆) (λ g b₇.
    guard (eqb len (record_length W s g)) 3 nowhere (
    guard (leb g 8) 4 i (
    bind (read_tests W timers i g b₇) (λ tests b₈.
    value (record { source = source; target = target; event = event; starts = starts; tests = tests }) b₈))))))))))

-- n transitions, numbered from 0
unfoldable pub read_transitions : (W locations timers n : ℕ) → List ℕ → Parsed (List Transition)
read_transitions W locations timers n bs = many (λ i r. suc i) (read_transition W locations timers) 0 n bs

-- nothing is left
abbrev pub is_end : List ℕ → Bool
is_end [] = true
is_end (b ∷ bs) = false

-- what stands before the transitions, with their count
pub record FileHeader : Type 0 where
  pub locations : ℕ
  pub initial : ℕ
  pub timers : ℕ
  pub accepting : List ℕ
  pub count : ℕ

-- the header, each field with its refusal
unfoldable pub read_header : List ℕ → Parsed FileHeader
read_header bs =
    bind (below 2 257 4 nowhere bs) (λ locations b₁.
    guard (leb 1 locations) 4 nowhere (
    bind (below 2 locations 5 nowhere b₁) (λ initial b₂.
    bind (below 1 65 4 nowhere b₂) (λ timers b₃.
    bind (number 2 b₃) (λ a b₄.
    bind (rising 2 locations 5 nowhere a b₄) (λ accepting b₅.
    bind (below 2 513 4 nowhere b₅) (λ count b₆.
    value (record { locations = locations; initial = initial; timers = timers; accepting = accepting; count = count }) b₆)))))))

-- the chart of a file of that version, by its header and its transitions
unfoldable pub chart_of : (version : ℕ) → FileHeader → List Transition → Chart
chart_of version h rs = record {
  version = version;
  locations = h.locations;
  initial = h.initial;
  timers = h.timers;
  accepting = h.accepting;
  transitions = rs;
}

-- 3, bytes remain after the last transition
unfoldable pub read_body : (version W : ℕ) → List ℕ → Parsed Chart
read_body version W bs =
    bind (read_header bs) (λ h b₁.
    bind (read_transitions W h.locations h.timers h.count b₁) (λ transitions b₂.
    guard (is_end b₂) 3 nowhere (
    value (chart_of version h transitions) b₂)))

-- ---- the same written

-- timer, code, constant
unfoldable pub write_test : (W : ℕ) → Test → List ℕ
write_test W t = digits 1 t.timer ++ (digits 1 (code_of t.comparison) ++ digits W t.constant)

-- the length of the record, then its fields
unfoldable pub write_transition : (W : ℕ) → Transition → List ℕ
write_transition W r =
    digits 2 (record_length W (length r.starts) (length r.tests))
    ++ (digits 2 r.source
    ++ (digits 2 r.target
    ++ (digits 1 r.event
    ++ (digits 1 (length r.starts)
    ++ (write_all (digits 1) r.starts
    ++ (digits 1 (length r.tests)
    ++ write_all (write_test W) r.tests))))))

-- the header with the number of transitions
unfoldable pub write_header : Chart → List ℕ
write_header c =
    digits 2 c.locations
    ++ (digits 2 c.initial
    ++ (digits 1 c.timers
    ++ (digits 2 (length c.accepting)
    ++ (write_all (digits 2) c.accepting
    ++ digits 2 (length c.transitions)))))

-- the header, then the transitions
unfoldable pub write_body : (W : ℕ) → Chart → List ℕ
write_body W c = write_header c ++ write_all (write_transition W) c.transitions
