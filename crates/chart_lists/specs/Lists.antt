-- The nine lists in which a chart is handed over (docs/LISTS.md).
use Rattle.std.specs.Prelude.{Bool, ◌&&◌, List, [], ◌∷◌, ◌++◌, map, ℕ, leb, length, drop}
use Rattle.comparison.specs.Comparison.{code_of}
use Rattle.model.specs.Answer.{Answer, returned, refused}
use Rattle.model.specs.Chart.{Test, Transition, Chart}
use Rattle.model.specs.Live.{starts_set}

-- the accepting locations; of each transition its source, its target, its event, the set of the timers that it starts as a word, and the
-- number of its tests; of each test, in the order of the transitions, its timer, its comparison's code and its constant
pub record Lists : Type 0 where
  pub accepting : List ℕ
  pub sources : List ℕ
  pub targets : List ℕ
  pub events : List ℕ
  pub starts : List ℕ
  pub test_counts : List ℕ
  pub timers : List ℕ
  pub codes : List ℕ
  pub constants : List ℕ

unfoldable pub all_tests : List Transition → List Test
all_tests [] = []
all_tests (r ∷ rs) = r.tests ++ all_tests rs

-- of each transition one number
abbrev pub sources_of : List Transition → List ℕ
sources_of rs = map (λ (r : Transition). r.source) rs

abbrev pub targets_of : List Transition → List ℕ
targets_of rs = map (λ (r : Transition). r.target) rs

abbrev pub events_of : List Transition → List ℕ
events_of rs = map (λ (r : Transition). r.event) rs

abbrev pub starts_of : List Transition → List ℕ
starts_of rs = map starts_set rs

abbrev pub test_counts_of : List Transition → List ℕ
test_counts_of rs = map (λ (r : Transition). length r.tests) rs

-- of each test one number
abbrev pub timers_of : List Test → List ℕ
timers_of ts = map (λ (t : Test). t.timer) ts

abbrev pub codes_of : List Test → List ℕ
codes_of ts = map (λ (t : Test). code_of t.comparison) ts

abbrev pub constants_of : List Test → List ℕ
constants_of ts = map (λ (t : Test). t.constant) ts

-- the lists of a chart
unfoldable pub lists_of : Chart → Lists
lists_of c = record {
  accepting = c.accepting;
  sources = sources_of c.transitions;
  targets = targets_of c.transitions;
  events = events_of c.transitions;
  starts = starts_of c.transitions;
  test_counts = test_counts_of c.transitions;
  timers = timers_of (all_tests c.transitions);
  codes = codes_of (all_tests c.transitions);
  constants = constants_of (all_tests c.transitions);
}

-- xs over the front of l; what is beyond stays
unfoldable pub put : List ℕ → List ℕ → List ℕ
put xs l = xs ++ drop (length xs) l

-- a lent list after a call that answers x: the bytes of the result over its front, or as it was where x is a refusal
abbrev pub overwritten : {A : Type 0} → (bytes : A → List ℕ) → (x : Answer A) → List ℕ → List ℕ
overwritten bytes (returned a) l = put (bytes a) l
overwritten bytes (refused n p) l = l

-- each of the lists over the front of the lent one
unfoldable pub put_lists : Lists → Lists → Lists
put_lists xs l = record {
  accepting = put xs.accepting l.accepting;
  sources = put xs.sources l.sources;
  targets = put xs.targets l.targets;
  events = put xs.events l.events;
  starts = put xs.starts l.starts;
  test_counts = put xs.test_counts l.test_counts;
  timers = put xs.timers l.timers;
  codes = put xs.codes l.codes;
  constants = put xs.constants l.constants;
}

-- each lent list is long enough
unfoldable pub room_for : Lists → Lists → Bool
room_for xs l =
    leb (length xs.accepting) (length l.accepting)
    && (leb (length xs.sources) (length l.sources)
    && (leb (length xs.targets) (length l.targets)
    && (leb (length xs.events) (length l.events)
    && (leb (length xs.starts) (length l.starts)
    && (leb (length xs.test_counts) (length l.test_counts)
    && (leb (length xs.timers) (length l.timers)
    && (leb (length xs.codes) (length l.codes)
    && leb (length xs.constants) (length l.constants))))))))

abbrev pub lists : (accepting sources targets events starts test_counts timers codes constants : List ℕ) → Lists
lists a s t e w g j x k = record {
  accepting = a;
  sources = s;
  targets = t;
  events = e;
  starts = w;
  test_counts = g;
  timers = j;
  codes = x;
  constants = k;
}
