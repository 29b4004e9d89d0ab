-- How many bytes the parts of a chart file have, its constants in W bytes, and the largest files. That what is written has these lengths is shown in
-- proofs/Lengths, that the largest file of a version is that of the chart here in proofs/LargestFile.
use Rattle.std.specs.Prelude.{◌≡◌, List, map, ℕ, ◌+◌, ◌*◌, ◌≤◌, length, replicate}
use Rattle.comparison.specs.declared.Comparison.TheVariants.{AtMost}
use Rattle.lists.specs.Lists.{sum_of, up_to}
use Rattle.model.specs.Answer.{returned}
use Rattle.model.specs.Chart.{Transition, Chart}
use Rattle.file_format.specs.Parse.{Bytes}
use Rattle.file_format.specs.Body.{record_length}
use Rattle.file_format.specs.File.{chart_in, file_of}

-- with the two bytes of its own length
unfoldable pub transition_length : (W : ℕ) → Transition → ℕ
transition_length W r = 2 + record_length W (length r.starts) (length r.tests)

-- what follows the version and the length
unfoldable pub body_length : (W : ℕ) → Chart → ℕ
body_length W c = 9 + 2 * length c.accepting + sum_of (map (transition_length W) c.transitions)

-- the whole file
unfoldable pub file_length : (W : ℕ) → Chart → ℕ
file_length W c = 5 + body_length W c

-- the most that a file has whose constants have W bytes
abbrev pub most_bytes : (W : ℕ) → ℕ
most_bytes W = 46094 + 4096 * W

-- the bytes of the largest file that the reader accepts, of version 2 or 3 (document 02, P2 and P7)
abbrev pub largest_file : ℕ
largest_file = 62478

-- the bytes of the largest of version 1 (document 01, "The chart file")
abbrev pub largest_of_version1 : ℕ
largest_of_version1 = 54286

-- a transition with as much as a chart's limits allow: it starts all 64 timers and has 8 tests
unfoldable pub full_transition : Transition
full_transition = record {
  source = 0;
  target = 0;
  event = 0;
  starts = up_to (λ j. j) 64;
  tests = replicate 8 (record { timer = 0; comparison = AtMost; constant = 0 });
}

-- a chart with as much as its limits allow: 256 locations, all accepting, 64 timers, 512 such transitions
unfoldable pub full_chart : (version : ℕ) → Chart
full_chart version = record {
  version = version;
  locations = 256;
  initial = 0;
  timers = 64;
  accepting = up_to (λ q. q) 256;
  transitions = replicate 512 full_transition;
}

-- the largest file of that version that the reader accepts has n bytes: none has more, and that of the full chart is accepted and has as many
pub record LargestFile (version n : ℕ) : Type 0 where
  pub most : (bs : List ℕ) (c : Chart) → Bytes bs → chart_in bs ≡ returned c → c.version ≡ version → length bs ≤ n
  pub reads : chart_in (file_of (full_chart version)) ≡ returned (full_chart version)
  pub reached : length (file_of (full_chart version)) ≡ n
