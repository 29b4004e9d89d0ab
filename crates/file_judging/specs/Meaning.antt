-- What each answer of the code says of the file.
use Rattle.std.specs.Prelude.{◌≡◌, List, ℕ, length, drop, Result, Ok, Err}
use Rattle.model.specs.Answer.{Answer, returned}
use Rattle.model.specs.Chart.{Chart}
use Rattle.refusal.specs.declared.Refusal.{Refusal}
use Rattle.refusal.specs.Refused.{refused_as}
use Rattle.chart_lists.specs.declared.Header.{Header}
use Rattle.chart_lists.specs.Header.{header_of}
use Rattle.chart_lists.specs.Lists.{all_tests}
use Rattle.file_format.specs.File.{Versioned, chart_in}

-- the version, and the body of the file from the next place on
abbrev pub frame_as : List ℕ → Result (ℕ × ℕ) Refusal → Answer Versioned
frame_as s (Ok (version, next)) = returned (record { version = version; body = drop next s })
frame_as s (Err f) = refused_as f

-- ---- the whole file

-- the file's chart: its header, and the number of its tests
pub record ChartIs (s : List ℕ) (m : Header) (tests : ℕ) : Type 0 where
  pub chart : Chart
  pub is : chart_in s ≡ returned chart
  pub header_is : m ≡ header_of chart
  pub number_of_tests : tests ≡ length (all_tests chart.transitions)

-- what an answer says of a file
abbrev pub JudgesFile : List ℕ → Result (Header × ℕ) Refusal → Type 0
JudgesFile s (Ok (m, tests)) = ChartIs s m tests
JudgesFile s (Err f) = chart_in s ≡ refused_as f
