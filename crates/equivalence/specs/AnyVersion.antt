-- The calls on the files of one chart in two versions: they answer alike, and the rewriting leaves the file of the same chart in the version of the
-- file that it read (document 02, P2), where both versions allow spare locations or neither does, or the chart has none (P7).
use Rattle.std.specs.Prelude.{◌≡◌, List, ℕ}
use Rattle.model.specs.Answer.{returned, then}
use Rattle.model.specs.Chart.{Chart}
use Rattle.model.specs.Version.{in_version}
use Rattle.file_format.specs.File.{file_of}
use Rattle.file_format.specs.Lengths.{largest_file}
use Rattle.chart_lists.specs.Lists.{overwritten}
use Rattle.analysis.specs.Analysing.{analysed_sets, analysed_in, analyse_answer}
use Rattle.rewriting.specs.Rewriting.{rewrite_into}
use Rattle.player.specs.Playing.{play_answer}

-- the file of the chart, and that of the same chart in another version
pub record SameCalls (version : ℕ) (c : Chart) : Type 0 where
  pub analyses : (room : ℕ) → analyse_answer room (file_of (in_version version c)) ≡ analyse_answer room (file_of c)
  pub live_lists : (room : ℕ) (l : List ℕ)
      → overwritten analysed_sets (analysed_in room (file_of (in_version version c))) l ≡ overwritten analysed_sets (analysed_in room (file_of c)) l
  -- with room for every file, since the two files differ in length
  pub rewrites : (K : ℕ) → rewrite_into K largest_file (file_of (in_version version c))
      ≡ then (rewrite_into K largest_file (file_of c)) (λ x. returned (record { used = x.used; chart = in_version version x.chart }))
  pub plays : (counts is ts : List ℕ) → play_answer (file_of (in_version version c)) counts is ts ≡ play_answer (file_of c) counts is ts
