-- The cases that document 01 marks ★ hold of the entry points' definitions too: the same list, the same replies, from files. Both sides are computed,
-- once every definition on the way may be unfolded.
use mathlib.Core.Path.{◌≡◌, refl}
use mathlib.Core.List.{◌++◌, map}
use Rattle.model.specs.Cases.{Case, starred, unnoticed}
use Rattle.model.proofs.Computing.{cases_compute}
use Rattle.file_format.proofs.Computing.{files_compute}
use Rattle.chart_lists.specs.Lists.{put}
use Rattle.judgement.specs.Judging.{judged_in}
use Rattle.analysis.specs.Analysing.{analysed_sets, analysed_chart, analysed_in, values_of, analyse_answer}
use Rattle.rewriting.specs.Rewriting.{rewrite_into}
use Rattle.player.specs.Playing.{play_answer}
use Rattle.equivalence.specs.OnFiles.{analysed_list, ask_file}

pub starred_on_files : map (λ (x : Case). ask_file x.question) (starred ++ unnoticed) ≡ map (λ (x : Case). x.reply) (starred ++ unnoticed)
unfolding cases_compute files_compute put judged_in analysed_sets analysed_chart analysed_in values_of analyse_answer rewrite_into play_answer
    analysed_list ask_file
starred_on_files = refl
