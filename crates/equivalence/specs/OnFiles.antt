-- The questions of the list of ★ cases, asked of the entry points' definitions: each chart as its file.
use Rattle.std.specs.Prelude.{List, ℕ, replicate}
use Rattle.model.specs.Answer.{Answer, returned, refused}
use Rattle.model.specs.Chart.{Chart}
use Rattle.model.specs.Spare.{reached_part}
use Rattle.model.specs.FirstFit.{board}
use Rattle.model.specs.Cases.{Question, Reply, board_numbers}
use Rattle.model.specs.Cases.Question.{live_sets_lem, numbers, round_count, rewrite, play}
use Rattle.model.specs.Cases.Reply.{sets, given, count, rewriting_is, played_is}
use Rattle.file_format.specs.File.{file_of}
use Rattle.file_format.specs.Lengths.{largest_file}
use Rattle.chart_lists.specs.Lists.{overwritten}
use Rattle.analysis.specs.declared.Analysis.{Analysis}
use Rattle.analysis.specs.Analysing.{analysed_sets, analysed_in, analyse_answer}
use Rattle.rewriting.specs.Rewriting.{rewrite_into}
use Rattle.player.specs.Playing.{play_answer}

-- a list of as many words as there are locations, lent to the analysis
unfoldable pub analysed_list : Chart → List ℕ
analysed_list c = overwritten analysed_sets (analysed_in c.locations (file_of c)) (replicate c.locations 7)

-- a reply by the values that the analysis answers; a refused chart has none
abbrev pub of_values : Chart → (Analysis → Reply) → Answer Analysis → Reply
of_values c reply (returned f) = reply f
of_values c reply (refused n p) = sets (analysed_list c)

-- the reply of the entry point that answers the question
unfoldable pub ask_file : Question → Reply
ask_file (live_sets_lem c) = sets (analysed_list c)
ask_file (numbers c) = of_values c (λ f. given (board_numbers (board (reached_part c))) f.used f.floor) (analyse_answer c.locations (file_of c))
ask_file (round_count c) = of_values c (λ f. count f.rounds) (analyse_answer c.locations (file_of c))
ask_file (rewrite c k) = rewriting_is (rewrite_into k largest_file (file_of c))
ask_file (play c v is ts) = played_is (play_answer (file_of c) v is ts)
