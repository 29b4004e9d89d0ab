-- The results as they were formed before there was version 3 (document 02, P7): 2 refused it, 9 was judged in every version, and every transition
-- counted. Then what it is for a file, and for a chart, to have these results still (proofs/Before shows of which it holds). Assumes nothing.
use Rattle.std.specs.Prelude.{◌≡◌, true, false, not, List, [], ◌∷◌, ◌++◌, ℕ, leb, length}
use Rattle.lists.specs.Lists.{gather, up_to}
use Rattle.model.specs.Answer.{Answer, returned, refused, then, unless, nowhere}
use Rattle.model.specs.Chart.{Chart}
use Rattle.model.specs.Live.{live_sets, live_rounds, first_unreached, first_unstarted}
use Rattle.model.specs.FirstFit.{board, used, used_by, blocked}
use Rattle.model.specs.Floor.{floor, searched}
use Rattle.model.specs.Rewrite.{rewritten_by, board_numbering}
use Rattle.model.specs.Judge.{Rewriting, judged, fitted}
use Rattle.model.specs.Player.{Arrival, played_on}
use Rattle.file_format.specs.File.{chart_in, file_of}
use Rattle.file_format.specs.Versions.{chart_in_version12}
use Rattle.chart_lists.specs.Lists.{overwritten}
use Rattle.judgement.specs.Judging.{judged_in}
use Rattle.analysis.specs.declared.Analysis.{Analysis}
use Rattle.analysis.specs.Analysing.{analysed_chart, analysed_in, analyse_answer, values_of, analysed_sets}
use Rattle.rewriting.specs.Rewriting.{RewritingValues, new_file, rewrite_into, rewrite_answer}
use Rattle.rewriting.specs.Rewriting.{values_of as rewritingValues}
use Rattle.player.specs.Playing.{play_answer}
use Rattle.counter_model.specs.CounterPlayer.{CounterArrival, counter_played_on, counter_answer}
use Rattle.controller_model.specs.declared.Heads.{Heads}
use Rattle.controller_model.specs.Parts.{in_order}
use Rattle.controller_model.specs.Heads.{head_file}
use Rattle.listing.specs.Listing.{largest_input, refused_text, first_line, line_of, chart_text, text_of}

-- ---- the judgement

-- 9 at the lowest location that no path reaches; then 10 at the lowest transition with an unstarted test
unfoldable pub judged_before : Chart → Answer Chart
judged_before c =
    let unreached = first_unreached c in
    let unstarted = first_unstarted c in
    unless (leb c.locations unreached) 9 unreached (
    unless (leb (length c.transitions) unstarted) 10 unstarted (
    returned c))

-- of a file, 1 to 10
unfoldable pub judged_in_before : List ℕ → Answer Chart
judged_in_before bs = then (chart_in_version12 bs) judged_before

-- ---- the rewriting

-- 11, then 20, then the chart with the board numbers of first fit
unfoldable pub fitted_before : (K : ℕ) → Chart → Answer Rewriting
fitted_before K c =
    let placed = board c in
    unless (leb K 64) 11 nowhere (
    unless (not (blocked K placed)) 20 nowhere (
    returned (record { used = used_by placed; chart = rewritten_by (board_numbering c) c })))

-- of a file: 1 to 10, then 11, 20, then 21 if the buffer is too short
unfoldable pub rewrite_before : (K room : ℕ) → List ℕ → Answer Rewriting
rewrite_before K room bs =
    then (judged_in_before bs) (λ c.
    then (fitted_before K c) (λ x.
    unless (leb (length (file_of x.chart)) room) 21 nowhere (
    returned x)))

unfoldable pub rewrite_answer_before : (K room : ℕ) → List ℕ → Answer RewritingValues
rewrite_answer_before K room bs = then (rewrite_before K room bs) (λ x. returned (rewritingValues x))

-- ---- the analysis

unfoldable pub values_before : Chart → Analysis
values_before c = record { used = used c; floor = floor c; searched = searched c; rounds = live_rounds c }

-- 1 to 10, then 21; the lent list was left with the live sets
unfoldable pub analysed_in_before : (room : ℕ) → List ℕ → Answer Chart
analysed_in_before room bs = then (judged_in_before bs) (analysed_chart room)

unfoldable pub analyse_answer_before : (room : ℕ) → List ℕ → Answer Analysis
analyse_answer_before room bs = then (analysed_in_before room bs) (λ c. returned (values_before c))

-- ---- the players, and a controller, which sees the files only through the charts of its heads

unfoldable pub play_answer_before : (file counts transitions times : List ℕ) → Answer Arrival
play_answer_before bs counts is ts = then (judged_in_before bs) (played_on counts is ts)

unfoldable pub counter_answer_before : (file counts transitions : List ℕ) → (first : ℕ) → (readings : List ℕ) → Answer CounterArrival
counter_answer_before bs counts is first rs = then (judged_in_before bs) (counter_played_on counts is first rs)

unfoldable pub charts_before : (files : List ℕ) → Heads → Answer (List Chart)
charts_before files hs = in_order (up_to (λ h. judged_in_before (head_file files hs h)) hs.number)

-- ---- the program

unfoldable pub chart_text_before : (K : ℕ) → Chart → List ℕ
chart_text_before k c = let N = board_numbering c in
    first_line N.used (floor c) (searched c) k ++ gather (line_of c.timers N) c.locations

abbrev pub answer_text_before : (K : ℕ) → Answer Chart → List ℕ
answer_text_before k (returned c) = chart_text_before k c
answer_text_before k (refused n p) = refused_text n p

unfoldable pub text_before : List ℕ → List ℕ
text_before [] = refused_text 1 nowhere
text_before (k ∷ file) = elim (leb (length (k ∷ file)) largest_input) [
  | false ↦ refused_text 16 nowhere
  | true ↦ answer_text_before k (then (judged_in_before file) (λ c. then (fitted_before k c) (λ x. returned c)))
]

-- ---- still the same

-- of a file: what the reading, the judgement, the analysis, the rewriting, both players and the program answer and leave in lent memory is what it
-- was, refusals included
pub record FileAsBefore (bs : List ℕ) : Type 0 where
  pub reads : chart_in bs ≡ chart_in_version12 bs
  pub judges : judged_in bs ≡ judged_in_before bs
  pub analyses : (room : ℕ) → analyse_answer room bs ≡ analyse_answer_before room bs
  pub leaves_list : (room : ℕ) (l : List ℕ) → overwritten analysed_sets (analysed_in room bs) l ≡ overwritten live_sets (analysed_in_before room bs) l
  pub rewrites : (K room : ℕ) → rewrite_answer K room bs ≡ rewrite_answer_before K room bs
  pub leaves_buffer : (K room : ℕ) (out : List ℕ)
      → overwritten new_file (rewrite_into K room bs) out ≡ overwritten new_file (rewrite_before K room bs) out
  pub plays : (counts is ts : List ℕ) → play_answer bs counts is ts ≡ play_answer_before bs counts is ts
  pub plays_counter : (counts is : List ℕ) (first : ℕ) (rs : List ℕ)
      → counter_answer bs counts is first rs ≡ counter_answer_before bs counts is first rs
  pub prints : (K : ℕ) → text_of (K ∷ bs) ≡ text_before (K ∷ bs)

-- of a chart: it is judged and rewritten as before, and the analysis' values and sets and the program's text are those of the whole chart
pub record ChartAsBefore (c : Chart) : Type 0 where
  pub judges : judged c ≡ judged_before c
  pub fits : (K : ℕ) → fitted K c ≡ fitted_before K c
  pub values : values_of c ≡ values_before c
  pub sets : analysed_sets c ≡ live_sets c
  pub text : (K : ℕ) → chart_text K c ≡ chart_text_before K c
