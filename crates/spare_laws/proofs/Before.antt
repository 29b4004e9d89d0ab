-- Every call on a file that is not of version 3 answers what it answered before there was version 3; and in every version a chart without spare
-- locations has the results of before. Nothing is hard: below version 3 the judgement is that of before, and where it accepts, or where every
-- location is reached, the part of the chart that counts and the chart that is rewritten are the chart itself. Assumes nothing.
use mathlib.Core.Path.{◌≡◌, refl, sym, ap, ◌∙◌}
use mathlib.Core.Bool.{Bool, true, false, not, ◌||◌}
use mathlib.Core.Option.{some}
use mathlib.Core.List.{List, [], ◌∷◌, ◌++◌}
use Prim.Native.Nat.{ℕ, ◌<◌}
use native.Mathlib.Omega.{arith}
use lib.Dec.{leb}
use lib.ListN.{length, get_elem?}
use borrow.Author.Tests.{lt-leb}
use Rattle.lists.specs.Lists.{gather, up_to}
use Rattle.lists.proofs.Bools.{or_right}
use Rattle.lists.proofs.Flatten.{gather_same}
use Rattle.model.specs.Answer.{Answer, returned, refused, then, unless, nowhere}
use Rattle.model.specs.Chart.{Chart}
use Rattle.model.specs.Valid.{Valid}
use Rattle.model.specs.Version.{allows_spare}
use Rattle.model.specs.Live.{live_sets, first_unreached, first_unstarted}
use Rattle.model.specs.Places.{AllReached}
use Rattle.model.specs.FirstFit.{board, used_by, blocked}
use Rattle.model.specs.Floor.{floor, searched}
use Rattle.model.specs.Rewrite.{rewritten_by, board_numbering, rewritten}
use Rattle.model.specs.Judge.{Rewriting, judged, fitted}
use Rattle.model.specs.Player.{played, played_on}
use Rattle.model.proofs.Versions.{known_most}
use Rattle.model.proofs.Judgement.{none_unreached}
use Rattle.model.proofs.ReachedPart.{part_whole}
use Rattle.model.proofs.SpareCleared.{cleared_whole}
use Rattle.file_format.specs.Parse.{Bytes}
use Rattle.file_format.specs.File.{chart_in, file_of}
use Rattle.file_format.proofs.File.{reads_storable, reads_valid}
use Rattle.file_format.proofs.Versions.{version_first, reads_as_before}
use Rattle.chart_lists.specs.Lists.{overwritten}
use Rattle.model.proofs.Answers.{then_then}
use Rattle.judgement.specs.Judging.{judged_in}
use Rattle.judgement.proofs.Corollaries.{judged_result}
use Rattle.analysis.specs.Analysing.{analysed_chart, analysed_in, analyse_answer, values_of, analysed_sets}
use Rattle.rewriting.specs.Rewriting.{new_file, rewrite_into, rewrite_answer}
use Rattle.rewriting.specs.Rewriting.{values_of as rewritingValues}
use Rattle.rewriting.specs.Parts.{fitted_into}
use Rattle.rewriting.proofs.Order.{into_refused, into_accepted}
use Rattle.player.specs.Playing.{play_answer}
use Rattle.counter_model.specs.CounterPlayer.{counter_played_on, counter_answer}
use Rattle.controller_model.specs.declared.Heads.{Heads}
use Rattle.controller_model.specs.Parts.{in_order}
use Rattle.controller_model.specs.Heads.{head_file, charts_in}
use Rattle.controller_model.proofs.ListParts.{all_part}
use Rattle.listing.specs.Listing.{largest_input, refused_text, first_line, line_of, chart_text, accepted, listed_chart, answer_text, text_of}
use Rattle.listing.proofs.Accepted.{accepted_refused, accepted_judged}
use Rattle.spare_laws.specs.Before.{judged_before, judged_in_before, fitted_before, rewrite_before, rewrite_answer_before}
use Rattle.spare_laws.specs.Before.{values_before, analysed_in_before, analyse_answer_before, play_answer_before, counter_answer_before}
use Rattle.spare_laws.specs.Before.{charts_before, chart_text_before, answer_text_before, text_before, FileAsBefore, ChartAsBefore}

-- what goes on alike from every result goes on alike
then_alike : {A B : Type 0} (x : Answer A) (f g : A → Answer B) → ((a : A) → x ≡ returned a → f a ≡ g a) → then x f ≡ then x g
then_alike (returned a) f g h = h a refl
then_alike (refused n p) f g h = refl

-- what is written of a result, first formed and then written
overwritten_then : {A : Type 0} (f : A → List ℕ) (x : Answer A) (l : List ℕ)
    → overwritten f x l ≡ overwritten (λ s. s) (then x (λ a. returned (f a))) l
overwritten_then f (returned a) l = refl
overwritten_then f (refused n p) l = refl

-- ---- a chart

module _ (c : Chart) where
  -- where 9 is judged, or refuses nothing
  judged_alike : (allows_spare c.version || leb c.locations (first_unreached c)) ≡ leb c.locations (first_unreached c)
      → judged c ≡ judged_before c
  unfolding judged judged_before
  judged_alike e = ap (λ (b : Bool).
      unless b 9 (first_unreached c) (unless (leb (length c.transitions) (first_unstarted c)) 10 (first_unstarted c) (returned c))) e

-- without spare locations, in every version
pub chart_as_before : {W : ℕ} {c : Chart} → Valid W c → AllReached c → ChartAsBefore c
unfolding fitted fitted_before rewritten values_of values_before analysed_sets chart_text chart_text_before
chart_as_before {c = c} valid all =
    let part = part_whole valid all in
    let cleared = cleared_whole valid all in
    let none = none_unreached valid all in
    record {
      judges = judged_alike c (or_right (allows_spare c.version) none ∙ sym none);
      fits = λ K i.
          unless (leb K 64) 11 nowhere (
          unless (not (blocked K (board (part i)))) 20 nowhere (
          returned (record { used = used_by (board (part i)); chart = rewritten_by (board_numbering (part i)) (cleared i) })));
      values = ap values_before part;
      sets = ap live_sets part;
      text = λ K. ap (λ (d : Chart).
          first_line (board_numbering d).used (floor d) (searched d) K ++ gather (line_of c.timers (board_numbering d)) c.locations) part;
    }

-- ---- a file

module _ (bs : List ℕ) (bytes : Bytes bs) (other : get_elem? bs 0 ≡ some 3 → ⊥) where
  -- its chart is of version 1 or 2
  none_spare : (c : Chart) → chart_in bs ≡ returned c → allows_spare c.version ≡ false
  unfolding allows_spare
  none_spare c e =
      let first = version_first bs c bytes e in
      let not_3 : c.version ≡ 3 → ⊥ = λ q. other (first ∙ ap some q) in
      lt-leb 3 c.version (omega (arith, not_3, known_most c.version (reads_storable bs c bytes e).known))

  same_judged : judged_in bs ≡ judged_in_before bs
  unfolding judged_in judged_in_before
  same_judged =
      then_alike (chart_in bs) judged judged_before
      (λ c e. judged_alike c (ap (λ (b : Bool). b || leb c.locations (first_unreached c)) (none_spare c e)))
      ∙ ap (λ x. then x judged_before) (reads_as_before bs other)

  -- and where it is accepted it has no spare location
  free : (c : Chart) → judged_in bs ≡ returned c → ChartAsBefore c
  free c e =
      let a = (judged_result bs bytes c).0 e in
      chart_as_before (reads_valid bs c bytes a.reads) (a.accepted.reached (none_spare c a.reads))

  -- what goes on alike from accepted charts
  goes_on : {A : Type 0} (f g : Chart → Answer A) → ((c : Chart) → ChartAsBefore c → f c ≡ g c) → then (judged_in bs) f ≡ then (judged_in_before bs) g
  goes_on f g h = then_alike (judged_in bs) f g (λ c e. h c (free c e)) ∙ ap (λ x. then x g) same_judged

  -- the rewriting: the judgement first, then the fitting
  same_into : (K room : ℕ) → rewrite_into K room bs ≡ rewrite_before K room bs
  unfolding rewrite_before fitted_into
  same_into K room =
      judged_first (judged_in bs) refl
      ∙ goes_on (fitted_into K room) (λ c. then (fitted_before K c) into) (λ c s. ap (λ y. then y into) (s.fits K))
    where
      into : Rewriting → Answer Rewriting
      into x = unless (leb (length (file_of x.chart)) room) 21 nowhere (returned x)

      judged_first : (y : Answer Chart) → judged_in bs ≡ y → rewrite_into K room bs ≡ then (judged_in bs) (fitted_into K room)
      judged_first (returned c) e = into_accepted K room bs e ∙ rw e
      judged_first (refused n p) e = into_refused K room bs e ∙ rw e

  -- the analysis: what is formed of an accepted chart for which there is room
  same_found : {B : Type 0} (room : ℕ) (f g : Chart → B) → ((c : Chart) → ChartAsBefore c → f c ≡ g c)
      → then (analysed_in room bs) (λ c. returned (f c)) ≡ then (analysed_in_before room bs) (λ c. returned (g c))
  unfolding analysed_in analysed_in_before analysed_chart
  same_found room f g h =
      then_then (judged_in bs) (analysed_chart room) (λ c. returned (f c))
      ∙ goes_on (λ c. then (analysed_chart room c) (λ c. returned (f c))) (λ c. then (analysed_chart room c) (λ c. returned (g c)))
      (λ c s. roomy c (leb c.locations room) (h c s))
      ∙ sym (then_then (judged_in_before bs) (analysed_chart room) (λ c. returned (g c)))
    where
      roomy : (c : Chart) (b : Bool) → f c ≡ g c
          → then (unless b 21 nowhere (returned c)) (λ c. returned (f c)) ≡ then (unless b 21 nowhere (returned c)) (λ c. returned (g c))
      roomy c true e = ap returned e
      roomy c false e = refl

  -- the program: 11 and 20, then the chart's text
  same_text : (K : ℕ)
      → answer_text K (accepted K bs) ≡ answer_text_before K (then (judged_in_before bs) (λ c. then (fitted_before K c) (λ x. returned c)))
  unfolding listed_chart
  same_text K = rw (← same_judged) (go (judged_in bs) refl)
    where
      shown : (c : Chart) → ChartAsBefore c → (y : Answer Rewriting)
          → answer_text K (then y (λ x. returned c)) ≡ answer_text_before K (then y (λ x. returned c))
      shown c s (returned x) = s.text K
      shown c s (refused n p) = refl

      go : (y : Answer Chart) → judged_in bs ≡ y
          → answer_text K (accepted K bs) ≡ answer_text_before K (then y (λ c. then (fitted_before K c) (λ x. returned c)))
      go (returned c) e = let s = free c e in
          ap (answer_text K) (accepted_judged K bs e)
          ∙ shown c s (fitted K c)
          ∙ ap (λ y. answer_text_before K (then y (λ x. returned c))) (s.fits K)
      go (refused n p) e = ap (answer_text K) (accepted_refused K bs e)

  pub file_as_before : FileAsBefore bs
  unfolding analyse_answer analyse_answer_before rewrite_answer rewrite_answer_before play_answer played play_answer_before judged_in
      counter_answer counter_answer_before text_of text_before
  file_as_before = record {
    reads = reads_as_before bs other;
    judges = same_judged;
    analyses = λ room. same_found room values_of values_before (λ c s. s.values);
    leaves_list = λ room l.
        overwritten_then analysed_sets (analysed_in room bs) l
        ∙ ap (λ x. overwritten (λ s. s) x l) (same_found room analysed_sets live_sets (λ c s. s.sets))
        ∙ sym (overwritten_then live_sets (analysed_in_before room bs) l);
    rewrites = λ K room. ap (λ x. then x (λ x. returned (rewritingValues x))) (same_into K room);
    leaves_buffer = λ K room out. ap (λ x. overwritten new_file x out) (same_into K room);
    plays = λ counts is ts.
        sym (then_then (chart_in bs) judged (played_on counts is ts)) ∙ ap (λ x. then x (played_on counts is ts)) same_judged;
    plays_counter = λ counts is first rs. ap (λ x. then x (counter_played_on counts is first rs)) same_judged;
    prints = λ K. ap (λ (t : List ℕ). elim (leb (length (K ∷ bs)) largest_input) [ false ↦ refused_text 16 nowhere | true ↦ t ]) (same_text K);
  }

-- ---- a controller's heads

pub charts_as_before : (files : List ℕ) (hs : Heads) → ((h : ℕ) → h < hs.number → get_elem? (head_file files hs h) 0 ≡ some 3 → ⊥) → Bytes files
    → charts_in files hs ≡ charts_before files hs
unfolding charts_in charts_before up_to
charts_as_before files hs other bytes =
    ap in_order (gather_same (λ h. judged_in (head_file files hs h) ∷ []) (λ h. judged_in_before (head_file files hs h) ∷ []) hs.number
    (λ h l. ap (λ x. x ∷ []) (same_judged (head_file files hs h) (all_part (λ b. b < 256) hs.lengths h files bytes) (other h l))))
