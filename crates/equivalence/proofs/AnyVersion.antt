-- The calls answer alike on the files of one chart in two versions, where both versions hold it and allow spare locations alike, or it has none. Each
-- file is read as its chart, and what follows looks at the version for nothing else.
use mathlib.Core.Path.{◌≡◌, refl, ap, ◌∙◌}
use mathlib.Core.Bool.{Bool, true, false}
use mathlib.Core.List.{List}
use Prim.Native.Nat.{ℕ}
use lib.Dec.{leb}
use Rattle.model.specs.Answer.{Answer, returned, refused, then, unless, nowhere}
use Rattle.model.specs.Chart.{Chart}
use Rattle.model.specs.Version.{in_version}
use Rattle.model.specs.Valid.{Storable}
use Rattle.model.specs.AnyVersion.{SpareAlike, JudgedInVersion}
use Rattle.model.specs.FirstFit.{used_by, used}
use Rattle.model.specs.Judge.{judged}
use Rattle.model.proofs.AnyVersion.{same_in_version, judged_in_version}
use Rattle.file_format.specs.File.{chart_in, file_of}
use Rattle.file_format.proofs.Bytes.{file_bytes}
use Rattle.file_format.proofs.File.{chart_survives}
use Rattle.chart_lists.specs.Lists.{overwritten}
use Rattle.judgement.specs.Judging.{judged_in}
use Rattle.analysis.specs.Analysing.{analysed_sets, analysed_chart, analysed_in, values_of, analyse_answer}
use Rattle.player.specs.Playing.{play_answer}
use Rattle.equivalence.specs.AnyVersion.{SameCalls}
use Rattle.equivalence.proofs.RewrittenFile.{room_enough}

-- what the analysis answers of a chart
same_values : (version : ℕ) (c : Chart) → values_of (in_version version c) ≡ values_of c
unfolding values_of used
same_values version c = let s = same_in_version version c in
    λ i. record { used = used_by (s.same_board i); floor = s.same_floor i; searched = s.same_searched i; rounds = s.same_rounds i }

module _ (version : ℕ) (c : Chart) (stored : Storable c) (stored' : Storable (in_version version c)) (alike : SpareAlike version c) where
  judged_alike : JudgedInVersion version c
  judged_alike = judged_in_version version c stored.valid alike

  read : chart_in (file_of c) ≡ returned c
  read = chart_survives c stored

  read' : chart_in (file_of (in_version version c)) ≡ returned (in_version version c)
  read' = chart_survives (in_version version c) stored'

  -- the chart that is analysed is the same in that version
  analysed : (room : ℕ) → analysed_in room (file_of (in_version version c))
      ≡ then (analysed_in room (file_of c)) (λ d. returned (in_version version d))
  unfolding analysed_in judged_in analysed_chart in_version
  analysed room = rw (read, read', judged_alike.same_judged) (go (judged c))
    where
      room_for : (d : Chart) (b : Bool) → unless b 21 nowhere (returned (in_version version d))
          ≡ then (unless b 21 nowhere (returned d)) (λ e. returned (in_version version e))
      room_for d true = refl
      room_for d false = refl

      go : (x : Answer Chart) → then (then x (λ d. returned (in_version version d))) (analysed_chart room)
          ≡ then (then x (analysed_chart room)) (λ d. returned (in_version version d))
      go (returned d) = room_for d (leb d.locations room)
      go (refused n p) = refl

  analyses_alike : (room : ℕ) → analyse_answer room (file_of (in_version version c)) ≡ analyse_answer room (file_of c)
  unfolding analyse_answer
  analyses_alike room = rw (analysed room) (go (analysed_in room (file_of c)))
    where
      go : (x : Answer Chart) → then (then x (λ d. returned (in_version version d))) (λ d. returned (values_of d))
          ≡ then x (λ d. returned (values_of d))
      go (returned d) = ap returned (same_values version d)
      go (refused n p) = refl

  lists_alike : (room : ℕ) (l : List ℕ)
      → overwritten analysed_sets (analysed_in room (file_of (in_version version c))) l ≡ overwritten analysed_sets (analysed_in room (file_of c)) l
  unfolding analysed_sets
  lists_alike room l = rw (analysed room) (go (analysed_in room (file_of c)))
    where
      go : (x : Answer Chart) → overwritten analysed_sets (then x (λ d. returned (in_version version d))) l ≡ overwritten analysed_sets x l
      go (returned d) = rw (same_in_version version d).same_live
      go (refused n p) = refl

  pub same_calls : SameCalls version c
  unfolding play_answer file_of
  same_calls = record {
    analyses = analyses_alike;
    live_lists = lists_alike;
    rewrites = λ K.
        room_enough K (file_of (in_version version c)) (file_bytes _ (in_version version c))
        ∙ rw (read', room_enough K (file_of c) (file_bytes _ c), read) (judged_alike.same_rewriting K);
    plays = λ counts is ts. rw (read, read') (judged_alike.same_played counts is ts);
  }
