-- What the judgement of a file leaves is what the steps are taken by, and a refusal of it is the player's. The player's answer is the judgement's,
-- then that on the chart.
use mathlib.Core.Path.{◌≡◌, refl, sym, ◌∙◌}
use mathlib.Core.List.{List}
use Prim.Native.Nat.{ℕ}
use Rattle.model.specs.Answer.{Answer, returned, refused, then}
use Rattle.model.specs.Chart.{Chart}
use Rattle.model.specs.Judge.{judged}
use Rattle.model.specs.Player.{Arrival, played, played_on}
use Rattle.file_format.specs.File.{chart_in}
use Rattle.chart_lists.specs.Lists.{Lists}
use Rattle.chart_lists.specs.Holds.{Holds}
use Rattle.chart_lists.specs.declared.Header.{Header}
use Rattle.chart_lists.proofs.Begins.{begins_self}
use Rattle.chart_lists.proofs.Partly.{holds_of}
use Rattle.judgement.specs.Judging.{judged_in, judged_header}
use Rattle.judgement.specs.Charts.{AcceptedChart}
use Rattle.judgement.proofs.Callers.{accepted_then, refused_then}
use Rattle.player.specs.Playing.{play_answer, play_lists}

-- ---- the answer

module _ (bs counts is ts : List ℕ) where
  -- the judgement of the file, then 12, 13 and the steps
  pub play_is : play_answer bs counts is ts ≡ then (judged_in bs) (played_on counts is ts)
  unfolding play_answer judged_in played
  play_is = go (chart_in bs)
    where
      go : (x : Answer Chart) → then x (λ c. played c counts is ts) ≡ then (then x judged) (played_on counts is ts)
      go (returned c) = refl
      go (refused n p) = refl

  pub accepted_answer : {h : Header} (a : AcceptedChart bs h) {y : Answer Arrival} → y ≡ played_on counts is ts a.chart
      → y ≡ play_answer bs counts is ts
  accepted_answer a e = e ∙ accepted_then (played_on counts is ts) a ∙ sym play_is

  pub refused_answer : {n p : ℕ} → refused n p ≡ judged_header bs → refused n p ≡ play_answer bs counts is ts
  refused_answer e = refused_then (played_on counts is ts) bs e ∙ sym play_is

-- ---- the lists

module _ {c : Chart} {l : Lists} (h : Holds c l) where
  -- all that the player looks at
  pub holds_played : Holds c (play_lists c l.accepting l.sources l.targets l.starts l.test_counts l.timers l.codes l.constants)
  holds_played =
      holds_of _ _ _ _ _ _ _ _ _ h.valid h.accepting h.sources h.targets (begins_self _) h.starts h.test_counts
      h.timers h.codes h.constants
