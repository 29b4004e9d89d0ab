-- `sound_head` makes the tests of 32 on one head. The laws take the code's tests as they are.
use mathlib.Core.Path.{sym, ◌∙◌}
use native.Mathlib.Omega.{arith}
use Rattle.chart_lists.proofs.Fronts.{locations_are, timers_are}
use Rattle.controller.proofs.SoundHeads.{wrong_location, wrong_time, wrong_waiting, counts_decide}
use Rattle.controller.proofs.state.sound_head.Goals as goal
use Rattle.controller.proofs.state.sound_head.Goals.{
  then-head-from-via-then-head-from,
  then-head-from-via-else-head-from+then-head-gt-LARGEST_TIME,
  then-head-from-via-else-head-from+else-head-gt-LARGEST_TIME+then-not-sound_waiting,
}

pub returns-then-head-from : goal.returns-then-head-from
returns-then-head-from c = λ ch e.
    elim c.then-head-from.branch [
      | then-head-from-via-then-head-from w ↦ wrong_location ch _ _ (omega (arith, locations_are ch e, c.from.ensures, w.if-head-from.true))
      | then-head-from-via-else-head-from+then-head-gt-LARGEST_TIME w ↦
          wrong_time ch _ _ (omega (arith, locations_are ch e, c.from.ensures, w.if-head-from.false)) w.if-head-gt-LARGEST_TIME.true
      | then-head-from-via-else-head-from+else-head-gt-LARGEST_TIME+then-not-sound_waiting w ↦
          wrong_waiting ch _ _ (omega (arith, locations_are ch e, c.from.ensures, w.if-head-from.false)) w.if-head-gt-LARGEST_TIME.false
          (sym w.sound_waiting.ensures ∙ w.if-not-sound_waiting.true)
    ]

pub returns : goal.returns
returns c = λ ch e.
    (rw (c.from-2.ensures, timers_are ch e) at c.sound_counts.ensures)
    ∙ counts_decide ch _ _ (omega (arith, locations_are ch e, c.from.ensures, c.if-head-from.false)) c.if-head-gt-LARGEST_TIME.false
    (sym c.sound_waiting.ensures ∙ c.if-not-sound_waiting.false)
