-- What a proof by computation unfolds of this layer and those below: `unfolding counter_compute` stands for these definitions.
use Rattle.file_format.proofs.Computing.{files_compute}
use Rattle.judgement.specs.Judging.{judged_in}
use Rattle.player.specs.Playing.{play_answer}
use Rattle.counter_model.specs.Counter.{ticks_passed, reading_at, readings_at, times_of, risen}
use Rattle.counter_model.specs.CounterRun.{counts_at, counter_after, counter_attempt, counter_steps, counter_begin, counter_outcome}
use Rattle.counter_model.specs.CounterPlayer.{counter_arrival, counter_answer_of, counter_answer}
use Rattle.counter_model.specs.CounterClaim.{without_time}

unfoldable pub counter_compute : Unit {0}
unfolding files_compute judged_in play_answer ticks_passed reading_at readings_at times_of risen
    counts_at counter_after counter_attempt counter_steps counter_begin counter_outcome counter_arrival counter_answer_of counter_answer without_time
counter_compute = tt
