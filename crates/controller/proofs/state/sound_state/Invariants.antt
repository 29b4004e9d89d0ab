use Rattle.std.proofs.Common.{◌≡◌, List, length}
use Rattle.model.specs.Chart.{Chart}
use Rattle.controller_model.specs.Headers.{HeadersOf}
use Rattle.controller_model.specs.Controlling.{sound_at}
use Rattle.controller.specs.Judged.{TimersFit}
use Rattle.controller.proofs.Every.{PassTo}
use Rattle.controller.proofs.state.sound_state.Given as goal

abbrev pub invariant-loop-h : goal.invariant-loop-h
invariant-loop-h l = (cs : List Chart) → l.n ≡ length cs → HeadersOf cs l.headers → TimersFit l.blocks cs → PassTo (sound_at l.blocks cs l.state) l.h
