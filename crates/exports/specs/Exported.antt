-- The answers as C sees them: number and place are 0 where there is a result, the result's fields are 0 where there is a refusal; yes is 1, no is 0.
-- Assumes nothing.
use Rattle.std.specs.Prelude.{◌≡◌, Bool, cond, ℕ, Result}
use Rattle.model.specs.Answer.{Answer, returned, refused}
use Rattle.model.specs.Player.{Arrival}
use Rattle.refusal.specs.declared.Refusal.{Refusal}
use Rattle.refusal.specs.Refused.{answer_as, answer_by}
use Rattle.analysis.specs.declared.Analysis.{Analysis}
use Rattle.rewriting.specs.Rewriting.{RewritingValues}
use Rattle.counter_model.specs.CounterPlayer.{CounterArrival}
use Rattle.chart_lists.specs.declared.Header.{Header}
use Rattle.player.specs.declared.Arrival.{Arrival as Code·Arrival}
use Rattle.player.specs.Playing.{arrival_as}
use Rattle.counter_player.specs.declared.CounterArrival.{CounterArrival as Code·CounterArrival}
use Rattle.counter_player.specs.Playing.{counter_arrival_as}
use Rattle.exports.specs.declared.chart_analysis.{chart_analysis}
use Rattle.exports.specs.declared.chart_rewriting.{chart_rewriting}
use Rattle.exports.specs.declared.chart_playing.{chart_playing}
use Rattle.exports.specs.declared.chart_counter_playing.{chart_counter_playing}
use Rattle.exports.specs.declared.files.chart_reading.{chart_reading}
use Rattle.exports.specs.declared.files.chart_writing.{chart_writing}

abbrev pub bit : Bool → ℕ
bit b = cond b 1 0

abbrev pub analysis_of : Answer Analysis → chart_analysis
analysis_of (returned f) = record { number = 0; place = 0; used = f.used; floor = f.floor; searched = bit f.searched; rounds = f.rounds }
analysis_of (refused n p) = record { number = n; place = p; used = 0; floor = 0; searched = 0; rounds = 0 }

abbrev pub rewriting_of : Answer RewritingValues → chart_rewriting
rewriting_of (returned f) = record { number = 0; place = 0; used = f.used; length = f.length }
rewriting_of (refused n p) = record { number = n; place = p; used = 0; length = 0 }

abbrev pub playing_of : Answer Arrival → chart_playing
playing_of (returned x) = record { number = 0; place = 0; location = x.location; time = x.time; accepting = bit x.accepting }
playing_of (refused n p) = record { number = n; place = p; location = 0; time = 0; accepting = 0 }

abbrev pub counter_playing_of : Answer CounterArrival → chart_counter_playing
counter_playing_of (returned x) = record { number = 0; place = 0; location = x.location; accepting = bit x.accepting }
counter_playing_of (refused n p) = record { number = n; place = p; location = 0; accepting = 0 }

abbrev pub reading_of : Answer Header → chart_reading
reading_of (returned h) = record {
  number = 0;
  place = 0;
  version = h.version;
  locations = h.locations;
  initial = h.initial;
  timers = h.timers;
  accepting = h.accepting;
  transitions = h.transitions;
}
reading_of (refused n p) = record {
  number = n;
  place = p;
  version = 0;
  locations = 0;
  initial = 0;
  timers = 0;
  accepting = 0;
  transitions = 0;
}

abbrev pub writing_of : Answer ℕ → chart_writing
writing_of (returned n) = record { number = 0; place = 0; length = n }
writing_of (refused n p) = record { number = n; place = p; length = 0 }

-- the header that the six numbers of a call give
abbrev pub header_with : (version locations initial timers accepting transitions : ℕ) → Header
header_with v q i t a n = record { version = v; locations = q; initial = i; timers = t; accepting = a; transitions = n }

-- what C sees of each answer of the code
abbrev pub IsAnalysis : Result Analysis Refusal → chart_analysis → Type 0
IsAnalysis r a = a ≡ analysis_of (answer_as r)

abbrev pub IsRewriting : Result RewritingValues Refusal → chart_rewriting → Type 0
IsRewriting r a = a ≡ rewriting_of (answer_as r)

abbrev pub IsPlaying : Result Code·Arrival Refusal → chart_playing → Type 0
IsPlaying r a = a ≡ playing_of (answer_by arrival_as r)

abbrev pub IsCounterPlaying : Result Code·CounterArrival Refusal → chart_counter_playing → Type 0
IsCounterPlaying r a = a ≡ counter_playing_of (answer_by counter_arrival_as r)

abbrev pub IsReading : Result Header Refusal → chart_reading → Type 0
IsReading r a = a ≡ reading_of (answer_as r)

abbrev pub IsWriting : Result ℕ Refusal → chart_writing → Type 0
IsWriting r a = a ≡ writing_of (answer_as r)
