-- What is asked of heads that are judged, and of the head whose turn it is.
use Rattle.std.specs.Prelude.{◌≡◌, true, List, ℕ, ◌+◌, ◌≤◌, ◌<◌, length, get_or}
use mathlib.Core.Option.{some}
use lib.ListN.{get_elem?}
use Rattle.model.specs.Answer.{Answer, returned}
use Rattle.model.specs.Chart.{Chart}
use Rattle.chart_lists.specs.declared.Header.{Header}
use Rattle.judgement.specs.Judging.{judged_in}
use Rattle.controller_model.specs.declared.Controller.{Controller}
use Rattle.controller_model.specs.declared.Heads.{Heads}
use Rattle.controller_model.specs.Parts.{offset, stretch}
use Rattle.controller_model.specs.Heads.{head_file, charts_in}
use Rattle.controller_model.specs.Headers.{HeadersOf}
use Rattle.controller_model.specs.Serving.{head_at, waits}
use Rattle.controller_model.specs.Serving.{Done}
use Rattle.controller_model.specs.Controlling.{Call, sound_head, set_up, state_judged, called}
use Rattle.controller_model.specs.declared.Parts.{Parts}
use Rattle.heads.specs.declared.Setting.{Setting}

-- charts whose timers lie in their blocks, and the blocks on a board of 64 timers
pub record TimersFit (blocks : List ℕ) (cs : List Chart) : Type 0 where
  pub total : offset blocks (length cs) ≤ 64
  pub long : (h : ℕ) (c : Chart) → get_elem? cs h ≡ some c → c.timers ≤ get_or blocks h 0

-- the heads' charts, as many as are said, with their headers, and blocks that hold their timers
pub record Ready (files : List ℕ) (hs : Heads) (headers : List Header) (cs : List Chart) : Type 0 where
  pub charts : charts_in files hs ≡ returned cs
  pub number : hs.number ≡ length cs
  pub headers_of : HeadersOf cs headers
  pub fits : TimersFit hs.blocks cs

-- the starting counts of n heads lie in their blocks, and the blocks on a board of 64 timers
pub record CountsFit (blocks : List ℕ) (counts : ℕ → List ℕ) (n : ℕ) : Type 0 where
  pub total : offset blocks n ≤ 64
  pub long : (h : ℕ) → h < n → length (counts h) ≤ get_or blocks h 0

-- the head whose turn it is: its chart, whose n timers stand on the board from o on, an event that waits, and a state that 32 does not refuse
pub record InTurn (files : List ℕ) (hs : Heads) (s : Controller) (o n : ℕ) (c : Chart) : Type 0 where
  pub turn : s.turn < 8
  pub chart : judged_in (head_file files hs s.turn) ≡ returned c
  pub timers : n ≡ c.timers
  pub room : o + n ≤ 64
  pub waiting : waits (head_at s s.turn) ≡ true
  pub sound : sound_head c (head_at s s.turn) (stretch o n s.counts) ≡ true

-- what the calls come to on what they are handed
abbrev pub set_up_in : Setting → (counts : List ℕ) → Parts → Answer Controller
set_up_in x = set_up x.files.now x.heads x.k

abbrev pub state_judged_in : Setting → Controller → Answer (List Chart)
state_judged_in x = state_judged x.files.now x.heads x.k

abbrev pub called_in : Setting → Controller → Call → Answer Done
called_in x = called x.files.now x.heads x.k
