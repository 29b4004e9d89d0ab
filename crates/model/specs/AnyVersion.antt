-- What does not look at a chart's version: live sets and their rounds, families and their board numbers, the floor, and runs (document 02, P2 and
-- P3); and what looks at it only for whether locations may be spare (P7): the judgement, and with it the rewriting and the player. That it holds is
-- shown in proofs/AnyVersion.
use Rattle.std.specs.Prelude.{◌≡◌, ◌⊎◌, Bool, List, ℕ}
use Rattle.model.specs.Answer.{returned, then}
use Rattle.model.specs.Chart.{Chart}
use Rattle.model.specs.Version.{in_version, allows_spare}
use Rattle.model.specs.Run.{Counts, Step, outcome}
use Rattle.model.specs.Live.{live_sets, live_rounds}
use Rattle.model.specs.Spare.{reached_part}
use Rattle.model.specs.Places.{AllReached}
use Rattle.model.specs.FirstFit.{board}
use Rattle.model.specs.Floor.{floor, searched}
use Rattle.model.specs.Judge.{judged, rewriting}
use Rattle.model.specs.Player.{played}

-- the chart in that version has the same values, and every step list comes to the same
pub record SameInVersion (version : ℕ) (c : Chart) : Type 0 where
  pub same_live : live_sets (reached_part (in_version version c)) ≡ live_sets (reached_part c)
  pub same_board : board (reached_part (in_version version c)) ≡ board (reached_part c)
  pub same_floor : floor (reached_part (in_version version c)) ≡ floor (reached_part c)
  pub same_searched : searched (reached_part (in_version version c)) ≡ searched (reached_part c)
  pub same_rounds : live_rounds (reached_part (in_version version c)) ≡ live_rounds (reached_part c)
  pub same_outcome : (allowed : ℕ → Bool) (v : Counts) (es : List Step) → outcome allowed (in_version version c) v es ≡ outcome allowed c v es

-- both versions allow spare locations or neither does, or the chart has none
abbrev pub SpareAlike : (version : ℕ) → Chart → Type 0
SpareAlike version c = (allows_spare version ≡ allows_spare c.version) ⊎ AllReached c

-- the chart in that version is judged alike: the same answers, and where a chart is the result, the same chart in that version
pub record JudgedInVersion (version : ℕ) (c : Chart) : Type 0 where
  pub same_judged : judged (in_version version c) ≡ then (judged c) (λ d. returned (in_version version d))
  pub same_rewriting : (K : ℕ) → rewriting K (in_version version c)
      ≡ then (rewriting K c) (λ x. returned (record { used = x.used; chart = in_version version x.chart }))
  pub same_played : (counts is ts : List ℕ) → played (in_version version c) counts is ts ≡ played c counts is ts
