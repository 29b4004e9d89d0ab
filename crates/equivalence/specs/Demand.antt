-- Demand 3 as one record: a chart c and the chart c' that it was rewritten to.
use Rattle.std.specs.Prelude.{◌≡◌, List, ℕ, length, get_or}
use Rattle.model.specs.Answer.{returned}
use Rattle.model.specs.Chart.{Chart}
use Rattle.model.specs.Valid.{Storable}
use Rattle.model.specs.Equivalence.{Alike}
use Rattle.model.specs.Judge.{judged}
use Rattle.model.specs.Player.{steps_of}
use Rattle.model.specs.PlayerTerms.{CountsAllowed, PlayerAnswer}
use Rattle.file_format.specs.File.{file_of}
use Rattle.player.specs.Playing.{play_answer}

pub record Demand (c c' : Chart) : Type 0 where
  -- from any counts in either, for every step list: the same steps, the same refusal at the same step for the same reason, the same runs, the same
  -- acceptance; and at every point of a run each test reads a timer started earlier in it that shows the drawn timer's count
  pub alike : Alike c c'
  -- the rewritten chart is one that the player takes: a file holds it, and neither 9 nor 10 refuses it
  pub storable : Storable c'
  pub judged_so : judged c' ≡ returned c'
  -- the player, called on both files from counts that 12 allows, gives one answer
  pub plays : (v w is ts : List ℕ) → CountsAllowed c v → CountsAllowed c' w → play_answer (file_of c) v is ts ≡ play_answer (file_of c') w is ts
  -- and that answer is what the step list comes to, but for 15: on the drawn file, and on the rewritten one
  pub answers : (v is ts : List ℕ) → CountsAllowed c v → length is ≡ length ts
      → PlayerAnswer c (λ j. get_or v j 0) (steps_of is ts) (play_answer (file_of c) v is ts)
  pub answers' : (w is ts : List ℕ) → CountsAllowed c' w → length is ≡ length ts
      → PlayerAnswer c' (λ j. get_or w j 0) (steps_of is ts) (play_answer (file_of c') w is ts)
