-- The player called on a file and on the file that the rewriting returned, with the same step lists.
use Rattle.std.specs.Prelude.{◌≡◌, List, ℕ, Result}
use Rattle.model.specs.Answer.{Answer, returned, then}
use Rattle.model.specs.Chart.{Chart}
use Rattle.model.specs.Player.{Arrival}
use Rattle.model.specs.Judge.{Rewriting}
use Rattle.model.specs.PlayerTerms.{CountsAllowed}
use Rattle.file_format.specs.File.{chart_in, file_of}
use Rattle.file_format.specs.Lengths.{largest_file}
use Rattle.refusal.specs.declared.Refusal.{Refusal}
use Rattle.refusal.specs.Refused.{answer_by}
use Rattle.rewriting.specs.Rewriting.{rewrite_into}
use Rattle.player.specs.declared.Arrival.{Arrival as Code·Arrival}
use Rattle.player.specs.Playing.{play_answer, arrival_as}
use Rattle.equivalence.specs.declared.Both.{Both}

-- the player's answer on the rewritten file; or the refusal of the rewriting
unfoldable pub board_answer : (K : ℕ) → (file counts transitions times : List ℕ) → Answer (Answer Arrival)
board_answer K bs w is ts = then (rewrite_into K largest_file bs) (λ x. returned (play_answer (file_of x.chart) w is ts))

-- what an answer of the code means: the player's
abbrev pub drawn_as : Result Code·Arrival Refusal → Answer Arrival
drawn_as r = answer_by arrival_as r

-- and that on the rewritten file
abbrev pub board_as : Result (Result Code·Arrival Refusal) Refusal → Answer (Answer Arrival)
board_as r = answer_by drawn_as r

-- Demand 3 on files. The first answer is the player's on the file, the second the player's on the bytes that the rewriting returns, or the
-- rewriting's refusal. Where the rewriting succeeds and 12 allows both lists of counts, the two are equal: one claim about whole step lists.
pub record Claim (K : ℕ) (bs v w is ts : List ℕ) (r : Both) : Type 0 where
  pub drawn : drawn_as r.drawn ≡ play_answer bs v is ts
  pub board : board_as r.board ≡ board_answer K bs w is ts
  pub alike : (c : Chart) (x : Rewriting) → chart_in bs ≡ returned c → rewrite_into K largest_file bs ≡ returned x
      → CountsAllowed c v → CountsAllowed x.chart w → board_as r.board ≡ returned (drawn_as r.drawn)
