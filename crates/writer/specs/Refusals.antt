-- The refusals of the writer, by number and place (document 01, "Turned down .."; document 02, P2).
use Rattle.std.specs.Prelude.{ℕ, ◌≤◌, ◌<◌}
use Rattle.model.specs.Answer.{nowhere}

-- 2, 3, 17 and 21 have no place; 4 to 8 are of the header or of a transition
pub data WriteRefusal : (number place : ℕ) → Type 0 where
  version : WriteRefusal 2 nowhere
  cut : WriteRefusal 3 nowhere
  constant : WriteRefusal 17 nowhere
  room : WriteRefusal 21 nowhere
  header : {n : ℕ} → 4 ≤ n → n ≤ 8 → WriteRefusal n nowhere
  transition : {n i : ℕ} → 4 ≤ n → n ≤ 8 → i < 512 → WriteRefusal n i
