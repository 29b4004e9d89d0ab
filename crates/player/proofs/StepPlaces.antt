-- A list of steps is refused with 14, 15, 22, 23 or 24, at the number of one of its steps.
use mathlib.Core.Path.{refl}
use mathlib.Core.List.{List, [], ◌∷◌}
use Prim.Native.Nat.{ℕ, ◌≤◌}
use native.Mathlib.Omega.{arith}
use lib.ListN.{length}
use Rattle.lists.specs.Lists.{memb}
use Rattle.model.specs.Chart.{Chart}
use Rattle.model.specs.Run.{Counts, Step, player_time}
use Rattle.model.specs.Player.{answer_of, steps_of}
use Rattle.model.specs.Refusals.{StepRefusal}
use Rattle.model.proofs.PlayerNumbers.{answer_place as step-list-place}

abbrev pub player_numbers : List ℕ
player_numbers = 14 ∷ 15 ∷ 22 ∷ 23 ∷ 24 ∷ []

pub answer_place : (c : Chart) (v : Counts) (es : List Step) → StepRefusal player_numbers 0 (length es) (answer_of player_time c v es)
unfolding memb
answer_place c v es = step-list-place player_numbers player_time (λ t e. refl) (refl, refl, refl, refl) c v es

-- no more steps than transition numbers
pub length_steps_of : (is ts : List ℕ) → length (steps_of is ts) ≤ length is
unfolding steps_of
length_steps_of [] ts = omega arith
length_steps_of (i ∷ is) [] = omega arith
length_steps_of (i ∷ is) (t ∷ ts) = omega (arith, length_steps_of is ts)
