-- What a call answers: a result, or a refusal with its number and its place (document 01, "Turned down ..").
use Rattle.std.specs.Prelude.{Bool, true, false, ℕ}

-- what is asked for, or a refusal
pub data Answer (A : Type 0) : Type 0 where
  returned : A → Answer A
  refused : (number place : ℕ) → Answer A

-- the place of a refusal that has no other
abbrev pub nowhere : ℕ
nowhere = 65535

-- go on from a result; a refusal stands
abbrev pub then : {A B : Type 0} → Answer A → (A → Answer B) → Answer B
then (returned a) k = k a
then (refused n p) k = refused n p

-- x where the condition holds, else the refusal
abbrev pub unless : {A : Type 0} → Bool → (number place : ℕ) → Answer A → Answer A
unless true n p x = x
unless false n p x = refused n p
