-- What each answer of the code means: the same value and the bytes from the next place on, or the same refusal.
use Rattle.std.specs.Prelude.{◌≡◌, List, ℕ, ◌<◌, ◌^◌, drop, Result, Ok, Err}
use Rattle.model.specs.Chart as chart
use Rattle.refusal.specs.declared.Refusal.{Refusal}
use Rattle.refusal.specs.Reason.{number_of}
use Rattle.file_format.specs.Parse.{Parsed, value, refusal, number}
use Rattle.fields.specs.declared.test.Test.{Test}

abbrev pub refusal_as : {A : Type 0} → Refusal → Parsed A
refusal_as f = refusal (number_of f.reason) f.place

-- by what the value says
abbrev pub parsed_by : {A B : Type 0} → (A → B) → List ℕ → Result (A × ℕ) Refusal → Parsed B
parsed_by says s (Ok (x, next)) = value (says x) (drop next s)
parsed_by says s (Err f) = refusal_as f

-- by the value itself
abbrev pub parsed_as : {A : Type 0} → List ℕ → Result (A × ℕ) Refusal → Parsed A
parsed_as s (Ok (x, next)) = value x (drop next s)
parsed_as s (Err f) = refusal_as f

abbrev pub model_test : Test → chart.Test
model_test t = record { timer = t.timer; comparison = t.comparison; constant = t.constant }

abbrev pub test_as : List ℕ → Result (Test × ℕ) Refusal → Parsed chart.Test
test_as = parsed_by model_test

-- a number of w bytes at a place, and it has no more than its bytes hold
pub record NumberAt (w : ℕ) (s : List ℕ) (at : ℕ) (r : Result (ℕ × ℕ) Refusal) : Type 0 where
  pub reads : parsed_as s r ≡ number w (drop at s)
  pub small : (x next : ℕ) → r ≡ Ok (x, next) → x < 256 ^ w
