-- An answer of the code as an answer of the definitions: the same result, or the refusal with its reason's number.
use Rattle.std.specs.Prelude.{Result, Ok, Err}
use Rattle.model.specs.Answer.{Answer, returned, refused}
use Rattle.refusal.specs.declared.Refusal.{Refusal}
use Rattle.refusal.specs.Reason.{number_of}

abbrev pub refused_as : {A : Type 0} → Refusal → Answer A
refused_as f = refused (number_of f.reason) f.place

-- of a result what it says, by a function
abbrev pub answer_by : {A B : Type 0} → (A → B) → Result A Refusal → Answer B
answer_by says (Ok a) = returned (says a)
answer_by says (Err f) = refused_as f

abbrev pub answer_as : {A : Type 0} → Result A Refusal → Answer A
answer_as (Ok a) = returned a
answer_as (Err f) = refused_as f
