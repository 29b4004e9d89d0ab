-- The controller's answers as C sees them: number and place are 0 where the call is not refused, the rest is 0 where it is; yes is 1, no is 0.
use Rattle.std.specs.Prelude.{◌≡◌, Result}
use Rattle.model.specs.Answer.{Answer, returned, refused}
use Rattle.refusal.specs.declared.Refusal.{Refusal}
use Rattle.refusal.specs.Refused.{answer_as, answer_by}
use Rattle.controller_model.specs.Serving.{Report, received, nothing, none_taken, taken}
use Rattle.controller.specs.declared.Report.{Report as Code-as-Report}
use Rattle.controller.specs.Answers.{report_as}
use Rattle.controller_answers.specs.declared.chart_called.{chart_called}
use Rattle.controller_answers.specs.declared.chart_turned.{chart_turned}

abbrev pub called_of : Answer (Unit {0}) → chart_called
called_of (returned _) = record { number = 0; place = 0 }
called_of (refused n p) = record { number = n; place = p }

-- no turn reports that an event was received
abbrev pub turned_of : Answer Report → chart_turned
turned_of (returned received) = record { number = 0; place = 0; head = 0; served = 0; taken = 0; transition = 0 }
turned_of (returned (nothing h)) = record { number = 0; place = 0; head = h; served = 0; taken = 0; transition = 0 }
turned_of (returned (none_taken h)) = record { number = 0; place = 0; head = h; served = 1; taken = 0; transition = 0 }
turned_of (returned (taken h i)) = record { number = 0; place = 0; head = h; served = 1; taken = 1; transition = i }
turned_of (refused n p) = record { number = n; place = p; head = 0; served = 0; taken = 0; transition = 0 }

-- this is what C sees of what set-up or an event comes to
abbrev pub IsCalled : Result (Unit {0}) Refusal → chart_called → Type 0
IsCalled r a = a ≡ called_of (answer_as r)

-- and of what a turn comes to
abbrev pub IsTurned : Result Code-as-Report Refusal → chart_turned → Type 0
IsTurned r a = a ≡ turned_of (answer_by report_as r)
