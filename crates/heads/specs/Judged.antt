-- What the code that judges heads answers.
use Rattle.std.specs.Prelude.{◌≡◌, List, ℕ, Result, Ok, Err}
use Rattle.model.specs.Answer.{Answer, returned}
use Rattle.model.specs.Chart.{Chart}
use Rattle.refusal.specs.declared.Refusal.{Refusal}
use Rattle.refusal.specs.Refused.{refused_as}
use Rattle.chart_lists.specs.declared.Header.{Header}
use Rattle.controller_model.specs.declared.Parts.{Parts}
use Rattle.controller_model.specs.Headers.{HeadersOf}
use Rattle.controller_model.specs.Heads.{charts_judged, set_up_judged, heads_judged}
use Rattle.heads.specs.declared.Setting.{Setting}

-- the answer of the definitions: charts, of which these are the headers, or the same refusal
abbrev pub JudgedAs : Result (List Header) Refusal → Answer (List Chart) → Type 0
JudgedAs (Ok headers) x = (cs : List Chart) × (x ≡ returned cs) × HeadersOf cs headers
JudgedAs (Err f) x = x ≡ refused_as f

-- the judgements of what a call is handed
abbrev pub charts_judged_in : Setting → Answer (List Chart)
charts_judged_in x = charts_judged x.files.now x.heads x.k

abbrev pub set_up_judged_in : Setting → (counts : List ℕ) → Parts → Answer (List Chart)
set_up_judged_in x = set_up_judged x.files.now x.heads x.k

abbrev pub heads_judged_in : Setting → Answer (List Chart)
heads_judged_in x = heads_judged x.files.now x.heads x.k
