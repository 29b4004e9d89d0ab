-- The counter board answers as the player where the times keep the provisos, on any chart with no constant over 65,535; and an accepted chart answers
-- alike from any counts. By `added_up` the board answers what the step list comes to, as the player does where no time is late.
use mathlib.Core.Path.{◌≡◌, refl, sym, ap, ◌∙◌}
use mathlib.Core.Bool.{false}
use mathlib.Core.Option.{some, some-injective, none-ne-some}
use mathlib.Core.List.{List, [], ◌∷◌}
use Prim.Native.Nat.{ℕ, zero, suc, ◌<◌}
use native.Mathlib.Omega.{arith}
use lib.ListN.{length, get_or, get_elem?}
use Rattle.model.specs.Answer.{returned}
use Rattle.model.specs.Chart.{Chart}
use Rattle.model.specs.Version.{large_constant}
use Rattle.model.specs.Valid.{Valid}
use Rattle.model.specs.Run.{Counts, Step, every_time, player_time}
use Rattle.model.specs.Judge.{judged}
use Rattle.model.specs.Player.{answer_of, steps_of}
use Rattle.model.specs.Equivalence.{SameAnswers}
use Rattle.model.specs.Examples.{drawn_numbers}
use Rattle.model.proofs.EqualRuns.{plan_alike}
use Rattle.model.proofs.Examples.{drawn_numbers_plan}
use Rattle.model.proofs.Judgement.{accepted}
use Rattle.model.proofs.PlayerAnswer.{player_answer}
use Rattle.counter_model.specs.Counter.{counter_numbers, readings_at}
use Rattle.counter_model.specs.CounterPlayer.{counter_answer_of}
use Rattle.counter_model.specs.CounterClaim.{NoneLate, Spaced, without_time}
use Rattle.counter_model.proofs.Ticks.{spaced_back}
use Rattle.counter_model.proofs.AddedUp.{added_up}

step_time : (is ts : List ℕ) (n : ℕ) {e : Step} → get_elem? (steps_of is ts) n ≡ some e → (n < length ts) × (get_or ts n 0 ≡ e.time)
unfolding steps_of
step_time [] ts n h = absurd (none-ne-some _ h)
step_time (i ∷ is) [] n h = absurd (none-ne-some _ h)
step_time (i ∷ is) (t ∷ ts) zero h = (omega arith, ap (λ (e : Step). e.time) (some-injective _ _ h))
step_time (i ∷ is) (t ∷ ts) (suc n) h = let x = step_time is ts n h in (omega (arith, x.0), x.1)

-- where no time is late, the player answers what the step list comes to
pub none_late_own : (c : Chart) (v : Counts) (is ts : List ℕ) → NoneLate ts
    → answer_of player_time c v (steps_of is ts) ≡ answer_of every_time c v (steps_of is ts)
none_late_own c v is ts none = (player_answer c v (steps_of is ts)).other (λ n l.
    let late = l.too_late in
    let at = step_time is ts n late.is_step in
    omega (arith, none n at.0, at.1, late.over))

pub chart_claim : (c : Chart) → large_constant c ≡ false → (v : Counts) (first : ℕ) → first < counter_numbers → (is ts : List ℕ) → Spaced ts
    → counter_answer_of c first v is (readings_at first ts) ≡ without_time (answer_of player_time c v (steps_of is ts))
chart_claim c small v first below is ts s =
    added_up c small v first is (readings_at first ts) ∙ rw (spaced_back first ts below s, none_late_own c v is ts s.none_late) refl

-- an accepted chart answers alike from any counts
pub any_counts : {W : ℕ} (c : Chart) → Valid W c → judged c ≡ returned c → SameAnswers every_time c c × SameAnswers player_time c c
any_counts c valid j =
    let alike = plan_alike c (drawn_numbers c) (drawn_numbers_plan valid ((accepted valid).0 j)) in
    (λ v w es. alike.answers v v es ∙ sym (alike.answers w v es), λ v w es. alike.plays v v es ∙ sym (alike.plays w v es))
