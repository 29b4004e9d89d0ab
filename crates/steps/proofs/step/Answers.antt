-- `step` judges 14, 15, 22, 23 and 24 in the order of the definition, and moves the counts on. What is hard is only that each answer needs what was
-- known before it.
use mathlib.Core.Path.{◌≡◌, refl}
use Prim.Native.Nat.{ℕ, ◌<◌}
use native.Mathlib.Omega.{arith}
use lib.ListN.{length}
use Rattle.std.specs.Prelude.{Err}
use Rattle.model.specs.Answer.{Answer, refused}
use Rattle.model.specs.Chart.{Chart, Transition}
use Rattle.model.specs.Run.{State as Run-as-State}
use Rattle.refusal.specs.declared.Reason.{Reason}
use Rattle.refusal.specs.declared.Refusal.{Refusal}
use Rattle.refusal.specs.Reason.{number_of}
use Rattle.chart_lists.specs.Lists.{Lists}
use Rattle.chart_lists.specs.Holds.{Holds}
use Rattle.steps.specs.declared.State.{State}
use Rattle.steps.specs.Stepping.{Shows, Decided, refusal_at}
use Rattle.steps.proofs.Held.{holds_tests}
use Rattle.steps.proofs.TransitionPlaces.{TransitionAt, some_transition, transition_at}
use Rattle.steps.proofs.Attempts.{room, next_small, refused_as_lem}
use Rattle.steps.proofs.Attempts.{attempt_14, attempt_15, attempt_22, attempt_23, attempt_24, attempt_taken}
use Rattle.steps.proofs.step.Goals as goal

-- the lists have the transition that the step names
here : {c : Chart} {l : Lists} (h : Holds c l) (i : ℕ) → i < length c.transitions → (r : Transition) × TransitionAt r i l
here {c} h i a = let n = some_transition c i a in (n.0, transition_at h n.1)

-- a step is refused, and the state stays
refused_step : (x : State) {why : Reason} {n : ℕ} {f : Refusal} {y : Answer Run-as-State} → f ≡ refusal_at why n → y ≡ refused (number_of why) n
    → Decided (λ (done : Unit {0}). Shows x) (Err f) y
refused_step x {why} {n} {f} {y} e told = refused_as_lem (λ (done : Unit {0}). Shows x) why n f y e told

pub returns-then-i-n : goal.returns-then-i-n
returns-then-i-n c =
    record {
      answer = λ ch n f L s w. refused_step c.args.state.now c.refused.ensures (attempt_14 L _ _ _ _ s w (omega (arith, c.if-i-n.true)));
      small = c.requires.small_2;
      kept = refl;
    }

pub returns-then-time-gt-LARGEST_TIME : goal.returns-then-time-gt-LARGEST_TIME
returns-then-time-gt-LARGEST_TIME c =
    let e = c.refused-then-time-gt-LARGEST_TIME.ensures in
    record {
      answer = λ ch n f L s w.
          let numbered : c.args.transition < length ch.transitions = omega (arith, c.if-i-n.false) in
          refused_step c.args.state.now e (attempt_15 L _ _ _ _ s w numbered c.if-time-gt-LARGEST_TIME.true);
      small = c.requires.small_2;
      kept = refl;
    }

pub bounds-lists-i : goal.bounds-lists-i
bounds-lists-i c = (here c.requires.n_value.3 c.args.transition (omega (arith, c.if-i-n.false))).1.source_within

pub returns-then-lists-i : goal.returns-then-lists-i
returns-then-lists-i c =
    let e = c.refused-then-lists-i.ensures in
    record {
      answer = λ ch n f L s w.
          let numbered : c.args.transition < length ch.transitions = omega (arith, c.if-i-n.false) in
          refused_step c.args.state.now e (attempt_22 L _ _ _ _ s w numbered c.if-time-gt-LARGEST_TIME.false c.if-lists-i.true);
      small = c.requires.small_2;
      kept = refl;
    }

pub returns-then-time-state : goal.returns-then-time-state
returns-then-time-state c =
    let e = c.refused-then-time-state.ensures in
    record {
      answer = λ ch n f L s w.
          let numbered : c.args.transition < length ch.transitions = omega (arith, c.if-i-n.false) in
          let so = attempt_23 L _ _ _ _ s w numbered c.if-time-gt-LARGEST_TIME.false c.if-lists-i.false c.if-time-state.true in
          refused_step c.args.state.now e so;
      small = c.requires.small_2;
      kept = refl;
    }

pub grown-counts-requires : goal.grown-counts-requires
grown-counts-requires c = room c.args.state.now c.args.time c.requires.small_2 c.if-time-state.false c.if-time-gt-LARGEST_TIME.false

pub enabled-requires : goal.enabled-requires
enabled-requires c =
    let p = c.requires.n_value in
    record {
      i_in_bounds = (p.0, omega (arith, c.if-i-n.false), p.2, holds_tests p.3);
      counts_len = c.grown-counts.ensures.number;
    }

pub returns-then-not-enabled : goal.returns-then-not-enabled
returns-then-not-enabled c =
    let e = c.refused-then-not-enabled.ensures in
    record {
      answer = λ ch n f L s w.
          let decided = c.enabled.ensures ch f (holds_tests L) in
          let numbered : c.args.transition < length ch.transitions = omega (arith, c.if-i-n.false) in
          let past_15 = c.if-time-gt-LARGEST_TIME.false in
          let past_22 = c.if-lists-i.false in
          let past_23 = c.if-time-state.false in
          let so = attempt_24 L _ _ _ _ s w numbered past_15 past_22 past_23 _ c.grown-counts.ensures _ decided c.if-not-enabled.true in
          refused_step c.args.state.now e so;
      small = c.requires.small_2;
      kept = refl;
    }

pub bounds-lists-i-2 : goal.bounds-lists-i-2
bounds-lists-i-2 c = (here c.requires.n_value.3 c.args.transition (omega (arith, c.if-i-n.false))).1.target_within

pub bounds-lists-i-3 : goal.bounds-lists-i-3
bounds-lists-i-3 c = (here c.requires.n_value.3 c.args.transition (omega (arith, c.if-i-n.false))).1.starts_within

pub returns : goal.returns
returns c = record {
  answer = λ ch n f L s w.
      let decided = c.enabled.ensures ch f (holds_tests L) in
      let numbered : c.args.transition < length ch.transitions = omega (arith, c.if-i-n.false) in
      let past_15 = c.if-time-gt-LARGEST_TIME.false in
      let past_22 = c.if-lists-i.false in
      let past_23 = c.if-time-state.false in
      attempt_taken L _ _ _ _ s w numbered past_15 past_22 past_23 _ c.grown-counts.ensures _ decided c.if-not-enabled.false _ c.started.ensures;
  small = next_small _ _ _ _ c.requires.small_2 c.if-time-state.false c.grown-counts.ensures c.started.ensures;
  kept = tt;
}
