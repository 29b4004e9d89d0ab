-- `step` judges 14, 22 and 24 in the order of the definition, and moves the counts on. What is hard is only that each answer needs what was known
-- before it.
use Rattle.std.proofs.Common.{ℕ, ◌<◌, length, refl, subst, arith}
use Rattle.model.specs.Chart.{Chart, Transition}
use Rattle.chart_lists.specs.Lists.{Lists}
use Rattle.chart_lists.specs.Holds.{Holds}
use Rattle.steps.proofs.Held.{holds_tests}
use Rattle.steps.proofs.TransitionPlaces.{TransitionAt, some_transition, transition_at}
use Rattle.counter_player.specs.Counts.{Risen}
use Rattle.steps.proofs.Attempts.{refused_as_lem}
use Rattle.counter_player.specs.Stepping.{LeftAs}
use Rattle.counter_player.proofs.Attempts.{attempt_14, attempt_22, attempt_24, attempt_taken}
use Rattle.counter_player.proofs.stepping.step.Goals as goal

-- the lists have the transition that the step names
here : {c : Chart} {l : Lists} (h : Holds c l) (i : ℕ) → i < length c.transitions → (r : Transition) × TransitionAt r i l
here {c} h i a = let n = some_transition c i a in (n.0, transition_at h n.1)

pub returns-then-i-n : goal.returns-then-i-n
returns-then-i-n c = record {
  answer = λ ch n f L s w.
      refused_as_lem (LeftAs c.args.state.now) _ _ _ _ c.refused.ensures (attempt_14 L _ _ _ _ s w (omega (arith, c.if-i-n.true)));
  kept = refl;
}

pub bounds-lists-i : goal.bounds-lists-i
bounds-lists-i c = (here c.requires.3 c.args.transition (omega (arith, c.if-i-n.false))).1.source_within

pub returns-then-lists-i : goal.returns-then-lists-i
returns-then-lists-i c = record {
  answer = λ ch n f L s w.
      let numbered : c.args.transition < length ch.transitions = omega (arith, c.if-i-n.false) in
      refused_as_lem (LeftAs c.args.state.now) _ _ _ _ c.refused-then-lists-i.ensures (attempt_22 L _ _ _ _ s w numbered c.if-lists-i.true);
  kept = refl;
}

pub enabled-requires : goal.enabled-requires
enabled-requires c = record {
  i_in_bounds = (c.requires.0, omega (arith, c.if-i-n.false), c.requires.2, holds_tests c.requires.3);
  counts_len = c.risen-counts.ensures.number;
}

pub returns-then-not-enabled : goal.returns-then-not-enabled
returns-then-not-enabled c = record {
  answer = λ ch n f L s w.
      let decided = c.enabled.ensures ch f (holds_tests L) in
      let numbered : c.args.transition < length ch.transitions = omega (arith, c.if-i-n.false) in
      let grew = subst (λ (d : ℕ). Risen d c.args.state.now.counts c.risen-counts.result) c.ticks_passed-passed.ensures c.risen-counts.ensures in
      let so = attempt_24 L _ _ _ _ s w numbered c.if-lists-i.false _ grew _ decided c.if-not-enabled.true in
      refused_as_lem (LeftAs c.args.state.now) _ _ _ _ c.refused-then-not-enabled.ensures so;
  kept = refl;
}

pub bounds-lists-i-2 : goal.bounds-lists-i-2
bounds-lists-i-2 c = (here c.requires.3 c.args.transition (omega (arith, c.if-i-n.false))).1.target_within

pub bounds-lists-i-3 : goal.bounds-lists-i-3
bounds-lists-i-3 c = (here c.requires.3 c.args.transition (omega (arith, c.if-i-n.false))).1.starts_within

pub returns : goal.returns
returns c = record {
  answer = λ ch n f L s w.
      let decided = c.enabled.ensures ch f (holds_tests L) in
      let numbered : c.args.transition < length ch.transitions = omega (arith, c.if-i-n.false) in
      let grew = subst (λ (d : ℕ). Risen d c.args.state.now.counts c.risen-counts.result) c.ticks_passed-passed.ensures c.risen-counts.ensures in
      attempt_taken L _ _ _ _ s w numbered c.if-lists-i.false _ grew _ decided c.if-not-enabled.false _ c.started.ensures;
  kept = cc;
}
