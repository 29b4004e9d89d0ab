-- `can_take`: another source, another event, or what the tests say.
use mathlib.Core.Path.{◌∙◌}
use Rattle.steps.proofs.Held.{holds_tests}
use Rattle.steps.proofs.TransitionPlaces.{some_transition, transition_at}
use Rattle.serving.proofs.Choosing.{event_within, other_source, other_event, tests_decide}
use Rattle.serving.proofs.can_take.Goals as goal

pub bounds-lists-i : goal.bounds-lists-i
bounds-lists-i c =
    let q = c.requires.i_in_bounds in
    (transition_at q.3 (some_transition q.0 c.args.i q.1).1).source_within

pub returns-then-lists-i : goal.returns-then-lists-i
returns-then-lists-i c = λ ch f h r n x t at v. other_source h n x _ t at c.if-lists-i.true

pub bounds-lists-i-2 : goal.bounds-lists-i-2
bounds-lists-i-2 c =
    let q = c.requires.i_in_bounds in
    event_within q.3 (some_transition q.0 c.args.i q.1).1

pub returns-then-lists-i-2 : goal.returns-then-lists-i-2
returns-then-lists-i-2 c = λ ch f h r n x t at v. other_event h n x _ t at c.if-lists-i-2.true

pub enabled-requires : goal.enabled-requires
enabled-requires c =
    let q = c.requires.i_in_bounds in
    record { i_in_bounds = (q.0, q.1, q.2, holds_tests q.3); counts_len = c.requires.counts_len }

pub returns : goal.returns
returns c = λ ch f h r n x t at v.
    c.enabled.ensures ch f (holds_tests h) r n _ v ∙ tests_decide h n x _ t at c.if-lists-i.false c.if-lists-i-2.false
