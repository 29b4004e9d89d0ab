-- `serve_lists` grows the counts, chooses a transition, and takes it or none. Each callee is asked for the same chart.
use mathlib.Core.Path.{refl}
use native.Mathlib.Omega.{arith}
use Rattle.chart_lists.proofs.Fronts.{transitions_are}
use Rattle.steps.proofs.Held.{holds_counts}
use Rattle.steps.proofs.TransitionPlaces.{some_transition, transition_at}
use Rattle.serving.proofs.Choosing.{found_is, found_past}
use Rattle.serving.proofs.Held.{holds_choice}
use Rattle.serving.proofs.Leaving.{room, grown_shows, served_taken, served_none}
use Rattle.serving.proofs.serve_lists.Goals as goal

pub find_firsts-requires : goal.find_firsts-requires
find_firsts-requires c =
    let q = c.requires.header_value in
    let n = transitions_are q.0 q.1 in
    record { n_value = (q.0, n, holds_counts q.2); n_in_bounds = omega (arith, n, q.2.valid.few_transitions) }

pub grown-counts-requires : goal.grown-counts-requires
grown-counts-requires c = room c.requires.sound_serving _ (omega arith)

pub lowest_to_take-lowest-requires : goal.lowest_to_take-lowest-requires
lowest_to_take-lowest-requires c =
    let q = c.requires.header_value in
    let n = transitions_are q.0 q.1 in
    record {
      n_value = (q.0, n, c.find_firsts.ensures.places q.0 n (holds_counts q.2), holds_choice q.2);
      counts_len = c.grown-counts.ensures.number;
    }

pub bounds-lists-i : goal.bounds-lists-i
bounds-lists-i c =
    let q = c.requires.header_value in
    let n = some_transition q.0 c.in-Some.i (omega (arith, c.in-Some.ensures.below, transitions_are q.0 q.1)) in
    (transition_at q.2 n.1).target_within

pub bounds-lists-i-in-Some : goal.bounds-lists-i-in-Some
bounds-lists-i-in-Some c =
    let q = c.requires.header_value in
    let n = some_transition q.0 c.in-Some.i (omega (arith, c.in-Some.ensures.below, transitions_are q.0 q.1)) in
    (transition_at q.2 n.1).starts_within

pub returns-in-Some : goal.returns-in-Some
returns-in-Some c = λ ch e h x w.
    let n = transitions_are ch e in
    let firsts = c.find_firsts.ensures.places ch n (holds_counts h) in
    let shows = grown_shows c.args.head w c.grown-counts.ensures in
    let chosen = found_is _ _ (c.in-Some.ensures.lowest ch n firsts (holds_choice h) x _ w.location shows) in
    served_taken c.args.head w c.grown-counts.ensures ch chosen h (omega (arith, c.in-Some.ensures.below, n)) c.started.ensures

pub returns-in-None : goal.returns-in-None
returns-in-None c = λ ch e h x w.
    let n = transitions_are ch e in
    let firsts = c.find_firsts.ensures.places ch n (holds_counts h) in
    let shows = grown_shows c.args.head w c.grown-counts.ensures in
    let none = found_past _ _ (c.in-None.ensures.lowest ch n firsts (holds_choice h) x _ w.location shows) in
    served_none c.args.head w c.grown-counts.ensures ch refl (omega (arith, none, n))
