-- `clear_spare` finds the reached sets, moves the tests up and clears the starts by them.
use mathlib.Core.Path.{◌≡◌, sym, ap, ◌∙◌}
use mathlib.Core.Bool.{false}
use Rattle.model.specs.Version.{allows_spare}
use Rattle.chart_lists.specs.Header.{header_of}
use Rattle.chart_lists.specs.declared.Header.{Header}
use Rattle.chart_lists.proofs.Fronts.{transitions_are}
use Rattle.spare.proofs.ReachedLists.{holds_ends}
use Rattle.spare.proofs.ClearedLists.{holds_starts, holds_tests, cleared_holds, whole_holds}
use Rattle.spare.proofs.clear_spare.Goals as goal

pub returns-then-not-allows_spare : goal.returns-then-not-allows_spare
unfolding header_of
returns-then-not-allows_spare c = λ chart e reached h. let none : allows_spare (header_of chart).version ≡ false =
    sym (ap (λ (x : Header). allows_spare x.version) e) ∙ sym c.allows_spare.ensures ∙ c.if-not-allows_spare.true in
    whole_holds h (reached none)

pub reached_sets-reached-requires : goal.reached_sets-reached-requires
reached_sets-reached-requires c = (c.requires.0, c.requires.1, holds_ends c.requires.3)

pub keep_tests-requires : goal.keep_tests-requires
keep_tests-requires c = (
  c.requires.0,
  transitions_are c.requires.0 c.requires.1,
  c.reached_sets-reached.ensures c.requires.0 c.requires.1 (holds_ends c.requires.3),
  holds_tests c.requires.3,
)

pub clear_starts-requires : goal.clear_starts-requires
clear_starts-requires c = (
  c.requires.0,
  transitions_are c.requires.0 c.requires.1,
  c.reached_sets-reached.ensures c.requires.0 c.requires.1 (holds_ends c.requires.3),
  holds_starts c.requires.3,
)

pub returns : goal.returns
returns c = λ chart e reached h. let n = transitions_are chart e in
    let b = c.reached_sets-reached.ensures chart e (holds_ends h) in
    cleared_holds h (c.clear_starts.ensures chart n b (holds_starts h)) (c.keep_tests.ensures chart n b (holds_tests h))
