-- Lists that hold a chart, as the parts of a step are lent them. A list begins with itself.
use Rattle.model.specs.Chart.{Chart}
use Rattle.chart_lists.specs.Lists.{Lists}
use Rattle.chart_lists.specs.Holds.{Holds}
use Rattle.chart_lists.proofs.Begins.{begins_self}
use Rattle.chart_lists.proofs.Partly.{holds_of}
use Rattle.steps.specs.StepLists.{step_lists, test_lists, count_lists}

module _ {c : Chart} {l : Lists} (h : Holds c l) where
  -- all that a step goes by
  pub holds_steps : Holds c (step_lists c l.sources l.targets l.starts l.test_counts l.timers l.codes l.constants)
  holds_steps =
      holds_of _ _ _ _ _ _ _ _ _ h.valid (begins_self _) h.sources h.targets (begins_self _) h.starts h.test_counts
      h.timers h.codes h.constants

  -- the tests alone
  pub holds_tests : Holds c (test_lists c l.test_counts l.timers l.codes l.constants)
  holds_tests =
      holds_of _ _ _ _ _ _ _ _ _ h.valid (begins_self _) (begins_self _) (begins_self _) (begins_self _) (begins_self _)
      h.test_counts
      h.timers h.codes h.constants

  -- the numbers of tests alone
  pub holds_counts : Holds c (count_lists c l.test_counts)
  holds_counts =
      holds_of _ _ _ _ _ _ _ _ _ h.valid (begins_self _) (begins_self _) (begins_self _) (begins_self _) (begins_self _)
      h.test_counts
      (begins_self _) (begins_self _) (begins_self _)
