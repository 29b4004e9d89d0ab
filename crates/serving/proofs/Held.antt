-- Lists that hold a chart, as the parts of serving are lent them. A list begins with itself.
use Rattle.model.specs.Chart.{Chart}
use Rattle.chart_lists.specs.Lists.{Lists}
use Rattle.chart_lists.specs.Holds.{Holds}
use Rattle.chart_lists.proofs.Begins.{begins_self}
use Rattle.chart_lists.proofs.Partly.{holds_of}
use Rattle.serving.specs.Served.{event_lists, choice_lists}

module _ {c : Chart} {l : Lists} (h : Holds c l) where
  -- all that an event is served by
  pub holds_event : Holds c
      (event_lists c l.sources l.targets l.events l.starts l.test_counts l.timers l.codes l.constants)
  holds_event =
      holds_of _ _ _ _ _ _ _ _ _ h.valid (begins_self _) h.sources h.targets h.events h.starts h.test_counts
      h.timers h.codes h.constants

  -- those by which a transition is chosen
  pub holds_choice : Holds c (choice_lists c l.sources l.events l.test_counts l.timers l.codes l.constants)
  holds_choice =
      holds_of _ _ _ _ _ _ _ _ _ h.valid (begins_self _) h.sources (begins_self _) h.events (begins_self _) h.test_counts
      h.timers h.codes h.constants
