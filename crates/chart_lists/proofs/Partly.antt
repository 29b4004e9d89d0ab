-- Lists that hold a chart also hold it where its own stand in for some of them. A list begins with itself.
use mathlib.Core.List.{List}
use Prim.Native.Nat.{ℕ}
use Rattle.model.specs.Chart.{Chart}
use Rattle.model.specs.Valid.{Valid}
use Rattle.chart_lists.specs.Lists.{Lists, lists, lists_of}
use Rattle.chart_lists.specs.Begins.{Begins}
use Rattle.chart_lists.specs.Holds.{Holds}
use Rattle.chart_lists.specs.Partly.{edges_of, tests_of}
use Rattle.chart_lists.proofs.Begins.{begins_self}

-- the general form: each list begins with the chart's
pub holds_of : {W : ℕ} {c : Chart} (a s t e w g j x k : List ℕ) → Valid W c → Begins (lists_of c).accepting a → Begins (lists_of c).sources s
    → Begins (lists_of c).targets t → Begins (lists_of c).events e → Begins (lists_of c).starts w → Begins (lists_of c).test_counts g
    → Begins (lists_of c).timers j → Begins (lists_of c).codes x → Begins (lists_of c).constants k → Holds c (lists a s t e w g j x k)
holds_of {W} a s t e w g j x k valid ba bs bt be bw bg bj bx bk = record {
  width = W;
  valid = valid;
  accepting = ba;
  sources = bs;
  targets = bt;
  events = be;
  starts = bw;
  test_counts = bg;
  timers = bj;
  codes = bx;
  constants = bk;
}

module _ {c : Chart} {l : Lists} (h : Holds c l) where
  -- of each transition its ends, what it starts and the number of its tests, and of each test its timer, or the chart's own of these
  pub holds_transitions : {s t w g j : List ℕ} → Begins (lists_of c).sources s → Begins (lists_of c).targets t → Begins (lists_of c).starts w
      → Begins (lists_of c).test_counts g → Begins (lists_of c).timers j
      → Holds c (lists (lists_of c).accepting s t (lists_of c).events w g j (lists_of c).codes (lists_of c).constants)
  holds_transitions bs bt bw bg bj =
      holds_of _ _ _ _ _ _ _ _ _ h.valid (begins_self _) bs bt (begins_self _) bw bg bj (begins_self _) (begins_self _)

  pub holds_edges : Holds c (edges_of c l.sources l.targets l.starts)
  holds_edges = holds_transitions h.sources h.targets h.starts (begins_self _) (begins_self _)

  pub holds_starts : Holds c (edges_of c (lists_of c).sources l.targets l.starts)
  holds_starts = holds_transitions (begins_self _) h.targets h.starts (begins_self _) (begins_self _)

  pub holds_tests : Holds c (tests_of c l.sources l.test_counts l.timers)
  holds_tests = holds_transitions h.sources (begins_self _) (begins_self _) h.test_counts h.timers
