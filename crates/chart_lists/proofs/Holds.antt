-- Lists that hold a chart: its own do, and so do lists over whose fronts its own were written; and how long the chart's own are.
use mathlib.Core.Path.{◌≡◌, ap}
use Prim.Native.Nat.{ℕ}
use lib.ListN.{length, length-map}
use Rattle.model.specs.Chart.{Chart}
use Rattle.model.specs.Valid.{Valid}
use Rattle.chart_lists.specs.Lists.{Lists, all_tests, lists_of, put_lists}
use Rattle.chart_lists.specs.Holds.{Holds}
use Rattle.chart_lists.proofs.Begins.{begins_self, begins_put}

module _ {W : ℕ} {c : Chart} (valid : Valid W c) where
  pub holds_own : Holds c (lists_of c)
  holds_own = record {
    width = W;
    valid = valid;
    accepting = begins_self _;
    sources = begins_self _;
    targets = begins_self _;
    events = begins_self _;
    starts = begins_self _;
    test_counts = begins_self _;
    timers = begins_self _;
    codes = begins_self _;
    constants = begins_self _;
  }

  pub holds_put : (l : Lists) {out : Lists} → out ≡ put_lists (lists_of c) l → Holds c out
  unfolding put_lists
  holds_put l e = record {
    width = W;
    valid = valid;
    accepting = begins_put _ l.accepting (ap (λ (y : Lists). y.accepting) e);
    sources = begins_put _ l.sources (ap (λ (y : Lists). y.sources) e);
    targets = begins_put _ l.targets (ap (λ (y : Lists). y.targets) e);
    events = begins_put _ l.events (ap (λ (y : Lists). y.events) e);
    starts = begins_put _ l.starts (ap (λ (y : Lists). y.starts) e);
    test_counts = begins_put _ l.test_counts (ap (λ (y : Lists). y.test_counts) e);
    timers = begins_put _ l.timers (ap (λ (y : Lists). y.timers) e);
    codes = begins_put _ l.codes (ap (λ (y : Lists). y.codes) e);
    constants = begins_put _ l.constants (ap (λ (y : Lists). y.constants) e);
  }

-- one entry for each transition, one for each test
module _ (c : Chart) where
  pub sources_each : length (lists_of c).sources ≡ length c.transitions
  unfolding lists_of
  sources_each = length-map c.transitions _

  pub targets_each : length (lists_of c).targets ≡ length c.transitions
  unfolding lists_of
  targets_each = length-map c.transitions _

  pub events_each : length (lists_of c).events ≡ length c.transitions
  unfolding lists_of
  events_each = length-map c.transitions _

  pub starts_each : length (lists_of c).starts ≡ length c.transitions
  unfolding lists_of
  starts_each = length-map c.transitions _

  pub test_counts_each : length (lists_of c).test_counts ≡ length c.transitions
  unfolding lists_of
  test_counts_each = length-map c.transitions _

  pub timers_each : length (lists_of c).timers ≡ length (all_tests c.transitions)
  unfolding lists_of
  timers_each = length-map (all_tests c.transitions) _

  pub codes_each : length (lists_of c).codes ≡ length (all_tests c.transitions)
  unfolding lists_of
  codes_each = length-map (all_tests c.transitions) _

  pub constants_each : length (lists_of c).constants ≡ length (all_tests c.transitions)
  unfolding lists_of
  constants_each = length-map (all_tests c.transitions) _
