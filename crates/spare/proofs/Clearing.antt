-- The loops that clear the transitions of spare locations: the starts and the numbers of tests of the first i transitions, and the tests of these,
-- which stand over the fronts of their lists.
use mathlib.Core.Path.{◌≡◌, refl, ap, ◌∙◌}
use mathlib.Core.Bool.{Bool, true, false}
use mathlib.Core.List.{List, [], ◌∷◌, ◌++◌, map, map-append, append-nil}
use Prim.Native.Nat.{ℕ, ◌+◌, ◌≤◌, ◌<◌}
use native.Mathlib.Omega.{arith}
use lib.ListN.{length, get_or, take, set, length-append, length-map}
use lib.Seq.{take-length, length-take-le}
use Rattle.lists.proofs.Nth.{below_nth}
use Rattle.timer_set.specs.Members.{set_of}
use Rattle.model.specs.Chart.{Test, Transition, Chart, Nth}
use Rattle.model.specs.Live.{starts_set, reached_sets}
use Rattle.model.specs.Spare.{leaves_reached, bare, bare_unless, spare_cleared}
use Rattle.chart_lists.specs.Lists.{all_tests, lists_of, put, starts_of, test_counts_of, timers_of, codes_of, constants_of}
use Rattle.chart_lists.specs.Begins.{Begins}
use Rattle.chart_lists.proofs.Put.{put_next}
use Rattle.chart_lists.proofs.Begins.{begins_put, begins_room}
use Rattle.chart_lists.proofs.Holds.{timers_each}
use Rattle.chart_lists.proofs.Tests.{tests_more}
use Rattle.chart_lists.proofs.InTurn.{tests_before, take_next, before_next, timers_room, entries_next}
use Rattle.spare.specs.Cleared.{moved, StartsCleared, TestsCleared}
use Rattle.spare.proofs.Moved.{put_stays, moved_after}

-- the first i transitions, those from spare locations bare
abbrev pub cleared_to : Chart → ℕ → List Transition
cleared_to c i = map (λ r. bare_unless (leaves_reached (reached_sets c) r) r) (take i c.transitions)

cleared_all : (c : Chart) {i : ℕ} → i ≡ length c.transitions → cleared_to c i ≡ (spare_cleared c).transitions
unfolding spare_cleared
cleared_all c e = rw (e, take-length)

module _ {c : Chart} {i : ℕ} {r : Transition} (n : Nth c i r) where
  cleared_next : {b : Bool} → leaves_reached (reached_sets c) r ≡ b → cleared_to c (i + 1) ≡ cleared_to c i ++ (bare_unless b r ∷ [])
  cleared_next e = rw (take_next n, map-append, e)

  cleared_long : length (cleared_to c i) ≡ i
  cleared_long =
      length-map (take i c.transitions) (λ r. bare_unless (leaves_reached (reached_sets c) r) r)
      ∙ length-take-le i c.transitions (omega (arith, below_nth c.transitions i n.there))

-- ---- starts, and the numbers of tests

pub record StartsTo (c : Chart) (starts₀ counts₀ starts counts : List ℕ) (i : ℕ) : Type 0 where
  pub starts_are : starts ≡ put (starts_of (cleared_to c i)) starts₀
  pub counts_are : counts ≡ put (test_counts_of (cleared_to c i)) counts₀

pub starts_none : (c : Chart) (starts counts : List ℕ) → StartsTo c starts counts starts counts 0
unfolding put
starts_none c w g = record { starts_are = refl; counts_are = refl }

module _ {c : Chart} {starts₀ counts₀ starts counts : List ℕ} {i : ℕ} (x : StartsTo c starts₀ counts₀ starts counts i) where
  module _ {r : Transition} (n : Nth c i r) (room : i < length starts₀) (room' : i < length counts₀) where
    -- one that leaves a spare location has none
    pub starts_spare : leaves_reached (reached_sets c) r ≡ false → StartsTo c starts₀ counts₀ (set starts i 0) (set counts i 0) (i + 1)
    unfolding starts_set set_of
    starts_spare e = record {
      starts_are = rw (cleared_next n e) (put_next starts_set (cleared_to c i) (bare r) starts₀ room (cleared_long n) x.starts_are);
      counts_are =
          rw (cleared_next n e)
          (put_next (λ r. length r.tests) (cleared_to c i) (bare r) counts₀ room' (cleared_long n) x.counts_are);
    }

    -- one that leaves a reached location keeps its own
    pub starts_reached : leaves_reached (reached_sets c) r ≡ true → get_or starts₀ i 0 ≡ starts_set r → get_or counts₀ i 0 ≡ length r.tests
        → StartsTo c starts₀ counts₀ starts counts (i + 1)
    starts_reached e w g = record {
      starts_are = rw (cleared_next n e) (put_stays starts_set (cleared_to c i) r starts₀ room (cleared_long n) x.starts_are w);
      counts_are =
          rw (cleared_next n e)
          (put_stays (λ r. length r.tests) (cleared_to c i) r counts₀ room' (cleared_long n) x.counts_are g);
    }

  pub starts_all : i ≡ length c.transitions → StartsCleared c starts counts
  unfolding lists_of
  starts_all e = record {
    starts_are = begins_put _ starts₀ (rw (cleared_all c e) at x.starts_are);
    counts_are = begins_put _ counts₀ (rw (cleared_all c e) at x.counts_are);
  }

-- ---- tests

-- those of the next transition are read at `from`, and go to `to` if they stay
pub record TestsTo (c : Chart) (timers₀ codes₀ constants₀ timers codes constants : List ℕ) (from to i : ℕ) : Type 0 where
  pub from_is : from ≡ tests_before c i
  pub to_is : length (all_tests (cleared_to c i)) ≡ to
  pub up : to ≤ from
  pub timers_are : timers ≡ put (timers_of (all_tests (cleared_to c i))) timers₀
  pub codes_are : codes ≡ put (codes_of (all_tests (cleared_to c i))) codes₀
  pub constants_are : constants ≡ put (constants_of (all_tests (cleared_to c i))) constants₀

pub tests_none : (c : Chart) (timers codes constants : List ℕ) → TestsTo c timers codes constants timers codes constants 0 0 0
unfolding put all_tests
tests_none c j x k =
    record { from_is = refl; to_is = refl; up = omega arith; timers_are = refl; codes_are = refl; constants_are = refl }

module _ {c : Chart} {timers₀ codes₀ constants₀ timers codes constants : List ℕ} {from to i : ℕ}
    (x : TestsTo c timers₀ codes₀ constants₀ timers codes constants from to i) where
  module _ {r : Transition} (n : Nth c i r) {count : ℕ} (its : count ≡ length r.tests) where
    -- they are there
    pub tests_room : {xs l : List ℕ} → length xs ≡ length (all_tests c.transitions) → Begins xs l → from + count ≤ length l
    tests_room e b = omega (arith, x.from_is, its, timers_room n, timers_each c, e, begins_room b)

    -- those of one that leaves a spare location go
    pub tests_spare : leaves_reached (reached_sets c) r ≡ false
        → TestsTo c timers₀ codes₀ constants₀ timers codes constants (from + count) to (i + 1)
    tests_spare e =
        let same : all_tests (cleared_to c (i + 1)) ≡ all_tests (cleared_to c i) =
        ap all_tests (cleared_next n e) ∙ tests_more (cleared_to c i) (bare r) ∙ append-nil _ in
        record {
          from_is = omega (arith, x.from_is, its, before_next n);
          to_is = rw same x.to_is;
          up = omega (arith, x.up);
          timers_are = rw same x.timers_are;
          codes_are = rw same x.codes_are;
          constants_are = rw same x.constants_are;
        }

    module _ (e : leaves_reached (reached_sets c) r ≡ true) where
      more : all_tests (cleared_to c (i + 1)) ≡ all_tests (cleared_to c i) ++ r.tests
      more = ap all_tests (cleared_next n e) ∙ tests_more (cleared_to c i) r

      -- one number of each test
      moves : (f : Test → ℕ) {l now out : List ℕ} → Begins (map f (all_tests c.transitions)) l → now ≡ put (map f (all_tests (cleared_to c i))) l
          → out ≡ moved from to count now → out ≡ put (map f (all_tests (cleared_to c (i + 1)))) l
      moves f {l} b o m =
          let done : List ℕ = map f (all_tests (cleared_to c i)) in
          m ∙ moved_after from to x.up l done count (length-map (all_tests (cleared_to c i)) f ∙ x.to_is) o
          ∙ rw (more, map-append, its, x.from_is, entries_next n f b)

      -- those of one that leaves a reached location move up
      pub tests_reached : Begins (lists_of c).timers timers₀ → Begins (lists_of c).codes codes₀ → Begins (lists_of c).constants constants₀
          → {timers' codes' constants' : List ℕ} → timers' ≡ moved from to count timers → codes' ≡ moved from to count codes
          → constants' ≡ moved from to count constants
          → TestsTo c timers₀ codes₀ constants₀ timers' codes' constants' (from + count) (to + count) (i + 1)
      unfolding lists_of
      tests_reached bj bx bk j y k = record {
        from_is = omega (arith, x.from_is, its, before_next n);
        to_is = rw (more, length-append) (omega (arith, x.to_is, its));
        up = omega (arith, x.up);
        timers_are = moves _ bj x.timers_are j;
        codes_are = moves _ bx x.codes_are y;
        constants_are = moves _ bk x.constants_are k;
      }

  pub tests_all : i ≡ length c.transitions → TestsCleared c timers codes constants
  unfolding lists_of
  tests_all e = record {
    timers_are = begins_put _ timers₀ (rw (cleared_all c e) at x.timers_are);
    codes_are = begins_put _ codes₀ (rw (cleared_all c e) at x.codes_are);
    constants_are = begins_put _ constants₀ (rw (cleared_all c e) at x.constants_are);
  }
