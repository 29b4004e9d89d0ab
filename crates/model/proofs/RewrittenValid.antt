-- The rewritten chart is one that a file can hold, and it names only timers below used. Tests may be left out, and starts are numbers below used that
-- rise.
use mathlib.Core.Path.{◌≡◌, refl}
use mathlib.Core.Option.{Option, none, some}
use mathlib.Core.List.{List, [], ◌∷◌, map, filter_map}
use Prim.Native.Nat.{ℕ, ◌≤◌}
use native.Mathlib.Omega.{arith}
use lib.ListN.{length, length-map}
use Rattle.lists.specs.Rising.{All}
use Rattle.lists.proofs.Gather.{pick_rising}
use Rattle.model.specs.Chart.{Test, Transition, Chart, Nth}
use Rattle.model.specs.Version.{width_of}
use Rattle.model.specs.Valid.{Valid, ValidTest, ValidTransition, Storable}
use Rattle.model.specs.Rewrite.{Numbering, new_tests, new_starts, new_transition, rewritten_by, NamesBelow}
use Rattle.model.specs.Plan.{Plan}
use Rattle.model.proofs.Rewritten.{old_nth, tests_none, tests_some, tested_old, starts_below}

pub all_map : {A B : Type 0} (P : A → Type 0) (Q : B → Type 0) (f : A → B) (l : List A) → ((a : A) → P a → Q (f a)) → All P l → All Q (map f l)
all_map P Q f [] h x = tt
all_map P Q f (a ∷ l) h x = (h a x.0, all_map P Q f l h x.1)

module _ (c : Chart) (N : Numbering) (P : Plan c N) where
  -- a new list of tests is as valid as the old one, and no longer
  pub record TestsKept (W q : ℕ) (ts : List Test) : Type 0 where
    pub short : length (new_tests N q ts) ≤ length ts
    pub valid : All (ValidTest W N.used) (new_tests N q ts)

  tests_kept : (W timers q : ℕ) (ts : List Test) → All (ValidTest W timers) ts → TestsKept W q ts
  tests_kept W timers q [] x = record { short = unfold new_tests filter_map in (omega arith); valid = unfold new_tests filter_map in tt }
  tests_kept W timers q (t ∷ ts) x = go (N.number q t.timer) refl (tests_kept W timers q ts x.1)
    where
      go : (o : Option ℕ) → N.number q t.timer ≡ o → TestsKept W q ts → TestsKept W q (t ∷ ts)
      go none e k = record { short = rw (tests_none N q t ts e) (omega (arith, k.short)); valid = rw (tests_none N q t ts e) k.valid }
      go (some n) e k = record {
        short = rw (tests_some N q t ts e) (omega (arith, k.short));
        valid = rw (tests_some N q t ts e) (record { timer = P.below q t.timer n e; constant = x.0.constant }, k.valid);
      }

  pub rewritten_valid : (W : ℕ) → Valid W c → N.used ≤ 64 → Valid W (rewritten_by N c)
  unfolding rewritten_by
  rewritten_valid W x few = record {
    some_location = x.some_location;
    few_locations = x.few_locations;
    initial = x.initial;
    few_timers = few;
    accepting = x.accepting;
    few_transitions = rw (length-map c.transitions (new_transition N)) x.few_transitions;
    transitions =
        all_map (ValidTransition W c.locations c.timers) (ValidTransition W c.locations N.used)
        (new_transition N) c.transitions kept x.transitions;
  }
    where
      kept : (r : Transition) → ValidTransition W c.locations c.timers r → ValidTransition W c.locations N.used (new_transition N r)
      kept r y = let k = tests_kept W c.timers r.source r.tests y.tests in
          unfold new_transition new_starts in record {
            source = y.source;
            target = y.target;
            event = y.event;
            starts = pick_rising _ N.used;
            few_tests = omega (arith, k.short, y.few_tests);
            tests = k.valid;
          }

  -- a file of the chart's version holds it
  pub rewritten_storable : Storable c → N.used ≤ 64 → Storable (rewritten_by N c)
  unfolding rewritten_by
  rewritten_storable s few = record { known = s.known; valid = rewritten_valid (width_of c.version) s.valid few }

  pub names_below : (i : ℕ) (r : Transition) → Nth (rewritten_by N c) i r → NamesBelow N.used r
  names_below i r n = let o = old_nth N c i n in rw (← o.2) (go o.0)
    where
      go : (r : Transition) → NamesBelow N.used (new_transition N r)
      go r = unfold new_transition in record {
        starts = starts_below N r;
        tests = λ k m. let t = tested_old N r.source k r.tests m in P.below r.source t.0 k t.2;
      }
