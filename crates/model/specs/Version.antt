-- The versions of a chart file, the bytes that a constant has in each, which charts version 1 does not hold (document 02, P2), and which versions
-- allow locations that no path reaches (document 02, P7).
use Rattle.std.specs.Prelude.{◌≡◌, Bool, true, false, ◌&&◌, ℕ, ◌<◌, leb, ltb, eqb}
use mathlib.Core.Option.{some}
use lib.ListN.{get_elem?}
use Rattle.lists.specs.Lists.{any_of}
use Rattle.model.specs.Chart.{Test, Transition, Chart, Nth}

-- the versions that there are, 1 to 3: those that refusal 2 spares
unfoldable pub known_version : (version : ℕ) → Bool
known_version version = leb 1 version && leb version 3

-- the bytes of a constant: two in version 1, else four
unfoldable pub width_of : (version : ℕ) → ℕ
width_of version = elim (eqb version 1) [ true ↦ 2 | false ↦ 4 ]

-- from version 3 on a chart may have locations that no path reaches; below it 9 refuses them
unfoldable pub allows_spare : (version : ℕ) → Bool
allows_spare version = leb 3 version

-- the most bytes that a constant has in any version
abbrev pub widest : ℕ
widest = 4

-- the same chart as one of that version
unfoldable pub in_version : (version : ℕ) → Chart → Chart
in_version version c = record {
  version = version;
  locations = c.locations;
  initial = c.initial;
  timers = c.timers;
  accepting = c.accepting;
  transitions = c.transitions;
}

-- the most that two bytes hold: the largest constant of version 1, and of a chart that the counter board takes (18)
abbrev pub most_in_two_bytes : ℕ
most_in_two_bytes = 65535

-- a constant over it
unfoldable pub is_large : (constant : ℕ) → Bool
is_large constant = ltb most_in_two_bytes constant

-- a test that has one
abbrev pub large_test : Test → Bool
large_test t = is_large t.constant

-- a transition with such a test
abbrev pub large_transition : Transition → Bool
large_transition r = any_of large_test r.tests

-- some transition has one
unfoldable pub large_constant : Chart → Bool
large_constant c = any_of large_transition c.transitions

-- the same by its place: a test of a transition
pub record LargeConstant (c : Chart) : Type 0 where
  pub number : ℕ
  pub transition : Transition
  pub is_nth : Nth c number transition
  pub place : ℕ
  pub test : Test
  pub is_test : get_elem? transition.tests place ≡ some test
  pub over : most_in_two_bytes < test.constant

-- 17: a chart that has one is to be written as version 1
unfoldable pub large_in_version1 : Chart → Bool
large_in_version1 c = eqb c.version 1 && large_constant c
