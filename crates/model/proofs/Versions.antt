-- What the versions say of a chart: how wide constants are at most, and that a chart whose constants have four bytes is one that a file of its
-- version can hold exactly when 17 does not refuse it. A chart's limits but those of its constants do not speak of the width.
use mathlib.Core.Path.{◌≡◌, refl, sym, subst}
use mathlib.Core.Logic.{◌↔◌}
use mathlib.Core.Bool.{Bool, true, false, ◌&&◌}
use mathlib.Core.List.{List, [], ◌∷◌}
use Prim.Native.Nat.{ℕ, ◌+◌, ◌*◌, ◌^◌, ◌≤◌, ◌<◌}
use native.Mathlib.Nat.{mul-le-mul}
use native.Mathlib.Omega.{arith}
use lib.Dec.{leb, eqb}
use borrow.Author.Tests.{ne_eqb, leb-true, ltb-true, lt-ltb, ltb-false, le-ltb}
use Rattle.lists.specs.Rising.{All}
use Rattle.lists.proofs.Bools.{and_left, and_right, same_number}
use Rattle.lists.proofs.All.{all_have, all_as, none_passes, each_fails}
use Rattle.lists.proofs.Membership.{any_in, any_out}
use Rattle.model.specs.Chart.{Test, Transition, Chart}
use Rattle.model.specs.Version.{known_version, width_of, in_version, widest, most_in_two_bytes, is_large, large_test, large_transition}
use Rattle.model.specs.Version.{large_constant, LargeConstant, large_in_version1}
use Rattle.model.specs.Valid.{ValidTest, ValidTransition, Valid, Storable, StorableBy}

-- ---- versions and widths

pub known_some : (v : ℕ) → known_version v ≡ true → 1 ≤ v
unfolding known_version
known_some v e = leb-true 1 v (and_left (leb 1 v) (leb v 3) e)

pub known_most : (v : ℕ) → known_version v ≡ true → v ≤ 3
unfolding known_version
known_most v e = leb-true v 3 (and_right (leb 1 v) (leb v 3) e)

pub width_other : (v : ℕ) → (v ≡ 1 → ⊥) → width_of v ≡ 4
unfolding width_of
width_other v h = rw (width_of, ne_eqb v 1 h)

-- by the width that the version has: two bytes for 1, four for another
pub by_version : (P : ℕ → Type 0) (v : ℕ) → (v ≡ 1 → P 2) → (eqb v 1 ≡ false → P 4) → P (width_of v)
unfolding width_of
by_version P v two four = go (eqb v 1) refl
  where
    go : (b : Bool) → eqb v 1 ≡ b → P (elim b [ true ↦ 2 | false ↦ 4 ])
    go true e = two (same_number e)
    go false e = four e

-- from one byte to four
pub width_some : (v : ℕ) → 1 ≤ width_of v
width_some v = by_version (λ W. 1 ≤ W) v (λ e. omega arith) (λ e. omega arith)

pub width_most : (v : ℕ) → width_of v ≤ widest
width_most v = by_version (λ W. W ≤ widest) v (λ e. omega arith) (λ e. omega arith)

-- a constant fits 32 bits
pub width_fits : (v : ℕ) → 256 ^ width_of v ≤ 4294967296
width_fits v = by_version (λ W. 256 ^ W ≤ 4294967296) v (λ e. omega arith) (λ e. omega arith)

-- the bytes of n tests, w being the width
pub tests_most : (v n limit : ℕ) {w : ℕ} → w ≡ width_of v → n ≤ limit → ((2 + w) * n ≤ 6 * limit) × (w ≤ 4)
tests_most v n limit {w} e h =
    let few : w ≤ 4 = omega (arith, e, width_most v) in
    let all : 2 + w ≤ 6 = omega arith in
    (mul-le-mul all h, few)

-- ---- the same chart with wider or narrower constants

-- valid for W is valid for W', if each constant that fits W bytes fits W'; Q is what else is known of the tests
module _ (W W' : ℕ) (Q : Test → Type 0) (fits : (t : Test) → Q t → t.constant < 256 ^ W → t.constant < 256 ^ W') where
  tests_as : (timers : ℕ) (ts : List Test) → All Q ts → All (ValidTest W timers) ts → All (ValidTest W' timers) ts
  tests_as timers [] q x = tt
  tests_as timers (t ∷ ts) q x =
      (record { timer = x.0.timer; constant = fits t q.0 x.0.constant }, tests_as timers ts q.1 x.1)

  transitions_as : (locations timers : ℕ) (rs : List Transition) → All (λ (r : Transition). All Q r.tests) rs
      → All (ValidTransition W locations timers) rs → All (ValidTransition W' locations timers) rs
  transitions_as locations timers [] q x = tt
  transitions_as locations timers (r ∷ rs) q x = (
    record {
      source = x.0.source;
      target = x.0.target;
      event = x.0.event;
      starts = x.0.starts;
      few_tests = x.0.few_tests;
      tests = tests_as timers r.tests q.0 x.0.tests;
    },
    transitions_as locations timers rs q.1 x.1,
  )

  valid_as : (c : Chart) → All (λ (r : Transition). All Q r.tests) c.transitions → Valid W c → Valid W' c
  valid_as c q x = record {
    some_location = x.some_location;
    few_locations = x.few_locations;
    initial = x.initial;
    few_timers = x.few_timers;
    accepting = x.accepting;
    few_transitions = x.few_transitions;
    transitions = transitions_as c.locations c.timers c.transitions q x.transitions;
  }

-- every constant has two bytes where none is large
pub small_constants : (c : Chart) → large_constant c ≡ false
    → All (λ (r : Transition). All (λ (t : Test). t.constant < 256 ^ 2) r.tests) c.transitions
unfolding large_constant is_large
small_constants c e =
    all_as (λ (r : Transition) q. all_as small r.tests (none_passes large_test r.tests q)) c.transitions
    (none_passes large_transition c.transitions e)
  where
    small : (t : Test) → is_large t.constant ≡ false → t.constant < 256 ^ 2
    small t q = omega (arith, ltb-false most_in_two_bytes t.constant q)

-- two bytes hold what four hold if no constant is large, and only then
pub narrowed : (c : Chart) → large_constant c ≡ false → Valid widest c → Valid 2 c
narrowed c e v = valid_as 4 2 (λ t. t.constant < 256 ^ 2) (λ t q h. q) c (small_constants c e) v

pub narrow_small : (c : Chart) → Valid 2 c → large_constant c ≡ false
unfolding large_constant is_large
narrow_small c v =
    each_fails large_transition (ValidTransition 2 c.locations c.timers)
    (λ r x. each_fails large_test (ValidTest 2 c.timers)
    (λ t y. le-ltb most_in_two_bytes t.constant (omega (arith, y.constant))) r.tests x.tests)
    c.transitions v.transitions

pub widened : (c : Chart) → Valid 2 c → Valid widest c
widened c v =
    valid_as 2 4 (λ t. Unit {0}) (λ t q h. omega arith) c (all_have (λ (r : Transition). all_have (λ t. tt) r.tests) c.transitions) v

-- a chart has a large constant exactly when a test has one
pub large_iff : (c : Chart) → (large_constant c ≡ true) ↔ LargeConstant c
unfolding large_constant is_large
large_iff c = (
  found,
  λ h.
      any_in large_transition c.transitions h.number h.is_nth.there
      (any_in large_test h.transition.tests h.place h.is_test (lt-ltb most_in_two_bytes h.test.constant h.over)),
)
  where
    found : large_constant c ≡ true → LargeConstant c
    found e =
        let a = any_out large_transition c.transitions e in
        let b = any_out large_test a.1.tests a.3 in
        record {
          number = a.0;
          transition = a.1;
          is_nth = record { there = a.2 };
          place = b.0;
          test = b.1;
          is_test = b.2;
          over = ltb-true most_in_two_bytes b.1.constant b.3;
        }

-- the limits that a chart has do not speak of its version
pub valid_in : (W version : ℕ) (c : Chart) → Valid W c → Valid W (in_version version c)
unfolding in_version
valid_in W version c v = record {
  some_location = v.some_location;
  few_locations = v.few_locations;
  initial = v.initial;
  few_timers = v.few_timers;
  accepting = v.accepting;
  few_transitions = v.few_transitions;
  transitions = v.transitions;
}

-- ---- what a file can hold

-- there are two widths
pub width_not_two : (v : ℕ) → (width_of v ≡ 2 → ⊥) → width_of v ≡ 4
width_not_two v = by_version (λ W. (W ≡ 2 → ⊥) → W ≡ 4) v (λ e h. absurd (h refl)) (λ e h. refl)

pub storable_iff : (c : Chart) → Storable c ↔ StorableBy c
unfolding large_in_version1
storable_iff c = (
  λ s. record { known = s.known; valid = wide s.valid; not_refused = small s.valid },
  λ s. record { known = s.known; valid = fits s.valid s.not_refused },
)
  where
    wide : Valid (width_of c.version) c → Valid widest c
    wide = by_version (λ W. Valid W c → Valid widest c) c.version (λ e. widened c) (λ e v. v)

    small : Valid (width_of c.version) c → (eqb c.version 1 && large_constant c) ≡ false
    small = by_version (λ W. Valid W c → (eqb c.version 1 && large_constant c) ≡ false) c.version
        (λ e v. subst (λ n. (eqb n 1 && large_constant c) ≡ false) (sym e) (narrow_small c v)) (λ e v. rw e)

    fits : Valid widest c → (eqb c.version 1 && large_constant c) ≡ false → Valid (width_of c.version) c
    fits v e = by_version (λ W. Valid W c) c.version
        (λ q. narrowed c (subst (λ n. (eqb n 1 && large_constant c) ≡ false) q e) v) (λ q. v)
