-- The loop that fills the lists of the transitions and of their tests, on plain values: what is read so far stands over their fronts. The room for
-- the next transition's tests is there where it is there for 8 tests of each, or for those of all transitions, which this one is among.
use mathlib.Core.Path.{◌≡◌, refl, sym, ap, ◌∙◌, subst}
use mathlib.Core.List.{List, [], ◌∷◌, ◌++◌}
use Prim.Native.Nat.{ℕ, ◌+◌, ◌*◌, ◌≤◌, ◌<◌}
use native.Mathlib.Nat.{zero-add}
use native.Mathlib.Omega.{arith}
use lib.ListN.{length, set, length-append}
use Rattle.model.specs.Chart.{Transition}
use Rattle.model.specs.Live.{starts_set}
use Rattle.chart_lists.specs.Lists.{all_tests}
use Rattle.chart_lists.proofs.Put.{put_nil, put_next}
use Rattle.chart_lists.proofs.Tests.{tests_more, tests_front}
use Rattle.file_format.specs.Parse.{Parsed, value, refusal}
use Rattle.file_format.specs.Body.{read_tests, read_transition, read_transitions}
use Rattle.file_format.proofs.Parsed.{value_refused, same_value, same_rest, kept_value, kept_refused}
use Rattle.file_format.proofs.Items.{turn_done, turn_refused, turn_again, turn_front}
use Rattle.fields.specs.declared.record.Head.{Head}
use Rattle.fields.specs.Parts.{head_of, read_head}
use Rattle.fields.proofs.Parts.{transition_parts, head_at_most}
use Rattle.file_judging.specs.Parts.{skip_transition}
use Rattle.file_judging.proofs.Loops.{TestsCounted, counted_first, counted_again}
use Rattle.filling.specs.Parts.{RecordFits, TestsFit, HeadStored, HeadsStored, TestsStored}
use Rattle.filling.specs.Parts.TestsFit.{of_any, of_these}
use Rattle.filling.proofs.Store.{stored_none, stored_after}

-- of n transitions k are read and stored, with base tests
pub record RecordsFilled (W locations timers n k base : ℕ) (start bs a₁ a₂ a₃ a₄ a₅ a₆ a₇ a₈ b₁ b₂ b₃ b₄ b₅ b₆ b₇ b₈ : List ℕ) : Type 0 where
  pub read : TestsCounted W locations timers n k base start bs
  pub heads : HeadsStored read.done a₁ a₂ a₃ a₄ a₅ b₁ b₂ b₃ b₄ b₅
  pub tests : TestsStored (all_tests read.done) 0 a₆ a₇ a₈ b₆ b₇ b₈

pub records_first : (W locations timers n : ℕ) (start a₁ a₂ a₃ a₄ a₅ a₆ a₇ a₈ : List ℕ)
    → RecordsFilled W locations timers n 0 0 start start a₁ a₂ a₃ a₄ a₅ a₆ a₇ a₈ a₁ a₂ a₃ a₄ a₅ a₆ a₇ a₈
unfolding all_tests counted_first
records_first W locations timers n start a₁ a₂ a₃ a₄ a₅ a₆ a₇ a₈ = record {
  read = counted_first W locations timers n start;
  heads = record {
    sources = sym (put_nil a₁);
    targets = sym (put_nil a₂);
    events = sym (put_nil a₃);
    starts = sym (put_nil a₄);
    test_counts = sym (put_nil a₅);
  };
  tests = stored_none 0 a₆ a₇ a₈ (omega arith) (omega arith) (omega arith);
}

-- one more number of each kind
heads_more : {k : ℕ} {done : List Transition} {a₁ a₂ a₃ a₄ a₅ b₁ b₂ b₃ b₄ b₅ d₁ d₂ d₃ d₄ d₅ : List ℕ} → HeadsStored done a₁ a₂ a₃ a₄ a₅ b₁ b₂ b₃ b₄ b₅
    → length done ≡ k → k < length a₁ → k < length a₂ → k < length a₃ → k < length a₄ → k < length a₅
    → (r : Transition) → HeadStored r k b₁ b₂ b₃ b₄ b₅ d₁ d₂ d₃ d₄ d₅ → HeadsStored (done ++ (r ∷ [])) a₁ a₂ a₃ a₄ a₅ d₁ d₂ d₃ d₄ d₅
heads_more {k} {done} {a₁} {a₂} {a₃} {a₄} {a₅} f e h₁ h₂ h₃ h₄ h₅ r g = record {
  sources = g.sources ∙ put_next (λ (r : Transition). r.source) done r a₁ h₁ e f.sources;
  targets = g.targets ∙ put_next (λ (r : Transition). r.target) done r a₂ h₂ e f.targets;
  events = g.events ∙ put_next (λ (r : Transition). r.event) done r a₃ h₃ e f.events;
  starts = g.starts ∙ put_next starts_set done r a₄ h₄ e f.starts;
  test_counts = g.test_counts ∙ put_next (λ (r : Transition). length r.tests) done r a₅ h₅ e f.test_counts;
}

module _ {W locations timers n k base : ℕ} {start bs : List ℕ} (p : TestsCounted W locations timers n k base start bs) (h : k < n) where
  -- so many tests with those of the next record
  abbrev Most : ℕ → Type 0
  Most room = (x : Head) (t : List ℕ) → read_head W locations timers k bs ≡ value x t → base + x.tests ≤ room

  most_any : {room : ℕ} → 8 * n ≤ room → Most room
  most_any r x t e = omega (arith, p.few, head_at_most W locations timers k bs e)

  module _ {all : List Transition} {end : List ℕ} (well : read_transitions W locations timers n start ≡ value all end) where
    next_read : (r : Transition) × (t : List ℕ) × (read_transition W locations timers k bs ≡ value r t)
    next_read = go (read_transition W locations timers k bs) refl
      where
        go : (x : Parsed Transition) → read_transition W locations timers k bs ≡ x
            → (r : Transition) × (t : List ℕ) × (read_transition W locations timers k bs ≡ value r t)
        go (value r t) e = (r, t, e)
        go (refusal m q) e = absurd (value_refused well (turn_refused p.turn h e))

    most_these : {room : ℕ} → length (all_tests all) ≤ room → Most room
    unfolding head_of
    most_these r x t e =
        let y = next_read in
        let parts = transition_parts W locations timers k bs y.0 y.1 y.2 in
        let same : x.tests ≡ length y.0.tests = ap (λ (z : Head). z.tests) (same_value (sym e ∙ parts.head)) in
        let f = turn_front (turn_again p.turn h y.2) well in
        let used : length (all_tests (p.done ++ (y.0 ∷ []))) ≡ base + length y.0.tests = rw (tests_more, length-append, ← p.count) in
        omega (arith, tests_front (p.done ++ (y.0 ∷ [])) f.0 f.2)

  record_room : {a b c : ℕ} → TestsFit W locations timers n start a b c → RecordFits W locations timers k base bs a b c
  record_room (of_any e) = record {
    fits = λ x t q. record {
      timers = most_any e.timers x t q;
      codes = most_any e.codes x t q;
      constants = most_any e.constants x t q;
    };
  }
  record_room (of_these rs t w e) = record {
    fits = λ x t q. record {
      timers = most_these w e.timers x t q;
      codes = most_these w e.codes x t q;
      constants = most_these w e.constants x t q;
    };
  }

  -- the lists of a turn are as long as those that were lent
  pub record_fits : {a b c a' b' c' : ℕ} → TestsFit W locations timers n start a b c → a' ≡ a → b' ≡ b → c' ≡ c
      → RecordFits W locations timers k base bs a' b' c'
  record_fits f p q r = rw (p, q, r) (record_room f)

-- the numbers of the head that was found are the transition's, and its tests stand behind it
module _ (W locations timers k : ℕ) (bs : List ℕ) {x : Head} {b : List ℕ} (e : read_head W locations timers k bs ≡ value x b)
    (r : Transition) (t : List ℕ) (f : read_transition W locations timers k bs ≡ value r t) where
  same_head : value (head_of r) (transition_parts W locations timers k bs r t f).rest ≡ value x b
  same_head = sym (transition_parts W locations timers k bs r t f).head ∙ e

  pub head_stored : {a₁ a₂ a₃ a₄ a₅ : List ℕ}
      → HeadStored r k a₁ a₂ a₃ a₄ a₅ (set a₁ k x.source) (set a₂ k x.target) (set a₃ k x.event) (set a₄ k x.starts) (set a₅ k x.tests)
  unfolding head_of
  head_stored {a₁} {a₂} {a₃} {a₄} {a₅} = let q = sym (same_value same_head) in record {
    sources = ap (λ (h : Head). set a₁ k h.source) q;
    targets = ap (λ (h : Head). set a₂ k h.target) q;
    events = ap (λ (h : Head). set a₃ k h.event) q;
    starts = ap (λ (h : Head). set a₄ k h.starts) q;
    test_counts = ap (λ (h : Head). set a₅ k h.tests) q;
  }

  pub tests_behind : read_tests W timers k x.tests b ≡ value r.tests t
  unfolding head_of
  tests_behind =
      let q : length r.tests ≡ x.tests = ap (λ (h : Head). h.tests) (same_value same_head) in
      rw (← q, ← same_rest same_head) (transition_parts W locations timers k bs r t f).tests

module _ {W locations timers n k base : ℕ} {start bs a₁ a₂ a₃ a₄ a₅ a₆ a₇ a₈ b₁ b₂ b₃ b₄ b₅ b₆ b₇ b₈ : List ℕ}
    (f : RecordsFilled W locations timers n k base start bs a₁ a₂ a₃ a₄ a₅ a₆ a₇ a₈ b₁ b₂ b₃ b₄ b₅ b₆ b₇ b₈) where
  pub records_done : n ≤ k → (rs : List Transition) (t : List ℕ) → read_transitions W locations timers n start ≡ value rs t
      → HeadsStored rs a₁ a₂ a₃ a₄ a₅ b₁ b₂ b₃ b₄ b₅ × TestsStored (all_tests rs) 0 a₆ a₇ a₈ b₆ b₇ b₈
  records_done h rs t e =
      subst (λ (x : List Transition). HeadsStored x a₁ a₂ a₃ a₄ a₅ b₁ b₂ b₃ b₄ b₅ × TestsStored (all_tests x) 0 a₆ a₇ a₈ b₆ b₇ b₈)
      (same_value (sym (turn_done f.read.turn h) ∙ e))
      (f.heads, f.tests)

  module _ (h : k < n) where
    pub records_never : {m q : ℕ} → skip_transition W locations timers k bs ≡ refusal m q
        → (rs : List Transition) (t : List ℕ) → read_transitions W locations timers n start ≡ value rs t → ⊥
    unfolding skip_transition
    records_never r rs t e = value_refused e (turn_refused f.read.turn h (kept_refused (λ (r : Transition). length r.tests) _ r))

    module _ (r₁ : n ≤ length a₁) (r₂ : n ≤ length a₂) (r₃ : n ≤ length a₃) (r₄ : n ≤ length a₄) (r₅ : n ≤ length a₅)
        {d₁ d₂ d₃ d₄ d₅ d₆ d₇ d₈ : List ℕ}
        (stored : (r : Transition) (t : List ℕ) → read_transition W locations timers k bs ≡ value r t
        → HeadStored r k b₁ b₂ b₃ b₄ b₅ d₁ d₂ d₃ d₄ d₅ × TestsStored r.tests base b₆ b₇ b₈ d₆ d₇ d₈) where
      pub records_again : {g : ℕ} {t : List ℕ} → skip_transition W locations timers k bs ≡ value g t
          → RecordsFilled W locations timers n (k + 1) (base + g) start t a₁ a₂ a₃ a₄ a₅ a₆ a₇ a₈ d₁ d₂ d₃ d₄ d₅ d₆ d₇ d₈
      unfolding skip_transition counted_again
      records_again {g} {t} e =
          let y = kept_value (λ (r : Transition). length r.tests) (read_transition W locations timers k bs) e in
          let z = stored y.0 t y.1 in
          let m : 0 + length (all_tests f.read.done) ≡ base = zero-add _ ∙ sym f.read.count in
          record {
            read = counted_again f.read h e;
            heads = heads_more f.heads f.read.turn.count (omega arith) (omega arith) (omega arith) (omega arith) (omega arith) y.0 z.0;
            tests = rw tests_more (stored_after 0 a₆ a₇ a₈ (omega arith) (omega arith) (omega arith) f.tests y.0.tests m z.1);
          }
