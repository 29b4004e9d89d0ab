-- The record of a transition that stands in the lists is what the code writes for it, and so are all of them. What is hard is that the places of the
-- next record and of its tests depend on all records before it.
use mathlib.Core.Path.{◌≡◌, refl, sym, ap, ◌∙◌, subst}
use mathlib.Core.Option.{Option, none, some}
use mathlib.Core.List.{List, [], ◌∷◌, append_assoc}
use Prim.Native.Nat.{ℕ, zero, suc, ◌+◌, ◌-◌, ◌*◌, ◌^◌, ◌≤◌, ◌<◌}
use native.Mathlib.Numerals.{add-one}
use native.Mathlib.Omega.{arith}
use lib.ListN.{length, drop, get_or, get_elem?}
use borrow.Rule.Slice.PartMut.{mid_of, put_mid}
use Rattle.lists.specs.Lists.{gather}
use Rattle.lists.specs.Rising.{All}
use Rattle.lists.proofs.Nth.{nth_below, below_nth, get_d_nth}
use Rattle.timer_set.specs.Members.{members}
use Rattle.comparison.specs.Comparison.{code_of}
use Rattle.model.specs.Answer.{Answer, returned, refused}
use Rattle.model.specs.Chart.{Test, Transition}
use Rattle.file_format.specs.Parse.{write_all}
use Rattle.file_format.specs.Body.{record_length, write_test, write_transition}
use Rattle.file_format.specs.Lengths.{transition_length}
use Rattle.file_format.proofs.Lengths.{length_transition}
use Rattle.chart_lists.specs.Lists.{Lists, put, overwritten}
use Rattle.chart_lists.proofs.PutLoop.{PutLoop, put_loop_first, put_loop_done, put_loop_room, put_loop_again}
use Rattle.chart_lists.proofs.Overwritten.{overwritten_result}
use Rattle.list_judging.specs.FromLists.{tests_from, transition_from, transitions_from}
use Rattle.list_judging.proofs.Items.{each_nth, each_room}
use Rattle.list_judging.proofs.Parts.{test_item, no_state, tests_length, tests_each, TransitionsEach, transitions_length, transitions_each}
use Rattle.list_judging.proofs.FromValid.{all_nth}
use Rattle.list_judging.proofs.TransitionOf.{TestOf, test_of, TransitionOf, transition_of}
use Rattle.writer.specs.Bytes.{test_bytes, test_at, tests_bytes, head_bytes, record_bytes, Room, records, FitFrom, Fit}
use Rattle.writer.proofs.FieldBytes.{gather_all}

-- ---- tests

module _ (W : ℕ) (l : Lists) (timers i : ℕ) where
  test_at_lem : (k : ℕ) (t : Test) → TestOf l timers k t → test_at W l k ≡ write_test W t
  unfolding test_at test_bytes write_test
  test_at_lem k t h = rw (get_d_nth l.timers k 0 h.timer, get_d_nth l.codes k 0 h.code, get_d_nth l.constants k 0 h.constant)

  tests_bytes_lem : (k g : ℕ) (ts : List Test) → tests_from l timers i k g ≡ returned ts → tests_bytes W l k g ≡ write_all (write_test W) ts
  unfolding tests_bytes
  tests_bytes_lem k g ts e =
      let own = tests_each l timers i k g ts e in
      let each = each_nth (test_item l timers i) no_state (TestOf l timers) (λ k s t. test_of l timers i k t) k 0 ts own in
      rw (← tests_length l timers i k g ts e)
      (gather_all (write_test W) ts (λ t. test_at W l (k + t)) (λ j t n. test_at_lem (k + j) t (each j t n)))

-- ---- a transition

-- the bytes that the code writes for transition i
abbrev pub record_at : (W : ℕ) → Lists → (i k : ℕ) → List ℕ
record_at W l i k =
    record_bytes W (get_or l.sources i 0) (get_or l.targets i 0) (get_or l.events i 0) (get_or l.starts i 0) l k
    (get_or l.test_counts i 0)

module _ (W : ℕ) (l : Lists) (locations timers i k : ℕ) (r : Transition) (h : TransitionOf l locations timers i k r) where
  record_bytes_lem : record_at W l i k ≡ write_transition W r
  unfolding record_bytes head_bytes write_transition tests_bytes test_at
  record_bytes_lem =
      rw (
        get_d_nth l.sources i 0 h.source,
        get_d_nth l.targets i 0 h.target,
        get_d_nth l.events i 0 h.event,
        get_d_nth l.starts i 0 h.starts,
        get_d_nth l.test_counts i 0 h.count,
        ← h.starts_are,
        tests_bytes_lem W l timers i k (length r.tests) r.tests h.tests,
      ) (simp append_assoc)

  record_size : 9 + length (members (get_or l.starts i 0)) + (2 + W) * get_or l.test_counts i 0 ≡ length (write_transition W r)
  unfolding transition_length record_length
  record_size =
      rw (get_d_nth l.starts i 0 h.starts, get_d_nth l.test_counts i 0 h.count, ← h.starts_are) (omega (arith, length_transition W r))

  -- its constants fit
  constants_fit : All (λ (t : Test). t.constant < 256 ^ 2) r.tests → FitFrom 2 l.constants k (get_or l.test_counts i 0)
  constants_fit fit j b =
      let x = nth_below r.tests j (omega (arith, b, get_d_nth l.test_counts i 0 h.count)) in
      let each = tests_each l timers i k (length r.tests) r.tests h.tests in
      let is = each_nth (test_item l timers i) no_state (TestOf l timers) (λ k s t. test_of l timers i k t) k 0 r.tests each j x.0 x.1 in
      rw (get_d_nth l.constants (k + j) 0 is.constant) (all_nth (λ (t : Test). t.constant < 256 ^ 2) r.tests j fit x.1)

  -- there is an entry for each of its tests
  test_room : (f : Test → ℕ) (w : List ℕ) → ((k : ℕ) (t : Test) → TestOf l timers k t → get_elem? w k ≡ some (f t))
      → get_or l.test_counts i 0 ≤ length w - k
  test_room f w e =
      rw (get_d_nth l.test_counts i 0 h.count)
      (each_room (test_item l timers i) no_state f w (λ k s t o. e k t (test_of l timers i k t o)) k 0 r.tests
      (tests_each l timers i k (length r.tests) r.tests h.tests))

-- ---- all transitions

drop_nth : {A : Type 0} (xs : List A) (i : ℕ) → i < length xs → (a : A) × (get_elem? xs i ≡ some a) × (drop i xs ≡ a ∷ drop (suc i) xs)
drop_nth [] i h = absurd (omega arith)
drop_nth (x ∷ xs) zero h = (x, refl, refl)
drop_nth (x ∷ xs) (suc i) h = drop_nth xs i (omega arith)

abbrev pub list_of : {A : Type 0} → Answer (List A) → List A
list_of (returned xs) = xs
list_of (refused n p) = []

abbrev written : (W : ℕ) → Option Transition → List ℕ
written W none = []
written W (some r) = write_transition W r

-- the record of transition i
unfoldable pub record_of : (W : ℕ) → List Transition → ℕ → List ℕ
record_of W rs i = written W (get_elem? rs i)

module _ (W : ℕ) (l : Lists) (locations timers n : ℕ) where
  abbrev listed : Answer (List Transition)
  listed = transitions_from l locations timers 0 0 n

  -- i records are written; the next goes to place at, and its tests begin at place k of the lists
  pub record Writing (first out : List ℕ) (at k i : ℕ) : Type 0 where
    pub wrote : PutLoop (record_of W (list_of listed)) n first out at i
    pub left : TransitionsEach l locations timers i k (drop i (list_of listed))
    pub few : k ≤ 8 * i

  module _ (first : List ℕ) (room : Room (records W) listed (length first)) (fit : W ≡ 2 → Fit 2 listed) where
    listed_is : list_of listed ≡ room.item
    listed_is = ap list_of room.is

    list_length : length (list_of listed) ≡ n
    list_length = rw listed_is (transitions_length l locations timers 0 0 n room.item room.is)

    all_records : gather (record_of W (list_of listed)) n ≡ records W (list_of listed)
    unfolding records record_of
    all_records =
        ap (gather (record_of W (list_of listed))) (sym list_length)
        ∙ gather_all (write_transition W) (list_of listed) (record_of W (list_of listed)) (λ i r e. ap (written W) e)

    pub writing_first : Writing first first 0 0 0
    writing_first = record {
      wrote = put_loop_first _ n first;
      left = rw listed_is (transitions_each l locations timers 0 0 n room.item room.is);
      few = omega arith;
    }

    module _ {out : List ℕ} {at k i : ℕ} (w : Writing first out at k i) where
      pub writing_done : n ≤ i → out ≡ overwritten (records W) listed first
      writing_done h =
          put_loop_done w.wrote h ∙ ap (λ (xs : List ℕ). put xs first) (all_records ∙ ap (records W) listed_is)
          ∙ sym (overwritten_result (records W) first room.is)

      module _ (m : i < n) where
        next_there : (r : Transition) × (get_elem? (list_of listed) i ≡ some r)
            × (drop i (list_of listed) ≡ r ∷ drop (suc i) (list_of listed))
        next_there = drop_nth (list_of listed) i (omega (arith, list_length))

        abbrev next : Transition
        next = next_there.0

        next_left : (transition_from l locations timers i k ≡ returned next)
            × TransitionsEach l locations timers (suc i) (k + length next.tests) (drop (suc i) (list_of listed))
        next_left = subst (TransitionsEach l locations timers i k) next_there.2 w.left

        next_of : TransitionOf l locations timers i k next
        next_of = transition_of l locations timers i k next next_left.0

        -- what the code needs to know to write the next record
        pub record Next : Type 0 where
          pub source : i < length l.sources
          pub target : i < length l.targets
          pub event : i < length l.events
          pub starts : i < length l.starts
          pub count : i < length l.test_counts
          pub few : get_or l.test_counts i 0 ≤ 8
          pub timers_room : get_or l.test_counts i 0 ≤ length l.timers - k
          pub codes_room : get_or l.test_counts i 0 ≤ length l.codes - k
          pub constants_room : get_or l.test_counts i 0 ≤ length l.constants - k
          pub constants_small : W ≡ 2 → FitFrom 2 l.constants k (get_or l.test_counts i 0)
          pub fits : at + (9 + length (members (get_or l.starts i 0)) + (2 + W) * get_or l.test_counts i 0) ≤ length out

        next_bytes : record_of W (list_of listed) i ≡ write_transition W next
        unfolding record_of
        next_bytes = ap (written W) next_there.1

        next_fits : W ≡ 2 → All (λ (t : Test). t.constant < 256 ^ 2) next.tests
        next_fits two =
            all_nth (λ (r : Transition). All (λ (t : Test). t.constant < 256 ^ 2) r.tests) (list_of listed) i
            (rw listed_is (fit two room.item room.is)) next_there.1

        pub writing_next : Next
        unfolding records
        writing_next =
            let h = next_of in
            record {
              source = below_nth l.sources i h.source;
              target = below_nth l.targets i h.target;
              event = below_nth l.events i h.event;
              starts = below_nth l.starts i h.starts;
              count = below_nth l.test_counts i h.count;
              few = rw (get_d_nth l.test_counts i 0 h.count) h.few_tests;
              timers_room = test_room W l locations timers i k next h (λ t. t.timer) l.timers (λ k t o. o.timer);
              codes_room = test_room W l locations timers i k next h (λ t. code_of t.comparison) l.codes (λ k t o. o.code);
              constants_room = test_room W l locations timers i k next h (λ t. t.constant) l.constants (λ k t o. o.constant);
              constants_small = λ two. constants_fit W l locations timers i k next h (next_fits two);
              fits = rw (record_size W l locations timers i k next h, ← next_bytes)
                  (put_loop_room w.wrote m (rw (all_records, listed_is) room.fits));
            }

        pub writing_again : {last : List ℕ} {at' : ℕ}
            → last ≡ put (record_at W l i k) (mid_of at (length out - at) out)
            → length last ≡ length (mid_of at (length out - at) out)
            → at' ≡ at + (9 + length (members (get_or l.starts i 0)) + (2 + W) * get_or l.test_counts i 0)
            → Writing first (put_mid at (length out - at) out last) at' (k + get_or l.test_counts i 0) (i + 1)
        writing_again {last} {at'} e s p = record {
          wrote = put_loop_again w.wrote m (next_bytes ∙ sym (record_bytes_lem W l locations timers i k next next_of)) e s
              (p ∙ rw (record_bytes_lem W l locations timers i k next next_of, record_size W l locations timers i k next next_of));
          left = rw (get_d_nth l.test_counts i 0 next_of.count, add-one i) next_left.1;
          few = omega (arith, w.few, writing_next.few);
        }
