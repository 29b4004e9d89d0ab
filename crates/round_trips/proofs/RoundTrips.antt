-- What the writer wrote the reader reads again, header and lists, and what the reader read the writer writes again, byte for byte. Hard: the lists
-- that are handed over may be longer than the chart's own, which are their fronts.
use mathlib.Core.Path.{◌≡◌, refl, sym, ap, ◌∙◌, subst}
use mathlib.Core.Bool.{Bool, true}
use mathlib.Core.List.{List}
use Prim.Native.Nat.{ℕ, ◌≤◌}
use native.Mathlib.Omega.{arith}
use lib.Dec.{leb}
use lib.ListN.{length, take}
use borrow.Author.Tests.{le-leb}
use Rattle.lists.specs.Lists.{sum_of}
use Rattle.model.specs.Answer.{Answer, returned, then, unless, nowhere}
use Rattle.model.specs.Chart.{Chart}
use Rattle.model.specs.Version.{in_version}
use Rattle.model.specs.Valid.{Storable}
use Rattle.file_format.specs.File.{chart_in, file_of}
use Rattle.file_format.specs.Parse.{Bytes}
use Rattle.file_format.proofs.Answers.{then_result, unless_result}
use Rattle.file_format.specs.Lengths.{largest_file}
use Rattle.file_format.proofs.File.{chart_survives, file_survives, reads_storable}
use Rattle.file_format.proofs.Lengths.{largest_file_lem}
use Rattle.file_format.proofs.Versions.{stored_iff, stored_as_2}
use Rattle.chart_lists.specs.Lists.{Lists, all_tests, lists_of, overwritten, room_for}
use Rattle.chart_lists.specs.Begins.{Begins}
use Rattle.chart_lists.specs.Holds.{Holds}
use Rattle.chart_lists.specs.Header.{header_of, header_in_version}
use Rattle.chart_lists.specs.declared.Header.{Header}
use Rattle.chart_lists.proofs.Begins.{begins_take}
use Rattle.chart_lists.proofs.Fronts.{accepting_are, each_front, sources_front, targets_front, starts_front}
use Rattle.chart_lists.proofs.Holds.{holds_put, events_each, test_counts_each, timers_each, codes_each, constants_each}
use Rattle.chart_lists.proofs.Put.{take_put}
use Rattle.chart_lists.proofs.Tests.{tests_sum}
use Rattle.list_judging.specs.FromLists.{chart_from}
use Rattle.list_judging.specs.Typed.{Typed}
use Rattle.list_judging.specs.FileFrom.{tests_before}
use Rattle.model.proofs.Answers.{kept_result}
use Rattle.list_judging.proofs.FromHolds.{from_header, from_holds}
use Rattle.list_judging.proofs.FromValid.{from_storable}
use Rattle.list_judging.proofs.ValidFrom.{valid_from}
use Rattle.reader.specs.Reading.{read_into, read_answer, lists_after}
use Rattle.writer.specs.Writing.{write_into, write_answer}
use Rattle.round_trips.specs.RoundTrips.{fronts, ReadBack, WrittenBack}

-- ---- the fronts of lists that describe a chart are the chart's own

module _ (m : Header) (l : Lists) (c : Chart) (typed : Typed l) (e : chart_from m l ≡ returned c) where
  abbrev header : m ≡ header_of c
  header = sym (from_header m l c e)

  abbrev held : Holds c l
  held = from_holds m l c e typed

  tests_before_lem : tests_before l m.transitions ≡ length (all_tests c.transitions)
  unfolding tests_before lists_of
  tests_before_lem = ap sum_of (each_front c header (test_counts_each c) held.test_counts) ∙ sym (tests_sum c.transitions)

  -- of a list with an entry for each test
  test_front : {xs w : List ℕ} → length xs ≡ length (all_tests c.transitions) → Begins xs w → take (tests_before l m.transitions) w ≡ xs
  test_front f b = begins_take b (tests_before_lem ∙ sym f)

  fronts_own : fronts m l ≡ lists_of c
  unfolding fronts lists_of
  fronts_own = λ j. record {
    accepting = begins_take held.accepting (accepting_are c header) j;
    sources = sources_front c header held.sources j;
    targets = targets_front c header held.targets j;
    events = each_front c header (events_each c) held.events j;
    starts = starts_front c header held.starts j;
    test_counts = each_front c header (test_counts_each c) held.test_counts j;
    timers = test_front (timers_each c) held.timers j;
    codes = test_front (codes_each c) held.codes j;
    constants = test_front (constants_each c) held.constants j;
  }

-- ---- the chart that is written or read

-- the result of an answer that is held to a condition
held_to : {A : Type 0} (x : Answer A) (b : A → Bool) (n p : ℕ) {c : A} → then x (λ a. unless (b a) n p (returned a)) ≡ returned c → x ≡ returned c
held_to x b n p e =
    let a = then_result x _ e in
    a.1 ∙ (unless_result (b a.0) n p (returned a.0) a.2).1

written_from : (room : ℕ) (m : Header) (l : Lists) {c : Chart} → write_into room m l ≡ returned c → chart_from m l ≡ returned c
unfolding write_into
written_from room m l e = held_to (chart_from m l) (λ c. leb (length (file_of c)) room) 21 nowhere e

read_from : (lent : Lists) (bs : List ℕ) {c : Chart} → read_into lent bs ≡ returned c → chart_in bs ≡ returned c
unfolding read_into
read_from lent bs e = held_to (chart_in bs) (λ c. room_for (lists_of c) lent) 21 nowhere e

-- ---- written, then read

module _ (m : Header) (l : Lists) (typed : Typed l) (c : Chart) (e : chart_from m l ≡ returned c) (lent : Lists)
    (room : room_for (fronts m l) lent ≡ true) where
  read_chart_lem : read_into lent (file_of c) ≡ returned c
  unfolding read_into
  read_chart_lem =
      let r : room_for (lists_of c) lent ≡ true = rw (fronts_own m l c typed e) at room in
      rw (chart_survives c (from_storable l typed m c e), r)

  read_back : ReadBack (file_of c) m l lent
  unfolding read_answer
  read_back = record { answer = rw (read_chart_lem, from_header m l c e); lists = rw (read_chart_lem, fronts_own m l c typed e) }

pub written_then_read : (m : Header) (l : Lists) (out : List ℕ) (n : ℕ) → Typed l → write_answer (length out) m l ≡ returned n
    → (lent : Lists) → room_for (fronts m l) lent ≡ true → ReadBack (take n (overwritten file_of (write_into (length out) m l) out)) m l lent
unfolding write_answer
written_then_read m l out n typed e lent room =
    let a = kept_result (write_into (length out) m l) (λ c. length (file_of c)) e in
    rw (a.1, take_put (file_of a.0) out n a.2) (read_back m l typed a.0 (written_from (length out) m l a.1) lent room)

-- ---- read, then written

-- lists that hold a chart, those that were read or others
write_held : (c : Chart) → Storable c → (l : Lists) → Holds c l → (out : List ℕ) → length (file_of c) ≤ length out
    → WrittenBack (file_of c) (header_of c) l out
unfolding write_answer write_into
write_held c s l h out room =
    let fits = le-leb (length (file_of c)) (length out) room in
    let from = valid_from c s l h in
    record { answer = rw (from, fits); buffer = rw (from, fits) }

-- the chart of a file
pub write_what_was_read : (bs : List ℕ) (c : Chart) → Bytes bs → chart_in bs ≡ returned c → (l : Lists) → Holds c l
    → (out : List ℕ) → length bs ≤ length out → WrittenBack bs (header_of c) l out
write_what_was_read bs c by e l h out room =
    let same = file_survives bs c by e in
    subst (λ (x : List ℕ). WrittenBack x (header_of c) l out) same (write_held c (reads_storable bs c by e) l h out (rw same room))

module _ (bs : List ℕ) (lent : Lists) (c : Chart) (by : Bytes bs) (read : read_into lent bs ≡ returned c) where
  -- the lists that were read
  read_lists : Holds c (lists_after (read_into lent bs) lent)
  read_lists = rw read (holds_put (reads_storable bs c by (read_from lent bs read)).valid lent refl)

  read_back_written : (out : List ℕ) → length bs ≤ length out → WrittenBack bs (header_of c) (lists_after (read_into lent bs) lent) out
  read_back_written = write_what_was_read bs c by (read_from lent bs read) (lists_after (read_into lent bs) lent) read_lists

  -- with another version in the header: the file of the same chart in that version, if it holds the chart
  pub read_then_stored_as : (version : ℕ) → Storable (in_version version c)
      → (out : List ℕ) → length (file_of (in_version version c)) ≤ length out
      → WrittenBack (file_of (in_version version c)) (header_in_version version (header_of c)) (lists_after (read_into lent bs) lent) out
  unfolding header_in_version header_of in_version
  read_then_stored_as version s out room =
      write_held (in_version version c) s (lists_after (read_into lent bs) lent) (held_in version s read_lists) out room
    where
      held_in : (version : ℕ) → Storable (in_version version c) → {l : Lists} → Holds c l → Holds (in_version version c) l
      held_in version s h = unfold lists_of in record {
        width = _;
        valid = s.valid;
        accepting = h.accepting;
        sources = h.sources;
        targets = h.targets;
        events = h.events;
        starts = h.starts;
        test_counts = h.test_counts;
        timers = h.timers;
        codes = h.codes;
        constants = h.constants;
      }

pub read_then_written : (bs : List ℕ) (lent : Lists) (h : Header) → Bytes bs → read_answer lent bs ≡ returned h
    → (out : List ℕ) → length bs ≤ length out → WrittenBack bs h (lists_after (read_into lent bs) lent) out
unfolding read_answer
read_then_written bs lent h by e out room = let a = kept_result (read_into lent bs) header_of e in
    subst (λ (x : Header). WrittenBack bs x (lists_after (read_into lent bs) lent) out) a.2
    (read_back_written bs lent a.0 by a.1 out room)

-- what was read, handed to the writer as version 2: the file of the same chart in that version, whatever its version was
pub read_then_stored_as_2 : (bs : List ℕ) (lent : Lists) (h : Header) → Bytes bs → read_answer lent bs ≡ returned h
    → (out : List ℕ) → largest_file ≤ length out
    → (c : Chart) × (chart_in bs ≡ returned c)
    × WrittenBack (file_of (in_version 2 c)) (header_in_version 2 h) (lists_after (read_into lent bs) lent) out
unfolding read_answer
read_then_stored_as_2 bs lent h by e out room =
    let a = kept_result (read_into lent bs) header_of e in
    let c = a.0 in
    let read = read_from lent bs a.1 in
    let s = (stored_iff bs c by read 2).0 (stored_as_2 bs c by read) in (
      c,
      read,
      subst (λ (x : Header). WrittenBack (file_of (in_version 2 c)) (header_in_version 2 x) (lists_after (read_into lent bs) lent) out) a.2
          (read_then_stored_as bs lent c by a.1 2 s out (omega (arith, largest_file_lem (in_version 2 c) s))),
    )
