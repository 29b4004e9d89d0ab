-- The renamed timers of tests are those of the tests of the rewritten chart, which has as many: every timer that is tested has a number.
use mathlib.Core.Path.{◌≡◌, refl, sym, ap, ap₂, ◌∙◌}
use mathlib.Core.Bool.{true}
use mathlib.Core.List.{List, [], ◌∷◌, ◌++◌, map, map-append, append_assoc, filter_map}
use Prim.Native.Nat.{ℕ, ◌+◌, ◌≤◌, ◌<◌}
use native.Mathlib.Numerals.{add-one}
use native.Mathlib.Omega.{arith}
use lib.ListN.{length, get_or, take, drop, set, length-append, length-map}
use lib.Seq.{take-length, take-suc, take-suc-set, take_at, drop_at, drop-drop}
use borrow.Rule.Slice.PartMut.{put_mid}
use borrow.Author.Tests.{lt-ltb, le-ltb}
use Rattle.model.specs.Chart.{Test, Transition, Chart, Nth, tested}
use Rattle.model.specs.Valid.{Valid}
use Rattle.model.specs.Rewrite.{Numbering, new_tests, new_transition, rewritten_by}
use Rattle.model.specs.Plan.{Has}
use Rattle.model.proofs.Rewritten.{tested_head, tested_tail, tests_some}
use Rattle.model.proofs.Transitions.{nth_valid, tested_below}
use Rattle.chart_lists.specs.Lists.{all_tests, lists_of, put, timers_of}
use Rattle.chart_lists.specs.Begins.{Begins}
use Rattle.chart_lists.proofs.Tests.{tests_more}
use Rattle.chart_lists.proofs.InTurn.{tests_before, take_next, before_next, timers_next}
use Rattle.allocation.specs.Cells.{cell}
use Rattle.renaming.specs.Renaming.{cell_at, board_timer, renamed_row, CellsOf}
use Rattle.renaming.proofs.Sets.{cell_number, number_small}

module _ (x : ℕ) where
  pub timer_yes : x < 64 → board_timer x ≡ x
  unfolding board_timer
  timer_yes h = rw (lt-ltb x 64 h, board_timer)

  pub timer_no : 64 ≤ x → board_timer x ≡ 0
  unfolding board_timer
  timer_no h = rw (le-ltb x 64 h, board_timer)

-- ---- one transition's tests

module _ (cells : List ℕ) (q : ℕ) where
  length_row : (ts : List ℕ) → length (renamed_row cells q ts) ≡ length ts
  unfolding renamed_row
  length_row ts = length-map ts _

  -- the next timer is stored behind the others
  pub row_more : (ts out : List ℕ) (k : ℕ) → k < length ts → length out ≡ length ts → take k out ≡ renamed_row cells q (take k ts)
      → take (k + 1) (set out k (board_timer (cell_at cells q (get_or ts k 0)))) ≡ renamed_row cells q (take (k + 1) ts)
  unfolding renamed_row
  row_more ts out k h e o = rw (add-one k, take-suc-set out k _ (omega arith), take-suc ts k 0 h, map-append, o)

-- a row stored behind others that are put over the front
row_put : (done row l : List ℕ) {base n : ℕ} → length done ≡ base → length row ≡ n → put_mid base n (put done l) row ≡ put (done ++ row) l
unfolding put
row_put done row l {base} {n} d e = rw (
  take_at done (drop (length done) l) base d,
  drop_at done (drop (length done) l) base d,
  drop-drop n (length done) l,
  length-append,
  e,
  append_assoc,
)

-- ---- of a chart's transitions

-- the timers of the tests of the first i transitions of the rewritten chart
abbrev pub timers_to : Chart → Numbering → ℕ → List ℕ
timers_to c N i = timers_of (all_tests (map (new_transition N) (take i c.transitions)))

pub timers_all : (c : Chart) (N : Numbering) {i : ℕ} → i ≡ length c.transitions → timers_to c N i ≡ (lists_of (rewritten_by N c)).timers
unfolding lists_of rewritten_by
timers_all c N e = rw (e, take-length)

module _ (N : Numbering) (cells : List ℕ) where
  -- the cell of each timer that a test of the list reads is its number
  abbrev Read : (q : ℕ) → List Test → Type 0
  Read q ts = (j : ℕ) → tested j ts ≡ true → (k : ℕ) × Has N q j k × (board_timer (cell_at cells q j) ≡ k)

  row_is : (q : ℕ) (ts : List Test) → Read q ts
      → renamed_row cells q (timers_of ts) ≡ timers_of (new_tests N q ts)
  unfolding renamed_row new_tests filter_map
  row_is q [] h = refl
  row_is q (t ∷ ts) h =
      let x = h t.timer (tested_head t ts) in
      rw (tests_some N q t ts x.1) (ap₂ ◌∷◌ x.2 (row_is q ts (λ j m. h j (tested_tail j t ts m))))

  -- each test of a list that is read has its renamed one
  row_length : (q : ℕ) (ts : List Test) → Read q ts → length (new_tests N q ts) ≡ length ts
  unfolding renamed_row
  row_length q ts h =
      sym (length-map (new_tests N q ts) (λ (t : Test). t.timer)) ∙ ap length (sym (row_is q ts h))
      ∙ length-map (timers_of ts) (λ j. board_timer (cell_at cells q j)) ∙ length-map ts (λ (t : Test). t.timer)

module _ {W : ℕ} {c : Chart} (valid : Valid W c) {N : Numbering} {cells : List ℕ} (cs : CellsOf c N cells) where
  read : {i : ℕ} {r : Transition} → Nth c i r → Read N cells r.source r.tests
  read {i} {r} n j m =
      let x = cs.numbered i r n j m in
      let small : j < 64 = omega (arith, valid.few_timers, tested_below valid j n m) in
      let is : cell_at cells r.source j ≡ x.0 = cell_number valid cs r.source j (nth_valid valid n).source small ∙ ap cell x.1 in
      (x.0, x.1, rw is (timer_yes x.0 (number_small valid cs r.source j x.0 x.1)))

  module _ {i : ℕ} {r : Transition} (n : Nth c i r) where
    new_next : all_tests (map (new_transition N) (take (i + 1) c.transitions))
        ≡ all_tests (map (new_transition N) (take i c.transitions)) ++ new_tests N r.source r.tests
    unfolding new_transition
    new_next = rw (take_next n, map-append) (tests_more (map (new_transition N) (take i c.transitions)) (new_transition N r))

    pub new_length : length (timers_to c N i) ≡ tests_before c i → length (timers_to c N (i + 1)) ≡ tests_before c (i + 1)
    new_length e =
        let new : List Test = new_tests N r.source r.tests in
        let old : List Test = all_tests (map (new_transition N) (take i c.transitions)) in
        let b : length (timers_to c N (i + 1)) ≡ length (old ++ new) =
        ap (λ (ts : List Test). length (timers_of ts)) new_next ∙ length-map (old ++ new) _ in
        let s : length new ≡ length r.tests = row_length N cells r.source r.tests (read n) in
        omega (arith, e, b, s, length-map old (λ (t : Test). t.timer), length-append old new, before_next n)

    -- the next transition's timers stand behind the others
    pub timers_more : {l : List ℕ} → Begins (lists_of c).timers l
        → timers_to c N i ++ renamed_row cells r.source (take (length r.tests) (drop (tests_before c i) l)) ≡ timers_to c N (i + 1)
    timers_more b = rw (timers_next n b, row_is N cells r.source r.tests (read n), new_next, map-append)

-- the timers of the first i transitions' tests stand over the front of the list, and those of the next begin at base
pub record TestsRenamed (c : Chart) (N : Numbering) (before after : List ℕ) (base i : ℕ) : Type 0 where
  pub base_is : base ≡ tests_before c i
  pub long : length (timers_to c N i) ≡ tests_before c i
  pub renamed_are : after ≡ put (timers_to c N i) before

pub tests_none : (c : Chart) (N : Numbering) (l : List ℕ) → TestsRenamed c N l l 0 0
unfolding put all_tests
tests_none c N l = record { base_is = refl; long = refl; renamed_are = refl }

-- the next row is written behind them
pub tests_next : {W : ℕ} {c : Chart} → Valid W c → {N : Numbering} {cells : List ℕ} → CellsOf c N cells → {i : ℕ} {r : Transition} → Nth c i r
    → {timers : List ℕ} → Begins (lists_of c).timers timers → {before now row : List ℕ} {base q count : ℕ} → TestsRenamed c N before now base i
    → q ≡ r.source → count ≡ length r.tests → row ≡ renamed_row cells q (take count (drop base timers))
    → TestsRenamed c N before (put_mid base count now row) (base + count) (i + 1)
tests_next {c = c} valid {N} cs {i} {r} n {timers} b {before} {now} {row} {base} {q} {count} s eq ec is = record {
  base_is = omega (arith, s.base_is, ec, before_next n);
  long = new_length valid cs n s.long;
  renamed_are =
      let read : length (take count (drop base timers)) ≡ count = rw (ec, s.base_is, timers_next n b) (length-map r.tests _) in
      let long : length row ≡ count = ap length is ∙ length_row _ _ _ ∙ read in
      let more : timers_to c N i ++ row ≡ timers_to c N (i + 1) = rw (is, eq, ec, s.base_is) (timers_more valid cs n b) in
      rw (s.renamed_are, ← more) (row_put (timers_to c N i) row before (s.long ∙ sym s.base_is) long);
}
