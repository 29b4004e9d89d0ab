-- The writer refuses with 2 to 8, 17 and 21 only, 4 to 8 at the header or at a transition below 512; with 2 exactly when there is no such version,
-- and with 17 exactly when a chart of version 1 has a constant over 65,535, whatever the room is. What is hard is that no field behind the version
-- gives 2 or 17: their refusals are told apart.
use mathlib.Core.Path.{◌≡◌, refl, sym}
use mathlib.Core.Logic.Iff
use mathlib.Core.Logic.{◌↔◌}
use mathlib.Core.Bool.{Bool, true, false, not}
use mathlib.Core.Option.{Option, none, some}
use mathlib.Core.List.{List}
use Prim.Native.Nat.{ℕ, zero, suc, ◌+◌, ◌≤◌, ◌<◌}
use native.Mathlib.Omega.{arith}
use lib.Dec.{leb, ltb, eqb}
use lib.ListN.{length, get_elem?}
use borrow.Author.Tests.{ltb-true, eq-eqb}
use Rattle.lists.proofs.Bools.{and_left, and_right, same_number}
use Rattle.timer_set.specs.Members.{all_below}
use Rattle.comparison.specs.Comparison.{comparison_of}
use Rattle.model.specs.Answer.{Answer, returned, refused, then, unless, nowhere}
use Rattle.model.specs.Chart.{Chart}
use Rattle.model.specs.Version.{known_version, large_constant, large_in_version1}
use Rattle.model.specs.Refusals.{Refuses}
use Rattle.model.proofs.Answers.{result_refused, refused_same, kept_refused, refuses_result, refuses_this, refuses_unless, refuses_then}
use Rattle.model.proofs.Versions.{large_iff}
use Rattle.file_format.specs.File.{file_of}
use Rattle.chart_lists.specs.Lists.{Lists}
use Rattle.chart_lists.specs.declared.Header.{Header}
use Rattle.list_judging.specs.FromLists.{or_refused, entry_at, limited, entry_below, accepting_from}
use Rattle.list_judging.specs.FromLists.{test_from, tests_from, transition_from, transitions_from, fields_from, chart_from}
use Rattle.list_judging.specs.Refusals.{LargeInVersion1}
use Rattle.list_judging.proofs.Items.{items}
use Rattle.list_judging.proofs.Parts.{accepting_item, next_lowest, accepting_items_lem, test_item, no_state, tests_items}
use Rattle.list_judging.proofs.Parts.{next_tests, transitions_items}
use Rattle.list_judging.proofs.FieldOrder.{unknown_refused}
use Rattle.writer.specs.Writing.{write_into, write_answer}
use Rattle.writer.specs.Refusals.{WriteRefusal}
use Rattle.writer.specs.Refusals.WriteRefusal.{version, cut, constant, room, header, transition}

-- a refusal of the fields behind the version: 3 to 8
record FieldRefusal (n p : ℕ) : Type 0 where
  kind : WriteRefusal n p
  least : 3 ≤ n
  most : n ≤ 8

-- of all fields: 2 where there is no such version, or one of these
data FieldsRefusal (m : Header) : (n p : ℕ) → Type 0 where
  unknown : known_version m.version ≡ false → FieldsRefusal m 2 nowhere
  behind : {n p : ℕ} → FieldRefusal n p → FieldsRefusal m n p

refuses_items : {A : Type 0} (item : (i s : ℕ) → Answer A) (next : ℕ → A → ℕ) (end : ℕ) → ((i s : ℕ) → i < end → Refuses FieldRefusal (item i s))
    → (i s n : ℕ) → i + n ≤ end → Refuses FieldRefusal (items item next i s n)
unfolding items
refuses_items item next end f i s zero h = refuses_result _
refuses_items item next end f i s (suc n) h =
    refuses_then (item i s) _ (f i s (omega arith)) (λ a e.
    refuses_then (items item next (suc i) (next s a) n) _ (refuses_items item next end f (suc i) (next s a) n (omega arith)) (λ xs q.
    refuses_result _))

-- 4 to 8 of the header
of_header : {n : ℕ} → 4 ≤ n → n ≤ 8 → FieldRefusal n nowhere
of_header a b = record { kind = header a b; least = omega arith; most = b }

-- ---- entries

or_refuses : {A : Type 0} (n p : ℕ) (o : Option A) → FieldRefusal n p → Refuses FieldRefusal (or_refused n p o)
or_refuses n p none w = refuses_this w
or_refuses n p (some x) w = refuses_result x

entry_refuses : (l : List ℕ) (k : ℕ) → Refuses FieldRefusal (entry_at l k)
unfolding entry_at
entry_refuses l k = or_refuses 3 nowhere (get_elem? l k) (record { kind = cut; least = omega arith; most = omega arith })

below_refuses : (l : List ℕ) (k limit n p : ℕ) → FieldRefusal n p → Refuses FieldRefusal (entry_below l k limit n p)
unfolding limited
below_refuses l k limit n p w =
    refuses_then (entry_at l k) _ (entry_refuses l k) (λ x e. refuses_unless (ltb x limit) n p (returned x) (λ f. w) (λ t. refuses_result x))

accepting_refuses : (locations : ℕ) (l : List ℕ) (k lo : ℕ) → Refuses FieldRefusal (accepting_item locations l k lo)
unfolding accepting_item
accepting_refuses locations l k lo =
    refuses_then (entry_below l k locations 5 nowhere) _ (below_refuses l k locations 5 nowhere (of_header (omega arith) (omega arith)))
    (λ x e. refuses_unless (leb lo x) 7 nowhere (returned x) (λ f. of_header (omega arith) (omega arith)) (λ t. refuses_result x))

module _ (l : Lists) (locations timers i : ℕ) (h : i < 512) where
  -- 4 to 8 of the transition
  at : {n : ℕ} → 4 ≤ n → n ≤ 8 → FieldRefusal n i
  at a b = record { kind = transition a b h; least = omega arith; most = b }

  test_refuses : (k : ℕ) → Refuses FieldRefusal (test_from l timers i k)
  unfolding test_from
  test_refuses k =
      refuses_then (entry_below l.timers k timers 6 i) _ (below_refuses l.timers k timers 6 i (at (omega arith) (omega arith))) (λ j e.
      refuses_then (entry_at l.codes k) _ (entry_refuses l.codes k) (λ code e.
      refuses_then (or_refused 8 i (comparison_of code)) _ (or_refuses 8 i (comparison_of code) (at (omega arith) (omega arith))) (λ x e.
      refuses_then (entry_at l.constants k) _ (entry_refuses l.constants k) (λ v e. refuses_result _))))

  tests_refuse : (k g : ℕ) → Refuses FieldRefusal (tests_from l timers i k g)
  tests_refuse k g =
      rw (tests_items l timers i k g) (refuses_items (test_item l timers i) no_state (k + g) (λ k s q. test_refuses k) k 0 g (omega arith))

  transition_refuses : (k : ℕ) → Refuses FieldRefusal (transition_from l locations timers i k)
  unfolding transition_from
  transition_refuses k =
      let location : FieldRefusal 5 i = at (omega arith) (omega arith) in
      refuses_then (entry_below l.sources i locations 5 i) _ (below_refuses l.sources i locations 5 i location) (λ p e.
      refuses_then (entry_below l.targets i locations 5 i) _ (below_refuses l.targets i locations 5 i location) (λ q e.
      refuses_then (entry_at l.events i) _ (entry_refuses l.events i) (λ v e.
      refuses_then (entry_at l.starts i) _ (entry_refuses l.starts i) (λ w e.
      refuses_unless (all_below timers w) 6 i _ (λ f. at (omega arith) (omega arith)) (λ t.
      refuses_then (entry_at l.test_counts i) _ (entry_refuses l.test_counts i) (λ g e.
      refuses_unless (leb g 8) 4 i _ (λ f. at (omega arith) (omega arith)) (λ t.
      refuses_then (tests_from l timers i k g) _ (tests_refuse k g) (λ ts e. refuses_result _))))))))

known_refuses : (m : Header) (l : Lists) → known_version m.version ≡ true → Refuses FieldRefusal (fields_from m l)
unfolding fields_from
known_refuses m l known =
    rw known
    (refuses_unless (ltb m.locations 257) 4 nowhere _ (λ f. of_header (omega arith) (omega arith)) (λ t.
    refuses_unless (leb 1 m.locations) 4 nowhere _ (λ f. of_header (omega arith) (omega arith)) (λ t.
    refuses_unless (ltb m.initial m.locations) 5 nowhere _ (λ f. of_header (omega arith) (omega arith)) (λ t.
    refuses_unless (ltb m.timers 65) 4 nowhere _ (λ f. of_header (omega arith) (omega arith)) (λ t.
    refuses_then (accepting_from m.locations l.accepting 0 0 m.accepting) _ accepting (λ xs e.
    refuses_unless (ltb m.transitions 513) 4 nowhere _ (λ f. of_header (omega arith) (omega arith)) (λ t.
    refuses_then (transitions_from l m.locations m.timers 0 0 m.transitions) _ (transitions t) (λ rs e. refuses_result _))))))))
  where
    accepting : Refuses FieldRefusal (accepting_from m.locations l.accepting 0 0 m.accepting)
    accepting =
        rw (accepting_items_lem m.locations l.accepting 0 0 m.accepting)
        (refuses_items (accepting_item m.locations l.accepting) next_lowest m.accepting
        (λ k lo q. accepting_refuses m.locations l.accepting k lo) 0 0 m.accepting (omega arith))

    transitions : ltb m.transitions 513 ≡ true → Refuses FieldRefusal (transitions_from l m.locations m.timers 0 0 m.transitions)
    transitions t =
        rw (transitions_items l m.locations m.timers 0 0 m.transitions)
        (refuses_items (transition_from l m.locations m.timers) next_tests m.transitions
        (λ i k q. transition_refuses l m.locations m.timers i (omega (arith, ltb-true m.transitions 513 t)) k)
        0 0 m.transitions (omega arith))

fields_refuse : (m : Header) (l : Lists) → Refuses (FieldsRefusal m) (fields_from m l)
fields_refuse m l = go (known_version m.version) refl
  where
    go : (b : Bool) → known_version m.version ≡ b → Refuses (FieldsRefusal m) (fields_from m l)
    go true k = record { only = λ n p e. behind ((known_refuses m l k).only n p e) }
    go false k = rw (unknown_refused m l k) (refuses_this (unknown k))

chart_refuses : (m : Header) (l : Lists) → Refuses WriteRefusal (chart_from m l)
unfolding chart_from
chart_refuses m l =
    refuses_then (fields_from m l) _ (record { only = λ n p e. kind_of ((fields_refuse m l).only n p e) }) (λ c e.
    refuses_unless (not (large_in_version1 c)) 17 nowhere (returned c) (λ f. constant) (λ t. refuses_result c))
  where
    kind_of : {n p : ℕ} → FieldsRefusal m n p → WriteRefusal n p
    kind_of (unknown h) = version
    kind_of (behind h) = h.kind

into_refuses : (space : ℕ) (m : Header) (l : Lists) → Refuses WriteRefusal (write_into space m l)
unfolding write_into
into_refuses space m l =
    refuses_then (chart_from m l) _ (chart_refuses m l) (λ c e.
    refuses_unless (leb (length (file_of c)) space) 21 nowhere (returned c) (λ f. room) (λ t. refuses_result c))

pub write_refusals : (space : ℕ) (m : Header) (l : Lists) (n p : ℕ) → write_answer space m l ≡ refused n p → WriteRefusal n p
unfolding write_answer
write_refusals space m l =
    (refuses_then (write_into space m l) _ (into_refuses space m l) (λ c e. refuses_result (length (file_of c)))).only

-- 18 is the counter board's
pub write_never_18 : (space : ℕ) (m : Header) (l : Lists) (n p : ℕ) → n ≡ 18 → write_answer space m l ≡ refused n p → ⊥
write_never_18 space m l n p q e = go n p q (write_refusals space m l n p e)
  where
    go : (k i : ℕ) → k ≡ 18 → WriteRefusal k i → ⊥
    go k i q version = omega (arith, q)
    go k i q cut = omega (arith, q)
    go k i q constant = omega (arith, q)
    go k i q room = omega (arith, q)
    go k i q (header lo hi) = omega (arith, q)
    go k i q (transition lo hi b) = omega (arith, q)

-- ---- exactly when 2, and exactly when 17

-- a last test with the refusal k leaves the other refusals as they are
other_refusal : {A : Type 0} (x : Answer A) (passes : A → Bool) (k q : ℕ) {n p : ℕ} → (n ≡ k → ⊥)
    → (then x (λ a. unless (passes a) k q (returned a)) ≡ refused n p) ↔ (x ≡ refused n p)
other_refusal (refused m r) passes k q h = Iff.rfl
other_refusal (returned a) passes k q {n} {p} h = (λ e. absurd (go (passes a) e), λ e. absurd (result_refused refl e))
  where
    go : (b : Bool) → unless b k q (returned a) ≡ refused n p → ⊥
    go true e = result_refused refl e
    go false e = h (sym (refused_same e).0)

-- what the call refuses before 21 is what the judgement of the chart refuses
answer_refused : (space : ℕ) (m : Header) (l : Lists) {n p : ℕ} → (n ≡ 21 → ⊥)
    → (write_answer space m l ≡ refused n p) ↔ (chart_from m l ≡ refused n p)
unfolding write_answer write_into
answer_refused space m l h =
    Iff.trans (kept_refused (write_into space m l) _, λ e. rw e) (other_refusal (chart_from m l) (λ c. leb (length (file_of c)) space) 21 nowhere h)

module _ (m : Header) (l : Lists) where
  chart_17 : (chart_from m l ≡ refused 17 nowhere) ↔ LargeInVersion1 m l
  unfolding chart_from large_in_version1
  chart_17 = (go (fields_from m l) refl, λ h. rw (h.is, eq-eqb h.chart.version 1 h.version, (large_iff h.chart).1 h.large))
    where
      no_field : {n p : ℕ} → n ≡ 17 → FieldsRefusal m n p → ⊥
      no_field e (unknown h) = omega (arith, e)
      no_field e (behind h) = omega (arith, e, h.most)

      go : (x : Answer Chart) → fields_from m l ≡ x → then x (λ c. unless (not (large_in_version1 c)) 17 nowhere (returned c)) ≡ refused 17 nowhere
          → LargeInVersion1 m l
      go (refused n p) f q = absurd (no_field (refused_same q).0 ((fields_refuse m l).only n p f))
      go (returned c) f q = judged (large_in_version1 c) refl q
        where
          judged : (b : Bool) → large_in_version1 c ≡ b → unless (not b) 17 nowhere (returned c) ≡ refused 17 nowhere → LargeInVersion1 m l
          judged false g q = absurd (result_refused refl q)
          judged true g q = record {
            chart = c;
            is = f;
            version = same_number (and_left (eqb c.version 1) (large_constant c) g);
            large = (large_iff c).0 (and_right (eqb c.version 1) (large_constant c) g);
          }

  fields_2 : (fields_from m l ≡ refused 2 nowhere) ↔ (known_version m.version ≡ false)
  fields_2 = (λ e. go refl ((fields_refuse m l).only 2 nowhere e), unknown_refused m l)
    where
      go : {n p : ℕ} → n ≡ 2 → FieldsRefusal m n p → known_version m.version ≡ false
      go e (unknown h) = h
      go e (behind h) = absurd (omega (arith, e, h.least))

  chart_2 : (chart_from m l ≡ refused 2 nowhere) ↔ (known_version m.version ≡ false)
  unfolding chart_from
  chart_2 = Iff.trans (other_refusal (fields_from m l) (λ c. not (large_in_version1 c)) 17 nowhere (λ e. omega (arith, e))) fields_2

pub write_2 : (space : ℕ) (m : Header) (l : Lists) → (write_answer space m l ≡ refused 2 nowhere) ↔ (known_version m.version ≡ false)
write_2 space m l = Iff.trans (answer_refused space m l (λ e. omega (arith, e))) (chart_2 m l)

pub write_17 : (space : ℕ) (m : Header) (l : Lists) → (write_answer space m l ≡ refused 17 nowhere) ↔ LargeInVersion1 m l
write_17 space m l = Iff.trans (answer_refused space m l (λ e. omega (arith, e))) (chart_17 m l)
