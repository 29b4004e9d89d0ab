-- The file of the chart that the lists describe is what the code writes for it, part by part.
use mathlib.Core.Path.{◌≡◌, refl, sym, ap, ◌∙◌, subst}
use mathlib.Core.Bool.{false, ◌&&◌}
use mathlib.Core.Option.{some}
use mathlib.Core.List.{List, ◌++◌, map, append_assoc}
use Prim.Native.Nat.{ℕ, ◌+◌, ◌-◌, ◌*◌, ◌^◌, ◌≤◌, ◌<◌}
use native.Mathlib.Nat.{zero-add}
use native.Mathlib.Omega.{arith}
use lib.Dec.{eqb}
use lib.ListN.{length, get_or, get_elem?, length-append}
use Rattle.lists.specs.Lists.{sum_of}
use Rattle.lists.specs.Rising.{All}
use Rattle.lists.proofs.Growing.{gather_length}
use Rattle.lists.proofs.Nth.{get_d_nth}
use Rattle.model.specs.Answer.{Answer, returned}
use Rattle.model.specs.Chart.{Test, Transition, Chart}
use Rattle.model.specs.Version.{width_of, large_constant, large_in_version1}
use Rattle.model.proofs.Versions.{tests_most, by_version, small_constants}
use Rattle.model.proofs.Answers.{result_same}
use Rattle.file_format.specs.Parse.{digits, write_all}
use Rattle.file_format.specs.Body.{write_transition, write_header, write_body}
use Rattle.file_format.specs.File.{write_file, file_of}
use Rattle.file_format.specs.Lengths.{transition_length, body_length, file_length}
use Rattle.file_format.proofs.Lengths.{length_digits, length_transition, length_all, length_file}
use Rattle.chart_lists.specs.Lists.{Lists}
use Rattle.chart_lists.specs.declared.Header.{Header}
use Rattle.list_judging.specs.FromLists.{transitions_from}
use Rattle.list_judging.specs.Parts.{total_sizes, check_transitions}
use Rattle.list_judging.proofs.Items.{each_nth, each_room}
use Rattle.list_judging.proofs.Parts.{accepting_item, next_lowest}
use Rattle.list_judging.proofs.WholeChart.{lengths_sum}
use Rattle.list_judging.proofs.TransitionOf.{accepting_of}
use Rattle.list_judging.proofs.Turns.{transitions_most}
use Rattle.list_judging.proofs.ChartOf.{ChartOf, chart_of_lem, from_fields, each_accepted, accepted_length, transition_count}
use Rattle.writer.specs.Bytes.{number_bytes, front_bytes, Room, records, Fit, Writable}
use Rattle.writer.proofs.FieldBytes.{gather_all}

-- the parts of a file one after another
written_parts : (c : Chart) (n : ℕ) (m : Header) → n ≡ length (write_body (width_of c.version) c)
    → m.version ≡ c.version → m.locations ≡ c.locations → m.initial ≡ c.initial → m.timers ≡ c.timers
    → m.accepting ≡ length c.accepting → m.transitions ≡ length c.transitions
    → ((front_bytes n m ++ write_all (digits 2) c.accepting) ++ digits 2 m.transitions) ++ records (width_of m.version) c.transitions
    ≡ file_of c
unfolding front_bytes file_of write_file write_body write_header records
written_parts c n m e v a b d f g = rw (e, v, a, b, d, f, g) (simp append_assoc)

-- how long they are
module _ (n : ℕ) (m : Header) where
  pub length_front : 12 ≡ length (front_bytes n m)
  unfolding front_bytes
  length_front = simp (length-append, length_digits)

  pub length_accepted : (l : List ℕ) → 12 + 2 * m.accepting ≡ length (front_bytes n m ++ number_bytes 2 l m.accepting)
  unfolding number_bytes
  length_accepted l =
      let numbers = gather_length (λ i. digits 2 (get_or l i 0)) 2 (λ i. length_digits 2 (get_or l i 0)) m.accepting in
      simp length-append (omega (arith, length_front, numbers))

  pub length_counted : (l : List ℕ)
      → 12 + 2 * m.accepting + 2 ≡ length ((front_bytes n m ++ number_bytes 2 l m.accepting) ++ digits 2 m.transitions)
  length_counted l =
      simp (length-append, length_digits) (omega (arith, length_accepted l, length-append (front_bytes n m) (number_bytes 2 l m.accepting)))

module _ (m : Header) (l : Lists) (c : Chart) (h : ChartOf m l c) where
  -- ---- accepting locations

  accepting_bytes : number_bytes 2 l.accepting m.accepting ≡ write_all (digits 2) c.accepting
  unfolding number_bytes
  accepting_bytes =
      let entry = each_nth (accepting_item m.locations l.accepting) next_lowest (λ k x. get_elem? l.accepting k ≡ some x)
      (λ k lo x e. (accepting_of m.locations l.accepting k lo x e).0) 0 0 c.accepting (each_accepted m l c h) in
      rw (← accepted_length m l c h)
      (gather_all (digits 2) c.accepting (λ i. digits 2 (get_or l.accepting i 0))
      (λ i x n. rw (← zero-add i) (ap (digits 2) (get_d_nth l.accepting (0 + i) 0 (entry i x n)))))

  accepting_room : m.accepting ≤ length l.accepting
  accepting_room =
      let room = each_room (accepting_item m.locations l.accepting) next_lowest (λ x. x) l.accepting
      (λ k lo x e. (accepting_of m.locations l.accepting k lo x e).0) 0 0 c.accepting (each_accepted m l c h) in
      omega (arith, accepted_length m l c h, room)

  -- ---- transitions

  abbrev listed : Answer (List Transition)
  listed = transitions_from l m.locations m.timers 0 0 m.transitions

  transitions_are : listed ≡ returned c.transitions
  transitions_are = h.transitions

  -- the version of the chart and its width
  abbrev W : ℕ
  W = width_of m.version

  records_length : length (records W c.transitions) ≡ sum_of (map (transition_length W) c.transitions)
  unfolding records
  records_length = length_all (write_transition W) (transition_length W) (length_transition W) c.transitions

  file_size : length (file_of c) ≡ 14 + 2 * m.accepting + length (records W c.transitions)
  unfolding file_of file_length body_length
  file_size =
      let whole : length (file_of c) ≡ file_length W c = subst (λ v. length (file_of c) ≡ file_length (width_of v) c) h.version (length_file _ c) in
      omega (arith, whole, records_length, accepted_length m l c h)

  records_room : (room : ℕ) → length (records W c.transitions) ≤ room → Room (records W) listed room
  records_room room r = record { item = c.transitions; is = transitions_are; fits = r }

  records_most : length (records W c.transitions) ≤ 61952
  unfolding check_transitions
  records_most =
      let most = transitions_most l m.locations m.timers m.transitions {z = total_sizes c.transitions} (rw h.transitions) in
      let tests = (tests_most m.version (total_sizes c.transitions).tests 4096 refl (omega (arith, most.1, h.few_transitions))).0 in
      omega (arith, records_length, lengths_sum W c.transitions, h.few_transitions, transition_count m l c h, most.0, tests)

  -- the constants fit two bytes where the version gives them two
  module _ (small : large_in_version1 c ≡ false) where
    abbrev Fitting : List Transition → Type 0
    Fitting rs = All (λ (r : Transition). All (λ (t : Test). t.constant < 256 ^ 2) r.tests) rs

    narrow : W ≡ 2 → Fitting c.transitions
    unfolding large_in_version1
    narrow = by_version (λ w. w ≡ 2 → Fitting c.transitions) m.version
        (λ e two. small_constants c (subst (λ v. (eqb v 1 && large_constant c) ≡ false) (h.version ∙ e) small))
        (λ e two. absurd (omega (arith, two)))

    records_fit : W ≡ 2 → Fit 2 listed
    records_fit two rs e = subst Fitting (result_same (sym transitions_are ∙ e)) (narrow two)

  -- ---- the parts of the file

  body_size : length (file_of c) - 5 ≡ length (write_body (width_of c.version) c)
  unfolding file_of write_file
  body_size = simp (length-append, length_digits) (omega arith)

  file_parts : {n : ℕ} → n ≡ length (file_of c)
      → ((front_bytes (n - 5) m ++ number_bytes 2 l.accepting m.accepting) ++ digits 2 m.transitions) ++ records W c.transitions
      ≡ file_of c
  file_parts e =
      rw (e, accepting_bytes)
      (written_parts c _ m body_size (sym h.version) (sym h.locations) (sym h.initial) (sym h.timers) (sym (accepted_length m l c h))
      (sym (transition_count m l c h)))

-- ---- what the writer of the file knows

pub record FileRoom (m : Header) (l : Lists) (n room : ℕ) : Type 0 where
  pub rest : ℕ
  pub size : n ≡ 14 + 2 * m.accepting + rest
  pub few : rest ≤ 61952
  pub fits : n ≤ room
  pub accepting : m.accepting ≤ length l.accepting
  pub records_fit : (room' : ℕ) → rest ≤ room'
      → Room (records (width_of m.version)) (transitions_from l m.locations m.timers 0 0 m.transitions) room'

module _ (m : Header) (l : Lists) (n room : ℕ) (j : Writable m l n room) where
  writable_chart : ChartOf m l j.chart
  writable_chart = chart_of_lem m l j.chart (from_fields m l j.chart j.is).0

  pub writable_room : FileRoom m l n room
  writable_room = record {
    rest = length (records (width_of m.version) j.chart.transitions);
    size = j.size ∙ file_size m l j.chart writable_chart;
    few = records_most m l j.chart writable_chart;
    fits = j.fits;
    accepting = accepting_room m l j.chart writable_chart;
    records_fit = records_room m l j.chart writable_chart;
  }

  pub writable_fit : width_of m.version ≡ 2 → Fit 2 (transitions_from l m.locations m.timers 0 0 m.transitions)
  writable_fit = records_fit m l j.chart writable_chart (from_fields m l j.chart j.is).1

  pub writable_transitions : transitions_from l m.locations m.timers 0 0 m.transitions ≡ returned j.chart.transitions
  writable_transitions = transitions_are m l j.chart writable_chart

  pub writable_parts : ((front_bytes (n - 5) m ++ number_bytes 2 l.accepting m.accepting) ++ digits 2 m.transitions)
      ++ records (width_of m.version) j.chart.transitions
      ≡ file_of j.chart
  writable_parts = file_parts m l j.chart writable_chart j.size
