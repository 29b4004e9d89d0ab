-- The answer of a numbering, taken apart: the judgement's refusal, or the chart that it accepts with its numbers.
use mathlib.Core.Path.{◌≡◌, refl, sym, ap, ap₂, ◌∙◌, subst}
use mathlib.Core.Bool.{Bool}
use mathlib.Core.List.{List}
use Prim.Native.Nat.{ℕ, ◌≤◌}
use native.Mathlib.Omega.{arith}
use lib.ListN.{length, take}
use Rattle.model.specs.Answer.{Answer, returned, refused}
use Rattle.model.specs.Chart.{Chart}
use Rattle.model.specs.Live.{live_sets, live_rounds}
use Rattle.model.specs.Spare.{reached_part}
use Rattle.model.specs.Twins.{merged_sets}
use Rattle.model.specs.FirstFit.{used}
use Rattle.model.specs.Floor.{floor, searched}
use Rattle.model.proofs.Answers.{result_refused, not_result, result_same, refused_same}
use Rattle.model.proofs.Twins.{merged_each}
use Rattle.chart_lists.specs.Header.{header_of}
use Rattle.chart_lists.specs.declared.Header.{Header}
use Rattle.chart_lists.specs.Begins.{Begins}
use Rattle.chart_lists.proofs.Begins.{begins_take, begins_part, begins_room}
use Rattle.chart_lists.proofs.Fronts.{locations_are}
use Rattle.families.proofs.ChartPairs.{live_each}
use Rattle.judgement.specs.Judging.{judged_in}
use Rattle.numbering.specs.declared.FileNumbers.{FileNumbers}
use Rattle.numbering.specs.FileNumbers.{file_numbers, numbered_in, ListsNumbered}

-- ---- of a chart

module _ (c : Chart) {n : ℕ} (is : n ≡ c.locations) {merged : List ℕ} (b : Begins (merged_sets c) merged) where
  merged_each_is : n ≡ length (merged_sets c)
  merged_each_is = is ∙ sym (merged_each c)

  -- the front of the list that is looked at again is the merged sets
  pub merged_front : take n merged ≡ merged_sets c
  merged_front = begins_take b merged_each_is

  pub merged_part : length (take n merged) ≡ n
  merged_part = begins_part b merged_each_is

module _ (c : Chart) {n : ℕ} (is : n ≡ c.locations) {live : List ℕ} (b : Begins (live_sets c) live) where
  each : n ≡ length (live_sets c)
  each = is ∙ sym (live_each c)

  -- the front of the list that is looked at again is the live sets
  pub live_front : take n live ≡ live_sets c
  live_front = begins_take b each

  pub live_part : length (take n live) ≡ n
  live_part = begins_part b each

  pub live_room : n ≤ length live
  live_room = omega (arith, each, begins_room b)

module _ (c : Chart) {m : Header} (is : m ≡ header_of c) where
  -- the part of a chart that counts has all its locations
  pub part_are : m.locations ≡ (reached_part c).locations
  unfolding reached_part
  part_are = locations_are c is

  -- the header of the part, from that of the chart
  pub part_header : {n : ℕ} → n ≡ length (reached_part c).transitions → record {
    version = m.version;
    locations = m.locations;
    initial = m.initial;
    timers = m.timers;
    accepting = m.accepting;
    transitions = n;
  } ≡ header_of (reached_part c)
  unfolding header_of reached_part
  part_header e = rw (is, e)

  pub chart_numbers : {u f n : ℕ} {s : Bool} → u ≡ used (reached_part c) → f ≡ floor (reached_part c) → s ≡ searched (reached_part c)
      → n ≡ live_rounds (reached_part c)
      → ◌≡◌ {A = FileNumbers} (record { header = m; used = u; floor = f; searched = s; rounds = n }) (file_numbers c)
  unfolding file_numbers
  chart_numbers e g h n = rw (is, e, g, h, n)

-- ---- of a file

-- the chart of a file that is numbered, and its numbers
pub record FileChart (bs : List ℕ) (x : FileNumbers) : Type 0 where
  pub chart : Chart
  pub judged : judged_in bs ≡ returned chart
  pub numbers_are : x ≡ file_numbers chart
  pub header_is : x.header ≡ header_of chart
  pub used_is : x.used ≡ used (reached_part chart)
  pub floor_is : x.floor ≡ floor (reached_part chart)
  pub searched_is : x.searched ≡ searched (reached_part chart)
  pub rounds_is : x.rounds ≡ live_rounds (reached_part chart)

module _ (bs : List ℕ) where
  -- what is answered, by the judgement
  module _ {n p : ℕ} (e : judged_in bs ≡ refused n p) where
    pub refused_answer : refused n p ≡ numbered_in bs
    unfolding numbered_in
    refused_answer = rw e

    pub refused_none : {c : Chart} → judged_in bs ≡ returned c → ⊥
    refused_none j = result_refused j e

  module _ {c : Chart} (e : judged_in bs ≡ returned c) where
    pub judged_answer : {x : FileNumbers} → x ≡ file_numbers c → returned x ≡ numbered_in bs
    unfolding numbered_in
    judged_answer f = rw (e, f)

    pub judged_lists_lem : {live cells : List ℕ} → ListsNumbered c live cells → (d : Chart) → judged_in bs ≡ returned d → ListsNumbered d live cells
    judged_lists_lem {live} {cells} l d j = subst (λ (y : Chart). ListsNumbered y live cells) (result_same (sym e ∙ j)) l

  -- and the other way
  pub file_chart : {x : FileNumbers} → returned x ≡ numbered_in bs → FileChart bs x
  unfolding numbered_in file_numbers
  file_chart {x} e = go (judged_in bs) refl
    where
      go : (y : Answer Chart) → judged_in bs ≡ y → FileChart bs x
      go (returned c) j =
          let f : returned x ≡ returned (file_numbers c) = rw j at e in
          let g = result_same f in
          record {
            chart = c;
            judged = j;
            numbers_are = g;
            header_is = ap (λ (y : FileNumbers). y.header) g;
            used_is = ap (λ (y : FileNumbers). y.used) g;
            floor_is = ap (λ (y : FileNumbers). y.floor) g;
            searched_is = ap (λ (y : FileNumbers). y.searched) g;
            rounds_is = ap (λ (y : FileNumbers). y.rounds) g;
          }
      go (refused n p) j = let f : returned x ≡ refused n p = rw j at e in absurd (not_result (sym f))

  pub file_refused : {n p : ℕ} → refused n p ≡ numbered_in bs → judged_in bs ≡ refused n p
  unfolding numbered_in
  file_refused {n} {p} e = go (judged_in bs) refl
    where
      go : (y : Answer Chart) → judged_in bs ≡ y → judged_in bs ≡ refused n p
      go (returned c) j = let f : refused n p ≡ returned (file_numbers c) = rw j at e in absurd (not_result f)
      go (refused m q) j =
          let f : ◌≡◌ {A = Answer FileNumbers} (refused n p) (refused m q) = rw j at e in
          let s = refused_same f in
          j ∙ sym (ap₂ refused s.0 s.1)
