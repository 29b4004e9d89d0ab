-- The whole chart by its parts: that some constant is large by the first entries of their list, the length of its file by the sizes of its
-- transitions, and the judgement of all of it.
use mathlib.Core.Path.{◌≡◌, sym, ap, ◌∙◌}
use mathlib.Core.Bool.{not, ◌&&◌}
use mathlib.Core.List.{List, [], ◌∷◌, map}
use Prim.Native.Nat.{ℕ, ◌+◌, ◌*◌, ◌≤◌}
use native.Mathlib.Nat.{mul-add}
use native.Mathlib.Omega.{arith}
use lib.Dec.{ltb, eqb}
use lib.ListN.{length, length-map}
use Rattle.lists.specs.Lists.{any_of, sum_of}
use Rattle.model.specs.Answer.{Answer, returned, then, unless, nowhere}
use Rattle.model.specs.Chart.{Test, Transition, Chart}
use Rattle.model.specs.Version.{width_of, large_transition, large_constant, large_in_version1}
use Rattle.file_format.specs.Body.{record_length}
use Rattle.file_format.specs.File.{file_of}
use Rattle.file_format.specs.Lengths.{transition_length, body_length, file_length}
use Rattle.file_format.proofs.Lengths.{length_file}
use Rattle.chart_lists.specs.Lists.{Lists, all_tests, constants_of}
use Rattle.chart_lists.specs.Begins.{Begins}
use Rattle.chart_lists.specs.Large.{large_among}
use Rattle.chart_lists.specs.declared.Header.{Header}
use Rattle.chart_lists.proofs.Begins.{begins_room}
use Rattle.chart_lists.proofs.Large.{large_among_lem}
use Rattle.chart_lists.proofs.Tests.{tests_sum}
use Rattle.list_judging.specs.declared.transition.Sizes.{Sizes}
use Rattle.list_judging.specs.FromLists.{transitions_from, chart_with, fields_from, chart_from}
use Rattle.list_judging.specs.Parts.{check_header, check_accepting, total_sizes, check_transitions, check_chart}
use Rattle.model.proofs.Answers.{then_then, then_unless, then_known, kept_result}
use Rattle.list_judging.proofs.Parts.{transitions_each, transitions_length}
use Rattle.list_judging.proofs.FromHolds.{tests_begin}
use Rattle.list_judging.proofs.Turns.{transitions_most}

-- ---- large constants

-- the constants of transitions are the first entries of their list
module _ (l : Lists) (locations timers n : ℕ) (rs : List Transition) (e : transitions_from l locations timers 0 0 n ≡ returned rs) where
  constants_begin : Begins (constants_of (all_tests rs)) l.constants
  constants_begin =
      tests_begin l locations timers (λ t. t.constant) l.constants (λ k t h. h.constant) 0 0 rs
      (transitions_each l locations timers 0 0 n rs e)

  -- as many as there are tests
  constants_count : (total_sizes rs).tests ≡ length (constants_of (all_tests rs))
  unfolding total_sizes
  constants_count = sym (tests_sum rs) ∙ sym (length-map (all_tests rs) (λ (t : Test). t.constant))

  constants_room : (total_sizes rs).tests ≤ length l.constants
  constants_room = omega (arith, constants_count, begins_room constants_begin)

  large_in : any_of large_transition rs ≡ large_among (total_sizes rs).tests l.constants
  large_in = large_among_lem rs constants_begin constants_count

pub sizes_room : (l : Lists) (locations timers n : ℕ) {z : Sizes} → check_transitions l locations timers n ≡ returned z
    → z.tests ≤ length l.constants
unfolding check_transitions
sizes_room l locations timers n e =
    let x = kept_result (transitions_from l locations timers 0 0 n) _ e in
    omega (arith, constants_room l locations timers n x.0 x.1, ap (λ (z : Sizes). z.tests) x.2)

-- ---- the length of the file

-- of the records, with their own lengths
pub lengths_sum : (W : ℕ) (rs : List Transition) → sum_of (map (transition_length W) rs)
    ≡ 9 * length rs + (total_sizes rs).starts + (2 + W) * (total_sizes rs).tests
unfolding sum_of transition_length record_length total_sizes
lengths_sum W [] = omega arith
lengths_sum W (r ∷ rs) =
    let more = mul-add (2 + W) (length r.tests) (total_sizes rs).tests in
    omega (arith, lengths_sum W rs, more)

pub file_length_lem : (c : Chart) → length (file_of c)
    ≡ 14 + 2 * length c.accepting
    + (9 * length c.transitions + (total_sizes c.transitions).starts + (2 + width_of c.version) * (total_sizes c.transitions).tests)
unfolding file_of file_length body_length
file_length_lem c = omega (arith, length_file (width_of c.version) c, lengths_sum (width_of c.version) c.transitions)

-- ---- the judgement

-- what is judged after the fields, by what was kept of them
unfoldable pub after_fields : Header → (constants : List ℕ) → (accepting : ℕ) → Sizes → Answer ℕ
after_fields m constants accepting z =
    unless (not (eqb m.version 1 && large_among z.tests constants)) 17 nowhere
    (returned (14 + 2 * accepting + (9 * m.transitions + z.starts + (2 + width_of m.version) * z.tests)))

module _ (m : Header) (l : Lists) where
  after_fields_lem : (xs : List ℕ) → then (transitions_from l m.locations m.timers 0 0 m.transitions) (λ rs.
      unless (not (large_in_version1 (chart_with m xs rs))) 17 nowhere (returned (length (file_of (chart_with m xs rs)))))
      ≡ then (transitions_from l m.locations m.timers 0 0 m.transitions) (λ rs. after_fields m l.constants (length xs) (total_sizes rs))
  unfolding after_fields large_in_version1 large_constant
  after_fields_lem xs = then_known (transitions_from l m.locations m.timers 0 0 m.transitions) _ _ (λ rs e.
      rw (
        large_in l m.locations m.timers m.transitions rs e,
        file_length_lem (chart_with m xs rs),
        transitions_length l m.locations m.timers 0 0 m.transitions rs e,
      ))

  pub check_chart_lem : check_chart m l
      ≡ then (check_header m) (λ z.
      then (check_accepting m.locations l.accepting m.accepting) (λ a.
      unless (ltb m.transitions 513) 4 nowhere (
      then (check_transitions l m.locations m.timers m.transitions) (λ z.
      after_fields m l.constants a z))))
  unfolding check_chart chart_from fields_from check_header check_accepting check_transitions
  check_chart_lem =
      simp (then_then, then_unless, after_fields_lem)

-- what the code's judgement of the whole goes by
pub ruleset whole_chart = (check_chart_lem, sizes_room, transitions_most)
