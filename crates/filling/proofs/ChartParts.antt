-- The parts of a file that holds a chart: its header and its transitions; and the room that lists with room for the chart have for them.
use mathlib.Core.Path.{◌≡◌, sym, ap, ◌∙◌, subst}
use mathlib.Core.Bool.{Bool, true, ◌&&◌}
use mathlib.Core.List.{List}
use Prim.Native.Nat.{ℕ, ◌≤◌}
use native.Mathlib.Omega.{arith}
use lib.Dec.{leb}
use lib.ListN.{length}
use borrow.Author.Tests.{leb-true}
use Rattle.lists.proofs.Bools.{and_left, and_right}
use Rattle.model.specs.Answer.{returned}
use Rattle.model.specs.Chart.{Chart}
use Rattle.model.specs.Version.{known_version, width_of}
use Rattle.chart_lists.specs.declared.Header.{Header}
use Rattle.chart_lists.specs.Lists.{Lists, lists_of, room_for}
use Rattle.chart_lists.proofs.Holds.{sources_each, targets_each, events_each, starts_each, test_counts_each, timers_each, codes_each, constants_each}
use Rattle.file_format.specs.Parse.{value}
use Rattle.file_format.specs.Body.{FileHeader, read_header, read_transitions, is_end, chart_of, read_body}
use Rattle.file_format.specs.File.{read_frame, judge_frame, read_file, chart_in}
use Rattle.file_format.proofs.Parsed.{bind_value, guard_value, same_value, same_rest, kept_value}
use Rattle.file_format.proofs.Answers.{answered_result}
use Rattle.file_judging.specs.Parts.{chart_header, skip_header}
use Rattle.file_judging.proofs.HeaderParts.{header_few}
use Rattle.file_judging.proofs.JudgeParts.{transitions_length}
use Rattle.filling.specs.Filling.{RoomToFill}
use Rattle.filling.specs.Filling.RoomToFill.{for_every, for_this}
use Rattle.filling.specs.Parts.{AcceptingFit, TestsFit}
use Rattle.filling.specs.Parts.AcceptingFit.{of_any as accepting-any, of_this}
use Rattle.filling.specs.Parts.TestsFit.{of_any as tests_any, of_these}

-- ---- room, list by list

pub record Fits (xs l : Lists) : Type 0 where
  pub accepting : length xs.accepting ≤ length l.accepting
  pub sources : length xs.sources ≤ length l.sources
  pub targets : length xs.targets ≤ length l.targets
  pub events : length xs.events ≤ length l.events
  pub starts : length xs.starts ≤ length l.starts
  pub test_counts : length xs.test_counts ≤ length l.test_counts
  pub timers : length xs.timers ≤ length l.timers
  pub codes : length xs.codes ≤ length l.codes
  pub constants : length xs.constants ≤ length l.constants

first_fits : (n a : ℕ) (b : Bool) → (leb n a && b) ≡ true → n ≤ a
first_fits n a b h = leb-true n a (and_left (leb n a) b h)

pub room_fits : (xs l : Lists) → room_for xs l ≡ true → Fits xs l
unfolding room_for
room_fits xs l h₁ =
    let h₂ = and_right (leb (length xs.accepting) (length l.accepting)) _ h₁ in
    let h₃ = and_right (leb (length xs.sources) (length l.sources)) _ h₂ in
    let h₄ = and_right (leb (length xs.targets) (length l.targets)) _ h₃ in
    let h₅ = and_right (leb (length xs.events) (length l.events)) _ h₄ in
    let h₆ = and_right (leb (length xs.starts) (length l.starts)) _ h₅ in
    let h₇ = and_right (leb (length xs.test_counts) (length l.test_counts)) _ h₆ in
    let h₈ = and_right (leb (length xs.timers) (length l.timers)) _ h₇ in
    let h₉ = and_right (leb (length xs.codes) (length l.codes)) _ h₈ in
    record {
      accepting = first_fits _ _ _ h₁;
      sources = first_fits _ _ _ h₂;
      targets = first_fits _ _ _ h₃;
      events = first_fits _ _ _ h₄;
      starts = first_fits _ _ _ h₅;
      test_counts = first_fits _ _ _ h₆;
      timers = first_fits _ _ _ h₇;
      codes = first_fits _ _ _ h₈;
      constants = leb-true _ _ h₉;
    }

-- ---- the parts of a file that holds a chart

pub record FileParts (W : ℕ) (body : List ℕ) (c : Chart) : Type 0 where
  pub header : FileHeader
  pub rest : List ℕ
  pub header_is : read_header body ≡ value header rest
  pub end : List ℕ
  pub transitions_are : read_transitions W header.locations header.timers header.count rest ≡ value c.transitions end
  pub accepting_are : header.accepting ≡ c.accepting

module _ (s : List ℕ) {v : ℕ} {body : List ℕ} (e₀ : judge_frame known_version (read_frame s) ≡ returned (record { version = v; body = body })) where
  module _ {c : Chart} (e : chart_in s ≡ returned c) where
    pub file_parts : FileParts (width_of v) body c
    unfolding chart_in read_file read_body chart_of
    file_parts =
        let w = answered_result (read_body v (width_of v) body) (rw e₀ at e) in
        let i = bind_value (read_header body) _ c w.0 w.1 in
        let j = bind_value (read_transitions (width_of v) i.0.locations i.0.timers i.0.count i.1) _ c w.0 i.3 in
        let g = guard_value (is_end j.1) 3 _ _ j.3 in
        let q = same_value g.1 in
        record {
          header = i.0;
          rest = i.1;
          header_is = i.2;
          end = j.1;
          transitions_are = rw (ap (λ (x : Chart). x.transitions) q) at j.2;
          accepting_are = ap (λ (x : Chart). x.accepting) q;
        }

    -- with the header as the code found it
    module _ {m : Header} {left : List ℕ} (e₁ : skip_header v body ≡ value m left) where
      same_header : (chart_header v file_parts.header ≡ m) × (file_parts.rest ≡ left)
      unfolding skip_header
      same_header = let k = kept_value (chart_header v) (read_header body) e₁ in
          let q = sym file_parts.header_is ∙ k.1 in
          (ap (chart_header v) (same_value q) ∙ k.2, same_rest q)

      pub transitions_are : (end : List ℕ)
          × (read_transitions (width_of m.version) m.locations m.timers m.transitions left ≡ value c.transitions end)
      unfolding chart_header
      transitions_are =
          let p = file_parts in
          let Reads : Header → Type 0 = λ y.
          read_transitions (width_of y.version) y.locations y.timers y.transitions p.rest ≡ value c.transitions p.end in
          let z : Reads m = subst Reads same_header.0 p.transitions_are in
          (p.end, rw same_header.1 at z)

      pub count_is : m.transitions ≡ length c.transitions
      count_is = sym (transitions_length _ _ _ _ _ transitions_are.1)

  -- ---- the room that the parts of the walk ask for

  module _ {l : Lists} (room : RoomToFill s l) where
    pub accepting_fit : AcceptingFit body (length l.accepting)
    unfolding lists_of
    accepting_fit = go room
      where
        go : RoomToFill s l → AcceptingFit body (length l.accepting)
        go (for_every r) = accepting-any r.accepting
        go (for_this c e r) = let p = file_parts e in
            of_this p.header p.rest p.header_is (rw p.accepting_are (room_fits (lists_of c) l r).accepting)

    module _ {m : Header} {left : List ℕ} (e₁ : skip_header v body ≡ value m left) where
      -- room for one entry of each transition
      abbrev Each : ℕ → Type 0
      Each n =
          (n ≤ length l.sources) × (n ≤ length l.targets) × (n ≤ length l.events) × (n ≤ length l.starts) × (n ≤ length l.test_counts)

      pub heads_fit : Each m.transitions
      heads_fit = go room
        where
          go : RoomToFill s l → Each m.transitions
          go (for_every r) = let f = (header_few v body e₁).transitions in (
            omega (arith, r.sources),
            omega (arith, r.targets),
            omega (arith, r.events),
            omega (arith, r.starts),
            omega (arith, r.test_counts),
          )
          go (for_this c e r) = let f = room_fits (lists_of c) l r in let n = count_is e e₁ in (
            omega (arith, f.sources, sources_each c),
            omega (arith, f.targets, targets_each c),
            omega (arith, f.events, events_each c),
            omega (arith, f.starts, starts_each c),
            omega (arith, f.test_counts, test_counts_each c),
          )

      -- room for the tests of all transitions
      abbrev AllTests : Type 0
      AllTests =
          TestsFit (width_of m.version) m.locations m.timers m.transitions left
          (length l.timers) (length l.codes) (length l.constants)

      pub tests_fit : AllTests
      tests_fit = go room
        where
          go : RoomToFill s l → AllTests
          go (for_every r) = let f = (header_few v body e₁).transitions in
              tests_any (record { timers = omega (arith, r.timers); codes = omega (arith, r.codes); constants = omega (arith, r.constants) })
          go (for_this c e r) = let f = room_fits (lists_of c) l r in let k = transitions_are e e₁ in
              of_these c.transitions k.0 k.1 (record {
                timers = omega (arith, f.timers, timers_each c);
                codes = omega (arith, f.codes, codes_each c);
                constants = omega (arith, f.constants, constants_each c);
              })
