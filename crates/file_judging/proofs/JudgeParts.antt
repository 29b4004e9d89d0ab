-- The whole file, judged as the code judges it: frame, header, transitions, and no byte left.
use mathlib.Core.Path.{◌≡◌, sym, ◌∙◌, subst}
use mathlib.Core.Bool.{true, false}
use mathlib.Core.List.{List}
use Prim.Native.Nat.{ℕ, suc, ◌≤◌}
use lib.ListN.{length}
use Rattle.model.specs.Answer.{returned, refused, nowhere}
use Rattle.model.specs.Chart.{Transition}
use Rattle.model.specs.Version.{known_version, width_of}
use Rattle.model.proofs.Versions.{known_most}
use Rattle.chart_lists.specs.declared.Header.{Header}
use Rattle.chart_lists.specs.Header.{header_of}
use Rattle.chart_lists.specs.Lists.{all_tests}
use Rattle.file_format.specs.Parse.{Parsed, value, refusal}
use Rattle.file_format.specs.Body.{FileHeader, read_header, read_transition, read_transitions, is_end, chart_of, read_body}
use Rattle.file_format.specs.File.{read_frame, judge_frame, read_file, chart_in}
use Rattle.file_format.proofs.Parsed.{kept_value, kept_refused}
use Rattle.file_format.proofs.File.{judged_frame}
use Rattle.file_format.proofs.Frame.{end_at, more_at}
use Rattle.file_format.proofs.Items.{many_length}
use Rattle.file_judging.specs.Parts.{chart_header, skip_header, skip_transitions}
use Rattle.file_judging.specs.Meaning.{ChartIs}
use Rattle.file_judging.proofs.HeaderParts.{header_few}

pub transitions_length : (W locations timers n : ℕ) (bs : List ℕ) {rs : List Transition} {t : List ℕ}
    → read_transitions W locations timers n bs ≡ value rs t → length rs ≡ n
unfolding read_transitions
transitions_length W locations timers n bs {rs} {t} e =
    many_length (λ (i : ℕ) (r : Transition). suc i) (read_transition W locations timers) 0 n bs rs t e

module _ (s : List ℕ) where
  pub judge_frame_lem : {n p : ℕ} → judge_frame known_version (read_frame s) ≡ refused n p → chart_in s ≡ refused n p
  unfolding chart_in read_file
  judge_frame_lem e = rw e

  module _ {v : ℕ} {body : List ℕ} (e₀ : judge_frame known_version (read_frame s) ≡ returned (record { version = v; body = body })) where
    pub judge_version : v ≤ 3
    judge_version = known_most v (judged_frame known_version (read_frame s) e₀).is_known

    pub judge_header : {n p : ℕ} → skip_header v body ≡ refusal n p → chart_in s ≡ refused n p
    unfolding chart_in read_file read_body skip_header
    judge_header e = let h = kept_refused (chart_header v) (read_header body) e in rw (e₀, h)

    module _ {m : Header} {rest : List ℕ} (e₁ : skip_header v body ≡ value m rest) where
      header_found : (h : FileHeader) × (read_header body ≡ value h rest) × (chart_header v h ≡ m)
      unfolding skip_header
      header_found = kept_value (chart_header v) (read_header body) e₁

      abbrev records : Parsed (List Transition)
      records = read_transitions (width_of m.version) m.locations m.timers m.transitions rest

      -- the transitions as the definition reads them
      as_header : {x : Parsed (List Transition)} → records ≡ x
          → read_transitions (width_of v) header_found.0.locations header_found.0.timers header_found.0.count rest ≡ x
      unfolding chart_header
      as_header {x} e =
          subst (λ (y : Header). read_transitions (width_of y.version) y.locations y.timers y.transitions rest ≡ x)
          (sym header_found.2) e

      pub judge_transitions : {n p : ℕ} → skip_transitions (width_of m.version) m.locations m.timers m.transitions rest ≡ refusal n p
          → chart_in s ≡ refused n p
      unfolding chart_in read_file read_body skip_transitions
      judge_transitions e =
          let k = as_header (kept_refused (λ (rs : List Transition). length (all_tests rs)) records e) in
          rw (e₀, header_found.1, k)

      module _ {tests : ℕ} {left : List ℕ}
          (e₂ : skip_transitions (width_of m.version) m.locations m.timers m.transitions rest ≡ value tests left) where
        records_found : (rs : List Transition) × (records ≡ value rs left) × (length (all_tests rs) ≡ tests)
        unfolding skip_transitions
        records_found = kept_value (λ (rs : List Transition). length (all_tests rs)) records e₂

        pub judge_left : is_end left ≡ false → chart_in s ≡ refused 3 nowhere
        unfolding chart_in read_file read_body
        judge_left l = let k = as_header records_found.1 in rw (e₀, header_found.1, k, l)

        header_is : m ≡ header_of (chart_of v header_found.0 records_found.0)
        unfolding header_of chart_header chart_of
        header_is = sym header_found.2 ∙ rw (transitions_length _ _ _ _ _ (as_header records_found.1))

        pub judge_good : is_end left ≡ true → ChartIs s m tests
        unfolding chart_in read_file read_body chart_of
        judge_good l = let k = as_header records_found.1 in
            record {
              chart = chart_of v header_found.0 records_found.0;
              is = rw (e₀, header_found.1, k, l);
              header_is = header_is;
              number_of_tests = sym records_found.2;
            }

pub ruleset file_parts = (judge_frame_lem, judge_version, judge_header, judge_transitions, judge_left, judge_good, header_few, end_at, more_at)
