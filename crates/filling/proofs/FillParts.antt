-- What the walk answers and leaves in the lists, from what its parts answer and leave.
use mathlib.Core.Path.{◌≡◌, refl, sym, ap}
use mathlib.Core.Bool.{Bool, true, false}
use mathlib.Core.List.{List}
use Prim.Native.Nat.{ℕ}
use lib.ListN.{drop}
use Rattle.model.specs.Answer.{returned, refused}
use Rattle.model.specs.Chart.{Transition, Chart}
use Rattle.model.specs.Version.{known_version, width_of}
use Rattle.chart_lists.specs.declared.Header.{Header}
use Rattle.chart_lists.specs.Lists.{Lists, lists, lists_of, put, put_lists, all_tests}
use Rattle.file_format.specs.Parse.{value}
use Rattle.file_format.specs.Body.{FileHeader, read_header, read_transitions, is_end}
use Rattle.file_format.specs.File.{read_frame, judge_frame, chart_in}
use Rattle.file_format.proofs.Answers.{result_refused}
use Rattle.std.specs.Prelude.{Result, Ok, Err}
use Rattle.refusal.specs.declared.Refusal.{Refusal}
use Rattle.fields.specs.Meaning.{parsed_as}
use Rattle.file_judging.specs.Parts.{skip_header, skip_transitions}
use Rattle.file_judging.proofs.JudgeParts.{judge_transitions, judge_left, judge_good}
use Rattle.filling.specs.Filling.{header_read}
use Rattle.filling.specs.Parts.{put_at, HeadsStored, TestsStored, ended_as}
use Rattle.filling.proofs.ChartParts.{file_parts, transitions_are}

module _ (s : List ℕ) where
  -- a file that is refused holds no chart
  pub refused_read : {n p : ℕ} → chart_in s ≡ refused n p → refused n p ≡ header_read s
  unfolding header_read
  refused_read e = rw e

  pub refused_none : {n p : ℕ} → chart_in s ≡ refused n p → (c : Chart) → chart_in s ≡ returned c → ⊥
  refused_none e c k = result_refused k e

  module _ {v : ℕ} {body : List ℕ} (e₀ : judge_frame known_version (read_frame s) ≡ returned (record { version = v; body = body }))
      {m : Header} {left : List ℕ} (e₁ : skip_header v body ≡ value m left) where
    pub ended_read : (d : Result (ℕ × ℕ) Refusal) → parsed_as s d ≡ skip_transitions (width_of m.version) m.locations m.timers m.transitions left
        → ended_as s m d ≡ header_read s
    unfolding header_read
    ended_read (Err f) k = rw (judge_transitions s e₀ e₁ (sym k))
    ended_read (Ok (x, next)) k = go (is_end (drop next s)) refl
      where
        go : (b : Bool) → is_end (drop next s) ≡ b → ended_as s m (Ok (x, next)) ≡ header_read s
        go true q = let z = judge_good s e₀ e₁ (sym k) q in rw (q, z.is) (ap returned z.header_is)
        go false q = rw (q, judge_left s e₀ e₁ (sym k) q)

    pub lists_filled : (l : Lists) {o₁ o₂ o₃ o₄ o₅ o₆ o₇ o₈ o₉ : List ℕ}
        → ((h : FileHeader) (t : List ℕ) → read_header body ≡ value h t → o₁ ≡ put h.accepting l.accepting)
        → ((rs : List Transition) (t : List ℕ) → read_transitions (width_of m.version) m.locations m.timers m.transitions left ≡ value rs t
        → HeadsStored rs l.sources l.targets l.events l.starts l.test_counts o₂ o₃ o₄ o₅ o₆
        × TestsStored (all_tests rs) 0 l.timers l.codes l.constants o₇ o₈ o₉)
        → (c : Chart) → chart_in s ≡ returned c → lists o₁ o₂ o₃ o₄ o₅ o₆ o₇ o₈ o₉ ≡ put_lists (lists_of c) l
    unfolding put_lists lists_of put_at
    lists_filled l f g c e =
        let p = file_parts s e₀ e in
        let a = f p.header p.rest p.header_is in
        let k = transitions_are s e₀ e e₁ in
        let b = g c.transitions k.0 k.1 in
        let h = b.0 in
        let t = b.1 in
        rw (a, p.accepting_are, h.sources, h.targets, h.events, h.starts, h.test_counts, t.timers, t.codes, t.constants)
