-- A record that is judged and skipped, by its head and its tests.
use mathlib.Core.Path.{◌≡◌, refl, subst}
use mathlib.Core.List.{List}
use Prim.Native.Nat.{ℕ, ◌≤◌}
use lib.ListN.{length}
use Rattle.model.specs.Chart.{Test, Transition}
use Rattle.file_format.specs.Parse.{Parsed, value, refusal}
use Rattle.file_format.specs.Body.{read_tests, read_transition}
use Rattle.file_format.proofs.Parsed.{kept_value}
use Rattle.fields.specs.declared.record.Head.{Head}
use Rattle.fields.specs.Parts.{head_of, read_head}
use Rattle.fields.proofs.Parts.{transition_parts, transition_head_refused, transition_tests_refused, transition_whole, head_at_most}
use Rattle.file_judging.specs.Parts.{skip_tests, skip_transition}

module _ (W locations timers i : ℕ) (bs : List ℕ) where
  pub skip_head_refused : {n p : ℕ} → read_head W locations timers i bs ≡ refusal n p → refusal n p ≡ skip_transition W locations timers i bs
  unfolding skip_transition
  skip_head_refused e = rw (transition_head_refused W locations timers i bs e)

  -- after its head it goes on as its tests do
  pub skip_tests_left : {h : Head} {b : List ℕ} → read_head W locations timers i bs ≡ value h b
      → skip_tests W timers i h.tests b ≡ skip_transition W locations timers i bs
  unfolding skip_tests skip_transition
  skip_tests_left {h} {b} e = go (read_tests W timers i h.tests b) refl
    where
      go : (x : Parsed (List Test)) → read_tests W timers i h.tests b ≡ x
          → skip_tests W timers i h.tests b ≡ skip_transition W locations timers i bs
      go (value ts u) k = let w = transition_whole W locations timers i bs e k in rw (k, w.1, w.3)
      go (refusal n p) k = rw (k, transition_tests_refused W locations timers i bs e k)

  pub skip_at_most : {n : ℕ} {u : List ℕ} → skip_transition W locations timers i bs ≡ value n u → n ≤ 8
  unfolding skip_transition head_of
  skip_at_most {n} {u} e =
      let k = kept_value (λ (r : Transition). length r.tests) (read_transition W locations timers i bs) e in
      let p = transition_parts W locations timers i bs k.0 u k.1 in
      subst (λ (g : ℕ). g ≤ 8) k.2 (head_at_most W locations timers i bs p.head)
