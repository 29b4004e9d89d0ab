-- The parts of a transition's record make up the record: its head and then its tests.
use mathlib.Core.Path.{◌≡◌, refl, sym, ap, ◌∙◌, subst}
use mathlib.Core.Bool.{Bool, true, false}
use mathlib.Core.List.{List}
use Prim.Native.Nat.{ℕ, ◌≤◌}
use lib.ListN.{length}
use lib.Dec.{leb, eqb}
use borrow.Author.Tests.{leb-true}
use Rattle.timer_set.specs.Members.{set_of}
use Rattle.model.specs.Answer.{nowhere}
use Rattle.model.specs.Chart.{Test, Transition}
use Rattle.model.specs.Live.{starts_set}
use Rattle.file_format.specs.Parse.{Parsed, value, refusal, bind, guard, number, below, rising}
use Rattle.file_format.specs.Body.{read_test, read_tests, read_transition, record_length}
use Rattle.file_format.proofs.Parsed.{bind_value, guard_value, same_value, kept_value, kept_refused}
use Rattle.file_format.proofs.Items.{many_length}
use Rattle.fields.specs.declared.record.Ends.{Ends}
use Rattle.fields.specs.declared.record.Head.{Head}
use Rattle.fields.specs.Parts.{read_ends, read_starts, read_test_count, head_of, read_head}

-- readers one after another, grouped in another way
module _ {A B C : Type 0} where
  step : (x : Parsed A) (k : A → List ℕ → Parsed B) (l : B → List ℕ → Parsed C) (m : A → List ℕ → Parsed C)
      → ((a : A) (t : List ℕ) → m a t ≡ bind (k a t) l) → bind x m ≡ bind (bind x k) l
  step (value a t) k l m f = f a t
  step (refusal n p) k l m f = refl

step_guard : {B C : Type 0} (c : Bool) (n p : ℕ) (y : Parsed B) (l : B → List ℕ → Parsed C) (x : Parsed C) → x ≡ bind y l
    → guard c n p x ≡ bind (guard c n p y) l
step_guard true n p y l x e = e
step_guard false n p y l x e = refl

-- ---- the number of tests

module _ (W len s i : ℕ) (bs : List ℕ) where
  -- with what is made of it at once
  count_then : {A : Type 0} (f : ℕ → A)
      → bind (number 1 bs) (λ g t. guard (eqb len (record_length W s g)) 3 nowhere (guard (leb g 8) 4 i (value (f g) t)))
      ≡ bind (read_test_count W len s i bs) (λ g t. value (f g) t)
  unfolding read_test_count
  count_then f =
      step (number 1 bs) _ _ _ (λ g t.
      step_guard (eqb len (record_length W s g)) 3 nowhere _ _ _ (
      step_guard (leb g 8) 4 i _ _ _ refl))

  pub count_few : {g : ℕ} {t : List ℕ} → read_test_count W len s i bs ≡ value g t → g ≤ 8
  unfolding read_test_count
  count_few {g} {t} e =
      let a = bind_value (number 1 bs) _ g t e in
      let g₁ = guard_value (eqb len (record_length W s a.0)) 3 nowhere _ a.3 in
      let g₂ = guard_value (leb a.0 8) 4 i _ g₁.1 in
      subst (λ (n : ℕ). n ≤ 8) (same_value g₂.1) (leb-true a.0 8 g₂.0)

-- ---- the head

-- of its parts
abbrev pub head_with : Ends → (starts tests : ℕ) → Head
head_with e starts g = record { source = e.source; target = e.target; event = e.event; starts = starts; tests = g }

-- the head with the list of the started timers
record Front : Type 0 where
  source : ℕ
  target : ℕ
  event : ℕ
  starts : List ℕ
  tests : ℕ

abbrev front_head : Front → Head
front_head f = record { source = f.source; target = f.target; event = f.event; starts = set_of f.starts; tests = f.tests }

abbrev made : Front → List Test → Transition
made f ts = record { source = f.source; target = f.target; event = f.event; starts = f.starts; tests = ts }

module _ (W locations timers i : ℕ) where
  abbrev front_rest : Ends → List ℕ → Parsed Front
  front_rest e b₁ =
      bind (below 1 65 4 i b₁) (λ s b₂.
      bind (rising 1 timers 6 i s b₂) (λ starts b₃.
      bind (number 1 b₃) (λ g b₄.
      guard (eqb e.length (record_length W s g)) 3 nowhere (
      guard (leb g 8) 4 i (
      value (record { source = e.source; target = e.target; event = e.event; starts = starts; tests = g }) b₄)))))

  abbrev read_front : List ℕ → Parsed Front
  read_front bs = bind (read_ends locations i bs) front_rest

  abbrev after_front : Front → List ℕ → Parsed Transition
  after_front f b = bind (read_tests W timers i f.tests b) (λ ts u. value (made f ts) u)

  transition_ends : (bs : List ℕ)
      → read_transition W locations timers i bs ≡ bind (read_ends locations i bs) (λ e b. bind (front_rest e b) after_front)
  unfolding read_transition read_ends
  transition_ends bs =
      step (number 2 bs) _ _ _ (λ len b₁.
      step (below 2 locations 5 i b₁) _ _ _ (λ source b₂.
      step (below 2 locations 5 i b₂) _ _ _ (λ target b₃.
      step (number 1 b₃) _ _ _ (λ event b₄.
      step (below 1 65 4 i b₄) _ _ _ (λ s b₅.
      step (rising 1 timers 6 i s b₅) _ _ _ (λ starts b₆.
      step (number 1 b₆) _ _ _ (λ g b₇.
      step_guard (eqb len (record_length W s g)) 3 nowhere _ _ _ (
      step_guard (leb g 8) 4 i _ _ _ refl))))))))

  transition_front : (bs : List ℕ) → read_transition W locations timers i bs ≡ bind (read_front bs) after_front
  transition_front bs = transition_ends bs ∙ step (read_ends locations i bs) front_rest after_front _ (λ e b. refl)

  head_front : (bs : List ℕ) → read_head W locations timers i bs ≡ bind (read_front bs) (λ f b. value (front_head f) b)
  unfolding read_head read_starts
  head_front bs =
      step (read_ends locations i bs) _ _ _ (λ e b₁.
      step (below 1 65 4 i b₁) _ _ _ (λ s b₂.
      sym (step (rising 1 timers 6 i s b₂) _ _ _ (λ l t. refl)) ∙ step (rising 1 timers 6 i s b₂) _ _ _ (λ starts b₃.
      sym (count_then W e.length s i b₃ (head_with e (set_of starts))) ∙ step (number 1 b₃) _ _ _ (λ g b₄.
      step_guard (eqb e.length (record_length W s g)) 3 nowhere _ _ _ (
      step_guard (leb g 8) 4 i _ _ _ refl)))))

-- ---- the record that was read, and its parts

pub record Parts (W locations timers i : ℕ) (bs : List ℕ) (r : Transition) (end : List ℕ) : Type 0 where
  pub rest : List ℕ
  pub head : read_head W locations timers i bs ≡ value (head_of r) rest
  pub tests : read_tests W timers i (length r.tests) rest ≡ value r.tests end

module _ (W locations timers i : ℕ) (bs : List ℕ) where
  abbrev transition : Parsed Transition
  transition = read_transition W locations timers i bs

  tests_length : (g : ℕ) (b : List ℕ) (ts : List Test) (u : List ℕ) → read_tests W timers i g b ≡ value ts u → length ts ≡ g
  unfolding read_tests
  tests_length g b ts u e = many_length (λ (s : ℕ) (t : Test). s) (read_test W timers) i g b ts u e

  made_parts : (f : Front) (b : List ℕ) (ts : List Test) (u : List ℕ) → read_front W locations timers i bs ≡ value f b
      → read_tests W timers i f.tests b ≡ value ts u → Parts W locations timers i bs (made f ts) u
  unfolding head_of starts_set
  made_parts f b ts u e k =
      let q : length ts ≡ f.tests = tests_length f.tests b ts u k in
      record { rest = b; head = rw (q, head_front W locations timers i bs, e); tests = rw q k }

  pub transition_parts : (r : Transition) (u : List ℕ) → transition ≡ value r u → Parts W locations timers i bs r u
  transition_parts r u e =
      let z = sym (transition_front W locations timers i bs) ∙ e in
      let j = bind_value (read_front W locations timers i bs) (after_front W locations timers i) r u z in
      let k = kept_value (made j.0) (read_tests W timers i j.0.tests j.1) j.3 in
      subst (λ (x : Transition). Parts W locations timers i bs x u) k.2 (made_parts j.0 j.1 k.0 u j.2 k.1)

  -- ---- from the head's answer

  pub transition_head_refused : {n p : ℕ} → read_head W locations timers i bs ≡ refusal n p → transition ≡ refusal n p
  transition_head_refused e =
      let f = kept_refused front_head (read_front W locations timers i bs) (sym (head_front W locations timers i bs) ∙ e) in
      transition_front W locations timers i bs ∙ rw f

  module _ {h : Head} {b : List ℕ} (e : read_head W locations timers i bs ≡ value h b) where
    front_found : (f : Front) × (read_front W locations timers i bs ≡ value f b) × (front_head f ≡ h)
    front_found = kept_value front_head (read_front W locations timers i bs) (sym (head_front W locations timers i bs) ∙ e)

    as_many : front_found.0.tests ≡ h.tests
    as_many = ap (λ (x : Head). x.tests) front_found.2

    pub transition_tests_refused : {n p : ℕ} → read_tests W timers i h.tests b ≡ refusal n p → transition ≡ refusal n p
    transition_tests_refused k = transition_front W locations timers i bs ∙ rw (front_found.1, as_many, k)

    pub transition_whole : {ts : List Test} {u : List ℕ} → read_tests W timers i h.tests b ≡ value ts u
        → (r : Transition) × (transition ≡ value r u) × (head_of r ≡ h) × (r.tests ≡ ts)
    unfolding head_of starts_set
    transition_whole {ts} {u} k =
        let q : length ts ≡ front_found.0.tests = tests_length h.tests b ts u k ∙ sym as_many in
        (made front_found.0 ts, transition_front W locations timers i bs ∙ rw (front_found.1, as_many, k), rw q front_found.2, refl)

-- ---- a record has at most 8 tests

pub head_at_most : (W locations timers i : ℕ) (bs : List ℕ) {h : Head} {b : List ℕ} → read_head W locations timers i bs ≡ value h b
    → h.tests ≤ 8
unfolding read_head
head_at_most W locations timers i bs {h} {b} e =
    let i₁ = bind_value (read_ends locations i bs) _ h b e in
    let i₂ = bind_value (below 1 65 4 i i₁.1) _ h b i₁.3 in
    let i₃ = bind_value (read_starts timers i i₂.0 i₂.1) _ h b i₂.3 in
    let count = read_test_count W i₁.0.length i₂.0 i i₃.1 in
    let k = kept_value (head_with i₁.0 i₃.0) count i₃.3 in
    subst (λ (g : ℕ). g ≤ 8) (ap (λ (x : Head). x.tests) k.2) (count_few W i₁.0.length i₂.0 i i₃.1 k.1)
