-- Answers: those that go on from a result, two of them that match, and which refusals they can be. All by cases.
use mathlib.Core.Path.{◌≡◌, refl, sym, ap₂, subst₂}
use mathlib.Core.Logic.{◌⊎◌, inl, inr}
use mathlib.Core.Bool.{Bool, true, false}
use mathlib.Core.List.{List}
use Prim.Native.Nat.{ℕ, suc, ◌+◌}
use native.Mathlib.Omega.{arith}
use Rattle.lists.specs.Lists.{memb}
use Rattle.model.specs.Answer.{Answer, returned, refused, then, unless}
use Rattle.model.specs.Refusals.{Refuses, NumberIn, StepRefusal}

module _ {A : Type 0} where
  -- a result is no refusal
  pub result_refused : {x : Answer A} {a : A} {n p : ℕ} → x ≡ returned a → x ≡ refused n p → ⊥
  result_refused e f = let z : ◌≡◌ {A = ℕ} 0 1 = cc in omega arith

  pub not_result : {a : A} {n p : ℕ} → refused n p ≡ returned a → ⊥
  not_result e = result_refused e refl

  pub result_same : {a b : A} → returned a ≡ returned b → a ≡ b
  result_same e = cc

  pub refused_same : {n n' p p' : ℕ} → ◌≡◌ {A = Answer A} (refused n p) (refused n' p') → (n ≡ n') × (p ≡ p')
  refused_same e = (cc, cc)

  -- where there is a result, the condition holds
  pub unless_result : (b : Bool) (n p : ℕ) (x : Answer A) {a : A} → unless b n p x ≡ returned a → (b ≡ true) × (x ≡ returned a)
  unless_result true n p x e = (refl, e)
  unless_result false n p x e = absurd (not_result e)

-- where going on gives a result, there was one to go on from
pub then_result : {A B : Type 0} (x : Answer A) (k : A → Answer B) {b : B} → then x k ≡ returned b → (a : A) × (x ≡ returned a) × (k a ≡ returned b)
then_result (returned a) k e = (a, refl, e)
then_result (refused n p) k e = absurd (not_result e)

-- where there is a refusal, the condition fails, or it holds and the rest is refused
pub unless_refused : {A : Type 0} (b : Bool) (n p : ℕ) (x : Answer A) {m q : ℕ} → unless b n p x ≡ refused m q
    → ((b ≡ false) × (m ≡ n) × (q ≡ p)) ⊎ ((b ≡ true) × (x ≡ refused m q))
unless_refused true n p x e = inr (refl, e)
unless_refused false n p x e = inl (refl, sym (refused_same e).0, sym (refused_same e).1)

-- where going on is refused, what it goes on from is, or the rest
pub then_refused : {A B : Type 0} (x : Answer A) (k : A → Answer B) {m q : ℕ} → then x k ≡ refused m q
    → (x ≡ refused m q) ⊎ ((a : A) × (x ≡ returned a) × (k a ≡ refused m q))
then_refused (returned a) k e = inr (a, refl, e)
then_refused (refused n p) k e = inl (let z = refused_same e in rw (z.0, z.1) refl)

-- ---- going on from a result

pub then_id : {A : Type 0} (x : Answer A) → then x (λ a. returned a) ≡ x
then_id (returned a) = refl
then_id (refused n p) = refl

module _ {A B : Type 0} where
  pub then_then : {C : Type 0} (x : Answer A) (f : A → Answer B) (g : B → Answer C) → then (then x f) g ≡ then x (λ a. then (f a) g)
  then_then (returned a) f g = refl
  then_then (refused n p) f g = refl

  pub then_unless : (b : Bool) (n p : ℕ) (x : Answer A) (g : A → Answer B) → then (unless b n p x) g ≡ unless b n p (then x g)
  then_unless true n p x g = refl
  then_unless false n p x g = refl

  pub then_same : (x : Answer A) (f g : A → Answer B) → ((a : A) → f a ≡ g a) → then x f ≡ then x g
  then_same (returned a) f g e = e a
  then_same (refused n p) f g e = refl

  pub then_known : (x : Answer A) (f g : A → Answer B) → ((a : A) → x ≡ returned a → f a ≡ g a) → then x f ≡ then x g
  then_known (returned a) f g e = e a refl
  then_known (refused n p) f g e = refl

  -- where only something of the result is kept
  pub kept_result : (x : Answer A) (f : A → B) {b : B} → then x (λ a. returned (f a)) ≡ returned b → (a : A) × (x ≡ returned a) × (f a ≡ b)
  kept_result (returned a) f e = (a, refl, cc)
  kept_result (refused n p) f e = absurd (not_result e)

  pub kept_refused : (x : Answer A) (f : A → B) {n p : ℕ} → then x (λ a. returned (f a)) ≡ refused n p → x ≡ refused n p
  kept_refused (returned a) f e = absurd (result_refused refl e)
  kept_refused (refused n p) f e = cc

-- ---- two answers match: results that R relates, or the same refusal

abbrev pub Matching : {A B : Type 0} → (A → B → Type 0) → Answer A → Answer B → Type 0
Matching R (returned a) (returned b) = R a b
Matching R (returned a) (refused n p) = ⊥
Matching R (refused n p) (returned b) = ⊥
Matching R (refused n p) (refused n' p') = (n ≡ n') × (p ≡ p')

module _ {A B : Type 0} (R : A → B → Type 0) where
  -- one test before both
  pub match_unless : {b b' : Bool} (n p : ℕ) (x : Answer A) (y : Answer B) → b ≡ b' → (b ≡ true → Matching R x y)
      → Matching R (unless b n p x) (unless b' n p y)
  match_unless {b} {b'} n p x y e h = rw (← e) (go b refl)
    where
      go : (t : Bool) → b ≡ t → Matching R (unless b n p x) (unless b n p y)
      go true e = rw e (h e)
      go false e = rw e (refl, refl)

  module _ {C D : Type 0} (Q : C → D → Type 0) where
    pub match_then : (x : Answer A) (y : Answer B) (f : A → Answer C) (g : B → Answer D) → ((a : A) (b : B) → R a b → Matching Q (f a) (g b))
        → Matching R x y → Matching Q (then x f) (then y g)
    match_then (returned a) (returned b) f g h m = h a b m
    match_then (returned a) (refused n p) f g h m = absurd m
    match_then (refused n p) (returned b) f g h m = absurd m
    match_then (refused n p) (refused n' p') f g h m = m

  pub match_weaken : (Q : A → B → Type 0) (x : Answer A) (y : Answer B) → ((a : A) (b : B) → R a b → Q a b) → Matching R x y → Matching Q x y
  match_weaken Q (returned a) (returned b) f m = f a b m
  match_weaken Q (returned a) (refused n p) f m = m
  match_weaken Q (refused n p) (returned b) f m = m
  match_weaken Q (refused n p) (refused n' p') f m = m

  -- what matches a result is a result
  pub match_result : {a : A} (y : Answer B) → Matching R (returned a) y → (b : B) × (y ≡ returned b) × R a b
  match_result (returned b) m = (b, refl, m)
  match_result (refused n p) m = absurd m

  pub match_result' : (x : Answer A) {b : B} → Matching R x (returned b) → (a : A) × (x ≡ returned a) × R a b
  match_result' (returned a) m = (a, refl, m)
  match_result' (refused n p) m = absurd m

  -- results that R relates, turned into equal answers, make equal answers
  pub match_same : {C : Type 0} (x : Answer A) (y : Answer B) (f : A → Answer C) (g : B → Answer C) → ((a : A) (b : B) → R a b → f a ≡ g b)
      → Matching R x y → then x f ≡ then y g
  match_same (returned a) (returned b) f g h m = h a b m
  match_same (returned a) (refused n p) f g h m = absurd m
  match_same (refused n p) (returned b) f g h m = absurd m
  match_same (refused n p) (refused n' p') f g h m = ap₂ refused m.0 m.1

-- ---- which refusals an answer can be

module _ {R : (n p : ℕ) → Type 0} {A : Type 0} where
  pub refuses_result : (a : A) → Refuses R (returned a)
  refuses_result a = record { only = λ n p e. absurd (result_refused refl e) }

  pub refuses_this : {n p : ℕ} → R n p → Refuses R {A = A} (refused n p)
  refuses_this w = record { only = λ m q e. let s = refused_same e in subst₂ R s.0 s.1 w }

  pub refuses_unless : (b : Bool) (n p : ℕ) (x : Answer A) → (b ≡ false → R n p) → (b ≡ true → Refuses R x) → Refuses R (unless b n p x)
  refuses_unless true n p x w h = h refl
  refuses_unless false n p x w h = refuses_this (w refl)

  pub refuses_then : {B : Type 0} (x : Answer A) (k : A → Answer B) → Refuses R x → ((a : A) → x ≡ returned a → Refuses R (k a))
      → Refuses R (then x k)
  refuses_then (returned a) k h f = f a refl
  refuses_then (refused n p) k h f = record { only = λ m q e. let s = refused_same e in subst₂ R s.0 s.1 (h.only n p refl) }

  pub refuses_wider : {Q : (n p : ℕ) → Type 0} {x : Answer A} → ((n p : ℕ) → R n p → Q n p) → Refuses R x → Refuses Q x
  refuses_wider f h = record { only = λ n p e. f n p (h.only n p e) }

-- ---- the number of a refusal is one of a list

module _ (l : List ℕ) {A : Type 0} where
  pub number_unless : (b : Bool) (n p : ℕ) (x : Answer A) → (b ≡ false → memb n l ≡ true) → NumberIn l x → NumberIn l (unless b n p x)
  number_unless b n p x m h = refuses_unless b n p x m (λ e. h)

  pub number_then : {B : Type 0} (x : Answer A) (f : A → Answer B) → NumberIn l x → ((a : A) → NumberIn l (f a)) → NumberIn l (then x f)
  number_then x f m h = refuses_then x f m (λ a e. h a)

  pub number_is : {n p : ℕ} (x : Answer A) → NumberIn l x → x ≡ refused n p → memb n l ≡ true
  number_is {n = n} {p = p} x h e = h.only n p e

-- ---- of steps, each refused at its number

module _ (l : List ℕ) {A : Type 0} where
  -- at step k
  pub refuses_at : (k : ℕ) {n : ℕ} → memb n l ≡ true → StepRefusal {A = A} l k (suc k) (refused n k)
  refuses_at k m = refuses_this (m, (omega arith, omega arith))

  -- a test of step k before the rest
  pub unless_place : (k : ℕ) (b : Bool) (n : ℕ) (x : Answer A) → (b ≡ false → memb n l ≡ true) → StepRefusal l k (suc k) x
      → StepRefusal l k (suc k) (unless b n k x)
  unless_place k b n x m h = refuses_unless b n k x (λ e. (m e, (omega arith, omega arith))) (λ e. h)

  -- step k, and then n steps more
  pub steps_more : (k n : ℕ) (x : Answer A) (f : A → Answer A) → StepRefusal l k (suc k) x
      → ((a : A) → StepRefusal l (suc k) (suc k + n) (f a)) → StepRefusal l k (k + suc n) (then x f)
  steps_more k n x f h later =
      refuses_then x f (refuses_wider (λ m p r. (r.0, (r.1.0, omega (arith, r.1.1)))) h)
      (λ a e. refuses_wider (λ m p r. (r.0, (omega (arith, r.1.0), omega (arith, r.1.1)))) (later a))

  -- all steps, and what is made of their end
  pub ended_place : {B : Type 0} (n : ℕ) (x : Answer A) (f : A → Answer B) → StepRefusal l 0 (0 + n) x → ((a : A) → StepRefusal l 0 n (f a))
      → StepRefusal l 0 n (then x f)
  ended_place n x f h arrives = refuses_then x f (refuses_wider (λ m p r. (r.0, (r.1.0, omega (arith, r.1.1)))) h) (λ a e. arrives a)
