-- Readers made of readers, and what one that found something, or refused, says of those that it is made of.
use mathlib.Core.Path.{◌≡◌, refl}
use mathlib.Core.Bool.{Bool, true, false}
use mathlib.Core.List.{List}
use Prim.Native.Nat.{ℕ, ◌<◌}
use native.Mathlib.Omega.{arith}
use lib.Dec.{ltb}
use borrow.Author.Tests.{ltb-true}
use Rattle.file_format.specs.Parse.{Parsed, value, refusal, bind, guard, number, below}

-- a value is no refusal
pub value_refused : {A : Type 0} {x : Parsed A} {a : A} {t : List ℕ} {n p : ℕ} → x ≡ value a t → x ≡ refusal n p → ⊥
value_refused e f = let z : ◌≡◌ {A = ℕ} 0 1 = cc in omega arith

pub same_value : {A : Type 0} {a b : A} {t u : List ℕ} → value a t ≡ value b u → a ≡ b
same_value e = cc

pub same_rest : {A : Type 0} {a b : A} {t u : List ℕ} → value a t ≡ value b u → t ≡ u
same_rest e = cc

pub bind_assoc : {A B C : Type 0} (x : Parsed A) (k : A → List ℕ → Parsed B) (g : B → List ℕ → Parsed C)
    → bind (bind x k) g ≡ bind x (λ a t. bind (k a t) g)
bind_assoc (value a t) k g = refl
bind_assoc (refusal n p) k g = refl

pub bind_guard : {A B : Type 0} (b : Bool) (n p : ℕ) (x : Parsed A) (k : A → List ℕ → Parsed B) → bind (guard b n p x) k ≡ guard b n p (bind x k)
bind_guard true n p x k = refl
bind_guard false n p x k = refl

module _ {A B : Type 0} (x : Parsed A) (k : A → List ℕ → Parsed B) where
  pub bind_value : (b : B) (t : List ℕ) → bind x k ≡ value b t → (a : A) × (u : List ℕ) × (x ≡ value a u) × (k a u ≡ value b t)
  bind_value b t e = go x refl e
    where
      go : (y : Parsed A) → x ≡ y → bind y k ≡ value b t → (a : A) × (u : List ℕ) × (x ≡ value a u) × (k a u ≡ value b t)
      go (value a u) f e = (a, u, f, e)
      go (refusal n p) f e = absurd (value_refused e refl)

pub guard_value : {A : Type 0} (c : Bool) (n p : ℕ) (x : Parsed A) {a : A} {t : List ℕ} → guard c n p x ≡ value a t → (c ≡ true) × (x ≡ value a t)
guard_value true n p x e = (refl, e)
guard_value false n p x e = absurd (value_refused e refl)

-- a reader that keeps something of what another one found
module _ {A B : Type 0} (f : A → B) where
  pub kept_value : (x : Parsed A) {b : B} {t : List ℕ} → bind x (λ a u. value (f a) u) ≡ value b t → (a : A) × (x ≡ value a t) × (f a ≡ b)
  kept_value (value a u) e = (a, cc, cc)
  kept_value (refusal n p) e = absurd (value_refused e refl)

  pub kept_refused : (x : Parsed A) {n p : ℕ} → bind x (λ a u. value (f a) u) ≡ refusal n p → x ≡ refusal n p
  kept_refused (value a u) e = absurd (value_refused refl e)
  kept_refused (refusal m q) e = cc

-- a number that was read below a limit is below it
pub below_limit : (w limit n p : ℕ) (bs : List ℕ) {x : ℕ} {t : List ℕ} → below w limit n p bs ≡ value x t → x < limit
unfolding below
below_limit w limit n p bs {x} {t} e =
    let i = bind_value (number w bs) (λ x t. guard (ltb x limit) n p (value x t)) x t e in
    let g = guard_value (ltb i.0 limit) n p (value i.0 i.1) i.3 in
    let q : i.0 ≡ x = same_value g.1 in
    omega (arith, ltb-true i.0 limit g.0)
