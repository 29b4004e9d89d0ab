-- A reader and a writer that undo one another, and how such pairs are put together from those of their fields. Hard: a field's limit may depend on
-- fields before it, so each step carries what those say of the value.
use mathlib.Core.Path.{◌≡◌, refl, sym, ap, ◌∙◌, subst}
use mathlib.Core.Bool.{Bool, true}
use mathlib.Core.List.{List, [], ◌∷◌, ◌++◌, append_assoc}
use Prim.Native.Nat.{ℕ, zero, suc}
use lib.ListN.{length}
use Rattle.file_format.specs.Parse.{Parsed, value, bind, guard, many, write_all, Bytes}
use Rattle.file_format.proofs.Parsed.{bind_value, guard_value, same_value, same_rest}

pub bytes_rest : (xs t : List ℕ) → Bytes (xs ++ t) → Bytes t
bytes_rest [] t h = h
bytes_rest (x ∷ xs) t h = bytes_rest xs t h.1

-- What is written for b is read as b, whatever follows it, if P b; and whatever is read as b was written for b, and P b.
pub record RoundTrip {B : Type 0} (P : B → Type 0) (write : B → List ℕ) (read : List ℕ → Parsed B) : Type 0 where
  pub reads : (b : B) (t : List ℕ) → P b → read (write b ++ t) ≡ value b t
  pub written : (bs : List ℕ) (b : B) (t : List ℕ) → Bytes bs → read bs ≡ value b t → P b × (bs ≡ write b ++ t)

-- the same in other words
pub restated : {B : Type 0} {P Q : B → Type 0} {w w' : B → List ℕ} {r : List ℕ → Parsed B}
    → ((b : B) → P b → Q b) → ((b : B) → Q b → P b) → ((b : B) → w b ≡ w' b) → RoundTrip P w r → RoundTrip Q w' r
restated to from same l = record {
  reads = λ b t h. rw (← same b) (l.reads b t (from b h));
  written = λ bs b t by e. let i = l.written bs b t by e in (to b i.0, rw (← same b) i.1);
}

-- A reader of a value b with several fields, one after another. C is what the fields read so far say of b, Q what those to come say of it.
module _ {B : Type 0} (C : B → Type 0) where
  -- a field: f b is the field of b that is read here, and what its reader says of it, P, is P' of b
  pub field_as_lem : {A : Type 0} {P : A → Type 0} {w : A → List ℕ} {r : List ℕ → Parsed A} {w' : B → List ℕ} {k : A → List ℕ → Parsed B}
      (f : B → A) (P' Q : B → Type 0) → ((b : B) → C b → P (f b) → P' b) → ((b : B) → C b → P' b → P (f b))
      → RoundTrip P w r → ((a : A) → P a → RoundTrip (λ b. (C b × (f b ≡ a)) × Q b) w' (k a))
      → RoundTrip (λ b. C b × (P' b × Q b)) (λ b. w (f b) ++ w' b) (λ bs. bind (r bs) k)
  field_as_lem {A} {P} {w} {r} {w'} {k} f P' Q to from l₁ l₂ = record {
    reads = λ b t h.
        let p : P (f b) = from b h.0 h.1.0 in
        rw (append_assoc, l₁.reads (f b) (w' b ++ t) p) ((l₂ (f b) p).reads b t ((h.0, refl), h.1.1));
    written = λ bs b t by e.
        let i = bind_value (r bs) k b t e in
        let j = l₁.written bs i.0 i.1 by i.2 in
        let j' = (l₂ i.0 j.0).written i.1 b t (bytes_rest (w i.0) i.1 (subst Bytes j.1 by)) i.3 in
        let q : f b ≡ i.0 = j'.0.0.1 in
        ((j'.0.0.0, (to b j'.0.0.0 (subst P (sym q) j.0), j'.0.1)), rw (append_assoc, q, ← j'.1) j.1);
  }

  pub field : {A : Type 0} {P : A → Type 0} {w : A → List ℕ} {r : List ℕ → Parsed A} {w' : B → List ℕ} {k : A → List ℕ → Parsed B}
      (f : B → A) (Q : B → Type 0) → RoundTrip P w r → ((a : A) → P a → RoundTrip (λ b. (C b × (f b ≡ a)) × Q b) w' (k a))
      → RoundTrip (λ b. C b × (P (f b) × Q b)) (λ b. w (f b) ++ w' b) (λ bs. bind (r bs) k)
  field {A} {P} f Q l₁ l₂ = field_as_lem f (λ b. P (f b)) Q (λ b c p. p) (λ b c p. p) l₁ l₂

  -- a condition on what was read: `test b` is what it comes to for b
  pub condition : {w : B → List ℕ} {r : List ℕ → Parsed B} {c : Bool} (n p : ℕ) (test : B → Bool) (Q : B → Type 0) → ((b : B) → C b → test b ≡ c)
      → (c ≡ true → RoundTrip (λ b. C b × Q b) w r) → RoundTrip (λ b. C b × ((test b ≡ true) × Q b)) w (λ bs. guard c n p (r bs))
  condition {w} {r} {c} n p test Q same l = record {
    reads = λ b t h.
        let q : c ≡ true = sym (same b h.0) ∙ h.1.0 in
        rw q ((l q).reads b t (h.0, h.1.1));
    written = λ bs b t by e.
        let g = guard_value c n p (r bs) e in
        let i = (l g.0).written bs b t by g.1 in
        ((i.0.0, (same b i.0.0 ∙ g.0, i.0.1)), i.1);
  }

  -- the end: b is what its fields make it
  pub end : (b₀ : B) → C b₀ → ((b : B) → C b → b ≡ b₀) → RoundTrip (λ b. C b × Unit {0}) (λ b. []) (λ t. value b₀ t)
  end b₀ c same = record {
    reads = λ b t h. let q : b ≡ b₀ = same b h.0 in rw q;
    written = λ bs b t by e. let q : b ≡ b₀ = cc in ((subst C (sym q) c, tt), cc);
  }

-- A list of n items, each read by what the items before it left. Ps is what the items say of the list.
module _ {S A : Type 0} (next : S → A → S) (P : S → A → Type 0) (Ps : S → List A → Type 0)
    (none : (s : S) → Ps s []) (more : (s : S) (a : A) (xs : List A) → P s a → Ps (next s a) xs → Ps s (a ∷ xs))
    (first : (s : S) (a : A) (xs : List A) → Ps s (a ∷ xs) → P s a × Ps (next s a) xs)
    (w : A → List ℕ) (r : S → List ℕ → Parsed A) (item : (s : S) → RoundTrip (P s) w (r s)) where
  many_reads : (s : S) (xs : List A) (t : List ℕ) → Ps s xs → many next r s (length xs) (write_all w xs ++ t) ≡ value xs t
  unfolding many write_all
  many_reads s [] t h = refl
  many_reads s (a ∷ xs) t h =
      let i = first s a xs h in
      rw (append_assoc, (item s).reads a (write_all w xs ++ t) i.0, many_reads (next s a) xs t i.1)

  many_written : (s : S) (n : ℕ) (bs : List ℕ) (xs : List A) (t : List ℕ) → Bytes bs → many next r s n bs ≡ value xs t
      → ((length xs ≡ n) × Ps s xs) × (bs ≡ write_all w xs ++ t)
  unfolding many write_all
  many_written s zero bs xs t by e = let q : [] ≡ xs = same_value e in ((ap length (sym q), subst (Ps s) q (none s)), rw (← q) (same_rest e))
  many_written s (suc n) bs xs t by e =
      let i = bind_value (r s bs) _ xs t e in
      let j = (item s).written bs i.0 i.1 by i.2 in
      let i' = bind_value (many next r (next s i.0) n i.1) _ xs t i.3 in
      let j' = many_written (next s i.0) n i.1 i'.0 i'.1 (bytes_rest (w i.0) i.1 (subst Bytes j.1 by)) i'.2 in
      cons i.0 i.1 i'.0 i'.1 j j' i'.3
    where
      cons : (a : A) (u : List ℕ) (ys : List A) (v : List ℕ)
          → P s a × (bs ≡ w a ++ u) → ((length ys ≡ n) × Ps (next s a) ys) × (u ≡ write_all w ys ++ v)
          → value (a ∷ ys) v ≡ value xs t → ((length xs ≡ suc n) × Ps s xs) × (bs ≡ write_all w xs ++ t)
      cons a u ys v h h' e =
          let q : xs ≡ a ∷ ys = sym (same_value e) in
          let q' : t ≡ v = sym (same_rest e) in
          rw (q, q') ((ap suc h'.0.0, more s a ys h.0 h'.0.1), rw (append_assoc, ← h'.1) h.1)

  pub items : (s : S) (n : ℕ) → RoundTrip (λ xs. (length xs ≡ n) × Ps s xs) (write_all w) (many next r s n)
  items s n = record {
    reads = λ xs t h. rw (← h.0) (many_reads s xs t h.1);
    written = many_written s n;
  }
