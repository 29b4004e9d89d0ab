-- Gathered lists: of a sum of numbers, of lists that are empty from a bound on, and of rows of 64 as one. Hard: the rows as one list, whose place x
-- is row x / 64 and column x % 64.
use mathlib.Core.Path.{◌≡◌, refl, sym, ap, ap₂, ◌∙◌}
use mathlib.Core.List.{List, [], ◌++◌, append-nil, append_assoc}
use Prim.Native.Nat.{ℕ, zero, suc, ◌+◌, ◌-◌, ◌*◌, ◌/◌, ◌%◌, ◌≤◌, ◌<◌}
use native.Mathlib.Nat.{add-zero, add-suc}
use native.Mathlib.Omega.{arith}
use Rattle.lists.specs.Lists.{gather}

-- place 64 * n + i is in row n and column i
pub row_of : (n i : ℕ) → i < 64 → (64 * n + i) / 64 ≡ n
row_of n i h = omega arith

pub column_of : (n i : ℕ) → i < 64 → (64 * n + i) % 64 ≡ i
column_of n i h = omega arith

module _ {A : Type 0} where
  pub gather_same : (f g : ℕ → List A) (n : ℕ) → ((i : ℕ) → i < n → f i ≡ g i) → gather f n ≡ gather g n
  unfolding gather
  gather_same f g zero e = refl
  gather_same f g (suc n) e = ap₂ ◌++◌ (gather_same f g n (λ i h. e i (omega arith))) (e n (omega arith))

  gather_sum : (f : ℕ → List A) (m n : ℕ) → gather f (m + n) ≡ gather f m ++ gather (λ i. f (m + i)) n
  unfolding gather
  gather_sum f m zero = rw add-zero (sym (append-nil _))
  gather_sum f m (suc n) =
      let last = append_assoc (gather f m) (gather (λ i. f (m + i)) n) (f (m + n)) in
      rw add-suc (ap (λ (l : List A). l ++ f (m + n)) (gather_sum f m n) ∙ last)

  gather_empty : (f : ℕ → List A) (n : ℕ) → ((i : ℕ) → f i ≡ []) → gather f n ≡ []
  unfolding gather
  gather_empty f zero e = refl
  gather_empty f (suc n) e = ap₂ ◌++◌ (gather_empty f n e) (e n)

  -- nothing comes from the bound on
  pub gather_more : (f : ℕ → List A) (m n : ℕ) → m ≤ n → ((i : ℕ) → m ≤ i → f i ≡ []) → gather f n ≡ gather f m
  gather_more f m n h e =
      ap (gather f) (sum m n h) ∙ gather_sum f m (n - m)
      ∙ ap (λ (l : List A). gather f m ++ l) (gather_empty (λ i. f (m + i)) (n - m) (λ i. e (m + i) (omega arith))) ∙ append-nil _
    where
      sum : (m n : ℕ) → m ≤ n → n ≡ m + (n - m)
      sum m n h = omega arith

  -- rows of 64
  pub gather_rows : (f : ℕ → ℕ → List A) (n : ℕ) → gather (λ x. f (x / 64) (x % 64)) (64 * n) ≡ gather (λ q. gather (f q) 64) n
  unfolding gather
  gather_rows f zero = refl
  gather_rows f (suc n) =
      ap (gather (λ x. f (x / 64) (x % 64))) (row n) ∙ gather_sum (λ x. f (x / 64) (x % 64)) (64 * n) 64
      ∙ ap₂ ◌++◌ (gather_rows f n) (gather_same _ (f n) 64 (λ i h. ap₂ f (row_of n i h) (column_of n i h)))
    where
      row : (n : ℕ) → 64 * suc n ≡ 64 * n + 64
      row n = omega arith
