-- Every number below n passes, looked at one after another.
use mathlib.Core.Path.{◌≡◌, refl, sym, ap, ◌∙◌}
use mathlib.Core.Bool.{Bool, true, false, not, ◌&&◌}
use mathlib.Core.List.{List, [], ◌∷◌}
use Prim.Native.Nat.{ℕ, zero, suc, ◌+◌, ◌-◌, ◌≤◌, ◌<◌}
use native.Mathlib.Omega.{arith}
use borrow.Author.Count.{below_more}
use borrow.Author.Tests.{lt-leb}
use Rattle.lists.specs.Lists.{lowest}
use Rattle.lists.proofs.Lowest.{lowest_most}
use lib.Dec.{leb}
use lib.ListN.{length, get_or, take, drop, length-drop}
use lib.Seq.{length-take-le}
use Rattle.std.specs.List.{list_all}
use Rattle.lists.proofs.Bools.{and_left, and_right}
use Rattle.controller_model.specs.Parts.{every_below, stretch}
use Rattle.controller_model.proofs.ListParts.{every_in}

-- every number below j passes
pub record PassTo (f : ℕ → Bool) (j : ℕ) : Type 0 where
  pub before : (k : ℕ) → k < j → f k ≡ true

module _ (f : ℕ → Bool) where
  pub pass_none : PassTo f 0
  pass_none = record { before = λ k l. absurd (omega arith) }

  pub pass_more : (j : ℕ) → f j ≡ true → PassTo f j → PassTo f (j + 1)
  pass_more j e p = record { before = below_more (λ (k : ℕ). f k ≡ true) j p.before e }

  pub pass_all : (n j : ℕ) → n ≤ j → PassTo f j → true ≡ every_below f n
  pass_all n j h p = sym (every_in f n (λ i l. p.before i (omega arith)))

  pub fails_here : (n j : ℕ) → j < n → f j ≡ false → false ≡ every_below f n
  unfolding every_below
  fails_here n j h e = let g : ℕ → Bool = λ i. not (f i) in sym (lt-leb n (lowest g n) (omega (arith, lowest_most g n j (ap not e))))

-- ---- every entry of a list passes, as the library says it

module _ (f : ℕ → Bool) where
  entry_in : (xs : List ℕ) → list_all f xs ≡ true → (i : ℕ) → i < length xs → f (get_or xs i 0) ≡ true
  entry_in [] e i l = absurd (omega arith)
  entry_in (x ∷ xs) e zero l = and_left (f x) (list_all f xs) e
  entry_in (x ∷ xs) e (suc i) l = entry_in xs (and_right (f x) (list_all f xs) e) i (omega arith)

  entry_out : (xs : List ℕ) → list_all f xs ≡ false → (i : ℕ) × (i < length xs) × (f (get_or xs i 0) ≡ false)
  entry_out [] e = cc
  entry_out (x ∷ xs) e = go (f x) refl e (entry_out xs)
    where
      go : (b : Bool) → f x ≡ b → (b && list_all f xs) ≡ false
          → (list_all f xs ≡ false → (i : ℕ) × (i < length xs) × (f (get_or xs i 0) ≡ false))
          → (i : ℕ) × (i < length (x ∷ xs)) × (f (get_or (x ∷ xs) i 0) ≡ false)
      go true g h later = let r = later h in (suc r.0, omega (arith, r.1), r.2)
      go false g h later = (0, omega arith, g)

  all_entries : (xs : List ℕ) → list_all f xs ≡ every_below (λ j. f (get_or xs j 0)) (length xs)
  all_entries xs = go (list_all f xs) refl
    where
      go : (b : Bool) → list_all f xs ≡ b → b ≡ every_below (λ j. f (get_or xs j 0)) (length xs)
      go true e = sym (every_in (λ j. f (get_or xs j 0)) (length xs) (entry_in xs e))
      go false e = let r = entry_out xs e in fails_here (λ j. f (get_or xs j 0)) (length xs) r.0 r.1 r.2

-- those of a stretch of a list, as the code cuts it out
pub all_in_stretch : (bound o n : ℕ) (l : List ℕ) → o + n ≤ length l
    → list_all (λ x. leb x bound) (take (o + n - o) (drop o l)) ≡ every_below (λ j. leb (get_or (stretch o n l) j 0) bound) n
unfolding stretch
all_in_stretch bound o n l h =
    let e : o + n - o ≡ n = omega arith in
    let k : length (take n (drop o l)) ≡ n = length-take-le n (drop o l) (omega (arith, length-drop o l)) in
    rw e (all_entries (λ x. leb x bound) (take n (drop o l)) ∙ ap (every_below (λ j. leb (get_or (take n (drop o l)) j 0) bound)) k)
