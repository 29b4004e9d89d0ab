-- An entry of a list: there or not, and below a limit or not.
use mathlib.Core.Path.{◌≡◌, refl, ap, ◌∙◌, subst}
use mathlib.Core.Option.{Option, some, none}
use mathlib.Core.List.{List, [], ◌∷◌}
use Prim.Native.Nat.{ℕ, zero, suc, ◌<◌}
use native.Mathlib.Omega.{arith}
use lib.Dec.{ltb}
use lib.ListN.{length, get_or, get_elem?}
use borrow.Author.Tests.{lt-ltb, ltb-true}
use Rattle.model.specs.Answer.{Answer, returned, refused, nowhere}
use Rattle.file_format.proofs.Answers.{result_refused, then_result, unless_result}
use Rattle.list_judging.specs.FromLists.{or_refused, entry_at, limited, entry_below}

pub nth_in : {A : Type 0} (l : List A) (k : ℕ) (d : A) → k < length l → get_elem? l k ≡ some (get_or l k d)
nth_in [] k d h = absurd (omega arith)
nth_in (x ∷ l) zero d h = refl
nth_in (x ∷ l) (suc k) d h = nth_in l k d (omega arith)

-- ---- there or not

pub or_refused_some : {A : Type 0} (n p : ℕ) (o : Option A) {x : A} → or_refused n p o ≡ returned x → o ≡ some x
or_refused_some n p none e = absurd (result_refused e refl)
or_refused_some n p (some y) e = cc

module _ (l : List ℕ) (k : ℕ) where
  pub entry_some : {x : ℕ} → entry_at l k ≡ returned x → get_elem? l k ≡ some x
  unfolding entry_at
  entry_some e = or_refused_some 3 nowhere (get_elem? l k) e

  pub some_entry : {x : ℕ} → get_elem? l k ≡ some x → entry_at l k ≡ returned x
  unfolding entry_at
  some_entry e = ap (or_refused 3 nowhere) e

-- ---- below a limit or not

module _ (limit n p : ℕ) {x : Answer ℕ} where
  pub limited_refused : {m q : ℕ} → x ≡ refused m q → limited limit n p x ≡ refused m q
  unfolding limited
  limited_refused e = rw e

  pub limited_in : {v : ℕ} → x ≡ returned v → v < limit → limited limit n p x ≡ returned v
  unfolding limited
  limited_in {v} e h = rw (e, lt-ltb v limit h)

module _ (l : List ℕ) (k limit n p : ℕ) where
  -- an entry that is read and then held to its limit
  pub entry_limited : {x y : Answer ℕ} → x ≡ entry_at l k → y ≡ limited limit n p x → y ≡ entry_below l k limit n p
  entry_limited e h = h ∙ ap (limited limit n p) e

  pub below_some : {x : ℕ} → entry_below l k limit n p ≡ returned x → (get_elem? l k ≡ some x) × (x < limit)
  unfolding limited
  below_some {x} e =
      let a = then_result (entry_at l k) _ e in
      let b = unless_result (ltb a.0 limit) n p (returned a.0) a.2 in
      let q : a.0 ≡ x = cc in
      (entry_some l k (a.1 ∙ ap returned q), subst (λ (y : ℕ). y < limit) q (ltb-true a.0 limit b.0))

  pub some_below : {x : ℕ} → get_elem? l k ≡ some x → x < limit → entry_below l k limit n p ≡ returned x
  some_below e h = limited_in limit n p (some_entry l k e) h
