-- How a list that begins with others is taken apart and put together.
use mathlib.Core.Path.{◌≡◌, refl, sym, ap, ◌∙◌}
use mathlib.Core.Option.{some}
use mathlib.Core.List.{List, [], ◌∷◌, ◌++◌, map}
use Prim.Native.Nat.{ℕ, zero, suc, ◌+◌}
use native.Mathlib.Omega.{arith}
use lib.ListN.{length, take, drop, get_elem?, length-append}
use lib.Seq.{take-append_seam, drop-append_seam, take-take, take-add, drop-drop}
use Rattle.model.specs.Answer.{Answer, returned}
use Rattle.chart_lists.specs.Begins.{Begins}
use Rattle.list_judging.proofs.Items.{Each}

-- at place i of a list
module _ {x : ℕ} {xs : List ℕ} where
  begins_cons : (w : List ℕ) (i : ℕ) → get_elem? w i ≡ some x → Begins xs (drop (suc i) w) → Begins (x ∷ xs) (drop i w)
  begins_cons [] i e h = let z : ◌≡◌ {A = ℕ} 0 1 = cc in absurd (omega arith)
  begins_cons (y ∷ w) zero e h = let q : y ≡ x = cc in record { is = rw (q, h.is) }
  begins_cons (y ∷ w) (suc i) e h = begins_cons w i e h

  pub begins_split : (w : List ℕ) (i : ℕ) → Begins (x ∷ xs) (drop i w) → (get_elem? w i ≡ some x) × Begins xs (drop (suc i) w)
  begins_split [] zero h = let z : ◌≡◌ {A = ℕ} 0 1 = cc h.is in absurd (omega arith)
  begins_split [] (suc i) h = let z : ◌≡◌ {A = ℕ} 0 1 = cc h.is in absurd (omega arith)
  begins_split (y ∷ w) zero h = (cc h.is, record { is = cc h.is })
  begins_split (y ∷ w) (suc i) h = begins_split w i h

module _ (xs ys : List ℕ) where
  two_parts : (w : List ℕ) → take (length (xs ++ ys)) w ≡ take (length xs) w ++ take (length ys) (drop (length xs) w)
  two_parts w = rw length-append (take-add (length xs) (length ys) w)

  pub begins_front : {w : List ℕ} → Begins (xs ++ ys) w → Begins xs w
  begins_front {w} h = record {
    is = sym (take-take (length xs) (length (xs ++ ys)) w (rw length-append (omega arith))) ∙ rw h.is (take-append_seam xs ys);
  }

  pub begins_back : (w : List ℕ) (i : ℕ) → Begins (xs ++ ys) (drop i w) → Begins ys (drop (i + length xs) w)
  begins_back w i h =
      let f = (begins_front h).is in
      let e : xs ++ take (length ys) (drop (length xs) (drop i w)) ≡ xs ++ ys = rw f at (sym (two_parts (drop i w)) ∙ h.is) in
      record { is = rw (← drop-drop (length xs) i w) (rw (drop-append_seam, drop-append_seam) at (ap (drop (length xs)) e)) }

  pub begins_append : (w : List ℕ) (i : ℕ) → Begins xs (drop i w) → Begins ys (drop (i + length xs) w) → Begins (xs ++ ys) (drop i w)
  begins_append w i a b = record { is = two_parts (drop i w) ∙ rw (a.is, drop-drop (length xs) i w, b.is) }

-- a list that has an entry for each item begins with these
module _ {A : Type 0} (item : (i s : ℕ) → Answer A) (next : ℕ → A → ℕ) (f : A → ℕ) (w : List ℕ)
    (e : (i s : ℕ) (a : A) → item i s ≡ returned a → get_elem? w i ≡ some (f a)) where
  pub each_begins : (i s : ℕ) (xs : List A) → Each item next i s xs → Begins (map f xs) (drop i w)
  each_begins i s [] h = record { is = refl }
  each_begins i s (a ∷ xs) h = begins_cons w i (e i s a h.0) (each_begins (suc i) (next s a) xs h.1)
