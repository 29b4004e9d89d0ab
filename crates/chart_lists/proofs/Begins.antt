-- Lists that begin with others: what is written over a front begins with it, and the front of that length is it.
use mathlib.Core.Path.{◌≡◌, refl, sym, ap, ◌∙◌}
use mathlib.Core.List.{List}
use Prim.Native.Nat.{ℕ, ◌≤◌, ◌<◌}
use native.Mathlib.Omega.{arith}
use lib.ListN.{length, get_or, take, length-take}
use lib.Seq.{take-length, get_or-take}
use Rattle.chart_lists.specs.Lists.{put}
use Rattle.chart_lists.specs.Begins.{Begins}
use Rattle.chart_lists.proofs.Put.{take_put}

pub begins_self : (xs : List ℕ) → Begins xs xs
begins_self xs = record { is = take-length xs }

pub begins_put : (xs l : List ℕ) {out : List ℕ} → out ≡ put xs l → Begins xs out
begins_put xs l e = record { is = rw e (take_put xs l (length xs) refl) }

module _ {xs l : List ℕ} (b : Begins xs l) where
  -- the part that a callee is lent
  pub begins_take : {n : ℕ} → n ≡ length xs → take n l ≡ xs
  begins_take e = rw e b.is

  pub begins_part : {n : ℕ} → n ≡ length xs → length (take n l) ≡ n
  begins_part e = ap length (begins_take e) ∙ sym e

  pub begins_room : length xs ≤ length l
  begins_room = omega (arith, ap length b.is, length-take (length xs) l)

  pub begins_get_d : (i d : ℕ) → i < length xs → get_or l i d ≡ get_or xs i d
  begins_get_d i d h = sym (get_or-take (length xs) l i d h) ∙ ap (λ (y : List ℕ). get_or y i d) b.is
