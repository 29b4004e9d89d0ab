-- The starting counts on the board, written one head after another. A head's block begins on the board.
use mathlib.Core.Path.{◌≡◌}
use mathlib.Core.List.{List}
use Prim.Native.Nat.{ℕ, ◌+◌, ◌≤◌, ◌<◌, min}
use native.Mathlib.Numerals.{add-one}
use native.Mathlib.Omega.{arith}
use lib.ListN.{length}
use Rattle.controller_model.specs.Parts.{offset, written}
use Rattle.controller_model.specs.Controlling.{start_counts}
use Rattle.controller_model.proofs.ListParts.{offset_apart}
use Rattle.controller.specs.Judged.{CountsFit}

module _ {blocks : List ℕ} {counts : ℕ → List ℕ} {n : ℕ} (fits : CountsFit blocks counts n) (h : ℕ) (b : h < n) {o : ℕ}
    (q : o ≡ min (offset blocks h) 64) {xs : List ℕ} (e : xs ≡ counts h) where
  pub counts_on_board : o + length xs ≤ 64
  counts_on_board = rw e (omega (arith, fits.long h b, offset_apart blocks h n b, fits.total))

  pub next_counts : {all r : List ℕ} → all ≡ start_counts blocks counts h → r ≡ written o xs all → r ≡ start_counts blocks counts (h + 1)
  unfolding start_counts
  next_counts a w =
      let p : o ≡ offset blocks h = omega (arith, offset_apart blocks h n b, fits.total) in
      rw (w, a, e, p, add-one h)
