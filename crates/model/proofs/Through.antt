-- A numbering read through a function: which number a timer has, and which has none.
use mathlib.Core.Path.{◌≡◌, sym, ◌∙◌}
use mathlib.Core.Logic.{◌⊎◌, inl, inr}
use mathlib.Core.Bool.{true, false}
use mathlib.Core.Option.{none, none-ne-some}
use mathlib.Core.List.{List}
use Prim.Native.Nat.{ℕ}
use lib.ListN.{get_or}
use Rattle.timer_set.specs.Members.{member}
use Rattle.lists.proofs.Bools.{yes_or_no}
use Rattle.model.specs.Rewrite.{Numbering, through}
use Rattle.model.specs.Plan.{Has}

module _ (sets : List ℕ) (f : ℕ → ℕ) (N : Numbering) (q j : ℕ) where
  pub through_in : member (get_or sets q 0) j ≡ true → (through sets f N).number q j ≡ N.number q (f j)
  unfolding through
  through_in h = rw (h, through)

  pub through_out : member (get_or sets q 0) j ≡ false → (through sets f N).number q j ≡ none
  unfolding through
  through_out h = rw (h, through)

  pub through_has : (k : ℕ) → Has (through sets f N) q j k → (member (get_or sets q 0) j ≡ true) × Has N q (f j) k
  through_has k e = go (yes_or_no (member (get_or sets q 0) j))
    where
      go : (member (get_or sets q 0) j ≡ true) ⊎ (member (get_or sets q 0) j ≡ false) → (member (get_or sets q 0) j ≡ true) × Has N q (f j) k
      go (inl h) = (h, sym (through_in h) ∙ e)
      go (inr h) = absurd (none-ne-some _ (sym (through_out h) ∙ e))
