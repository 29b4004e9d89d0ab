-- The timers that are their own lowest twin, found one after another.
use mathlib.Core.Path.{◌≡◌, refl}
use mathlib.Core.Bool.{true, false}
use mathlib.Core.List.{List, foldl-append}
use Prim.Native.Nat.{ℕ, ◌+◌}
use native.Mathlib.Numerals.{add-one}
use lib.Dec.{eqb}
use Rattle.lists.specs.Lists.{gather, pick}
use Rattle.timer_set.specs.Members.{added, set_of}
use Rattle.model.specs.Twins.{lowest_in_same}
use Rattle.twins.specs.LowestTwins.{own_below}

module _ (ws : List ℕ) (n : ℕ) where
  pub own_none : own_below ws n 0 ≡ 0
  unfolding set_of pick gather
  own_none = refl

  module _ (i : ℕ) where
    pub own_yes : eqb (lowest_in_same ws n i) i ≡ true → own_below ws n (i + 1) ≡ added (own_below ws n i) i
    unfolding set_of pick gather
    own_yes e = rw (add-one, gather, e, foldl-append)

    pub own_no : eqb (lowest_in_same ws n i) i ≡ false → own_below ws n (i + 1) ≡ own_below ws n i
    unfolding set_of pick gather
    own_no e = rw (add-one, gather, e, foldl-append)
