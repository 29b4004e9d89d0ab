-- Edges that leave the first locations of a list, gone over location by location. One location more adds the edges that leave it.
use mathlib.Core.Path.{◌≡◌, sym, ap, ◌∙◌}
use mathlib.Core.Logic.{◌⊎◌, inl, inr}
use mathlib.Core.List.{List}
use Prim.Native.Nat.{ℕ, ◌+◌}
use native.Mathlib.Decide.{ℕ_discrete}
use native.Mathlib.Omega.{arith}
use lib.ListN.{get_or}
use Rattle.worklist.specs.Worklist.{Among}
use Rattle.worklist.specs.GoneOver.{GoneOver, Leaves}
use Rattle.worklist.proofs.GoingOver.{gone_more, gone_as}
use Rattle.flow.specs.Rounds.{LeavesOne}

-- the edges that leave the next location, too
pub over_more : {from into cut changed sets idle mid idleMid after idleAfter : List ℕ} {stood : ℕ → ℕ} {i : ℕ}
    → GoneOver from into cut (LeavesOne from changed i) stood sets idle mid idleMid
    → GoneOver from into cut (Leaves from (get_or changed i 0)) (λ q. stood (get_or changed i 0)) mid idleMid after idleAfter
    → GoneOver from into cut (LeavesOne from changed (i + 1)) stood sets idle after idleAfter
over_more {changed = changed} {stood = stood} {i = i} x y =
    gone_more (λ j l a. cases a (ℕ_discrete a.place i))
    (λ j l a. record { place = a.place; below = omega (arith, a.below); is_at = a.is_at })
    (λ j l e. record { place = i; below = omega arith; is_at = sym e }) x (gone_as (λ j l e. e) (λ j l e. e) (λ j l e. ap stood (sym e)) y)
  where
    cases : {q : ℕ} (a : Among changed (i + 1) q) → Dec (a.place ≡ i) → Among changed i q ⊎ (q ≡ get_or changed i 0)
    cases a (yes e) = inr (sym a.is_at ∙ ap (λ (k : ℕ). get_or changed k 0) e)
    cases a (no ne) = inl (record { place = a.place; below = omega (arith, a.below, ne); is_at = a.is_at })
