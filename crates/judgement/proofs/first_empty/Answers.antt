-- `first_empty` returns the lowest place of an empty set: the search finds the first that passes, if one does.
use mathlib.Core.Path.{◌≡◌, refl, sym, ◌∙◌}
use mathlib.Core.Bool.{true, false}
use mathlib.Core.List.{List, ◌∷◌}
use Prim.Native.Nat.{ℕ, ◌+◌}
use native.Mathlib.Omega.{arith}
use borrow.Author.Tests.{tests}
use Rattle.std.proofs.Common.{rules}
use Rattle.std.proofs.lemmas.Iterator.{YieldsList-from_slice, IsFirst-from_position, index_from_first}
use Rattle.lists.specs.Lists.{lowest}
use Rattle.model.specs.Live.{is_empty}
use Rattle.judgement.specs.Places.{first_empty}
use Rattle.judgement.proofs.first_empty.Goals as goal

hit : (w : ℕ) (ws : List ℕ) → is_empty w ≡ true → first_empty (w ∷ ws) ≡ 0
unfolding first_empty lowest
hit w ws e = rw (e, lowest)

miss : (w : ℕ) (ws : List ℕ) → is_empty w ≡ false → first_empty (w ∷ ws) ≡ first_empty ws + 1
unfolding first_empty lowest
miss w ws e = rw (e, lowest) (omega arith)

pub returns : goal.returns
unfolding first_empty lowest is_empty
returns c = c.unwrap_or.ensures
    ∙ sym (index_from_first first_empty (λ w. is_empty w ≡ true) (λ w. is_empty w ≡ false) refl hit miss c.args.sets.now c.position.result
    (IsFirst-from_position _ _ _ (λ w. is_empty w ≡ true) (λ w. is_empty w ≡ false) c.position.ensures.ran (YieldsList-from_slice c.args.sets.now cc)
    (λ w q k. search (rules, tests)) (λ w q k. search (rules, tests))))
