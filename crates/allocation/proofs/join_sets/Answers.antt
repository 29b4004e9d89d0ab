-- `join_sets` meets its contract: the sets below s are joined, the others are as they were, and from `end` on there is nothing to join.
use mathlib.Core.Path.{◌≡◌, sym, ◌∙◌}
use mathlib.Core.Logic.{◌⊎◌, inl, inr}
use mathlib.Core.List.{List}
use Prim.Native.Nat.{ℕ, ◌≤◌, ◌<◌}
use native.Mathlib.Omega.{arith}
use lib.Bits.{or_comm}
use lib.ListN.{get_or}
use Rattle.lists.proofs.Bools.{lt_or_le}
use Rattle.timer_set.specs.Members.{joined}
use Rattle.families.specs.Propagation.{EmptyFrom}
use Rattle.allocation.proofs.join_sets.Goals as goal

-- an empty set adds nothing
joined_none : (a : ℕ) → joined a 0 ≡ a
unfolding joined
joined_none a = or_comm a 0

both : (sets all₀ all : List ℕ) {s end : ℕ} → ((q : ℕ) → q < s → get_or all q 0 ≡ joined (get_or all₀ q 0) (get_or sets q 0))
    → ((q : ℕ) → s ≤ q → get_or all q 0 ≡ get_or all₀ q 0) → s ≡ end → EmptyFrom end sets → (q : ℕ) → (q < s) ⊎ (s ≤ q)
    → get_or all q 0 ≡ joined (get_or all₀ q 0) (get_or sets q 0)
both sets all₀ all done left is e q (inl h) = done q h
both sets all₀ all done left is e q (inr h) = left q h ∙ sym (rw (e.empty q (omega (arith, h, is))) (joined_none (get_or all₀ q 0)))

pub returns : goal.returns
returns c = λ q h. both c.args.sets.now c.args.all.now c.loop-s.all c.loop-s.invariant.3 c.loop-s.invariant.4 (omega arith) c.loop-s.invariant.2 q
    (lt_or_le q c.loop-s.s)
