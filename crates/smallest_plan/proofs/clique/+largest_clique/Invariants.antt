-- `largest_clique` takes each candidate left in turn, and calls itself for those that it meets; its measure is the word of the candidates.
use Rattle.std.proofs.Common.{◌≡◌, true, ℕ, ◌≤◌}
use Rattle.timer_set.specs.Members.{member}
use Rattle.smallest_plan.specs.Cliques.{NumbersNeeded}
use Rattle.smallest_plan.proofs.clique.+largest_clique.Given as goal

abbrev pub decreases-largest_clique : goal.decreases-largest_clique
decreases-largest_clique l = l.candidates.bits

abbrev pub invariant-loop-best : goal.invariant-loop-best
invariant-loop-best l =
    (l.left.bits ≤ l.fn.candidates.bits) × ((i : ℕ) → member l.left.bits i ≡ true → member l.fn.candidates.bits i ≡ true)
    × NumbersNeeded l.rows l.fn.candidates.bits l.least l.best

abbrev pub decreases-loop-best : goal.decreases-loop-best
decreases-loop-best l = l.left.bits
