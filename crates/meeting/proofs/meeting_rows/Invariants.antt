use mathlib.Core.Path.{◌≡◌}
use Prim.Native.Nat.{ℕ, ◌≤◌, ◌<◌}
use lib.ListN.{length, get_or}
use Rattle.timer_set.specs.Members.{member}
use Rattle.model.specs.Floor.{most_searched}
use Rattle.meeting.specs.Meeting.{meet_at}
use Rattle.meeting.proofs.meeting_rows.Given as goal

abbrev pub invariant-loop-i : goal.invariant-loop-i
invariant-loop-i l = (l.n ≤ most_searched) × (length l.rows ≡ most_searched)
    × ((k : ℕ) → k < l.i → (j : ℕ) → member (get_or l.rows k 0) j ≡ meet_at l.families_at k j)
