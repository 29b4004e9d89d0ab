-- The nine lists of a call, in one short form: as a contract names them at the call's entry and at its exit.
use Rattle.std.specs.Prelude.{List, ℕ}
use Rattle.std.specs.Borrow.{Bor, MutBor}
use denote.Triple.Both.{Both}
use Rattle.chart_lists.specs.Lists.{Lists, lists}

-- a slice of numbers, lent to be read; and one that is lent to be written
abbrev pub Slice : Type 0
Slice = Bor (List ℕ)

abbrev pub MutSlice : Type 0
MutSlice = MutBor (List ℕ)

-- in a `requires`
abbrev pub passed : (accepting sources targets events starts testCounts timers codes constants : Slice) → Lists
passed a s t e w g j x k = lists a.now s.now t.now e.now w.now g.now j.now x.now k.now

abbrev pub passed_mut : (accepting sources targets events starts testCounts timers codes constants : MutSlice) → Lists
passed_mut a s t e w g j x k = lists a.now s.now t.now e.now w.now g.now j.now x.now k.now

-- in an `ensures`: as the call found them, and as it leaves them
abbrev pub at_entry : (accepting sources targets events starts testCounts timers codes constants : Both Slice Slice) → Lists
at_entry a s t e w g j x k = passed a.entry s.entry t.entry e.entry w.entry g.entry j.entry x.entry k.entry

abbrev pub mut_at_entry : (accepting sources targets events starts testCounts timers codes constants : Both MutSlice MutSlice) → Lists
mut_at_entry a s t e w g j x k = passed_mut a.entry s.entry t.entry e.entry w.entry g.entry j.entry x.entry k.entry

abbrev pub at_exit : (accepting sources targets events starts testCounts timers codes constants : Both MutSlice MutSlice) → Lists
at_exit a s t e w g j x k = passed_mut a.exit s.exit t.exit e.exit w.exit g.exit j.exit x.exit k.exit
