-- The number of each reason (document 01, "Turned down ..").
use Rattle.std.specs.Prelude.{ℕ}
use Rattle.refusal.specs.declared.Reason.{Reason}
use Rattle.refusal.specs.declared.Reason.TheVariants as reason

abbrev pub number_of : Reason → ℕ
number_of reason.WrongLength = 1
number_of reason.WrongVersion = 2
number_of reason.CutOff = 3
number_of reason.TooMany = 4
number_of reason.NoSuchLocation = 5
number_of reason.NoSuchTimer = 6
number_of reason.NotRising = 7
number_of reason.NoSuchComparison = 8
number_of reason.Unreached = 9
number_of reason.Unstarted = 10
number_of reason.LimitTooLarge = 11
number_of reason.WrongCounts = 12
number_of reason.UnequalLists = 13
number_of reason.NoSuchTransition = 14
number_of reason.TimeTooLarge = 15
number_of reason.InputTooLong = 16
number_of reason.ConstantTooLarge = 17
number_of reason.NotForCounter = 18
number_of reason.BoardTooSmall = 20
number_of reason.NoRoom = 21
number_of reason.WrongSource = 22
number_of reason.TimeBefore = 23
number_of reason.TestNotMet = 24
number_of reason.WrongHeads = 25
number_of reason.NoFreeHead = 26
number_of reason.WrongState = 32
