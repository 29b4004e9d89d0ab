-- The counter of the cheap board (document 02, P5), here called the counter board: sixteen bits, free-running.
use Rattle.std.specs.Prelude.{List, [], ◌∷◌, map, ℕ, ◌+◌, ◌-◌, ◌%◌, min}
use Rattle.model.specs.Run.{Counts}

-- how many numbers a counter of sixteen bits shows, 0 to 65,535
abbrev pub counter_numbers : ℕ
counter_numbers = 65536

-- the ticks passed: the counter now less the counter at the last step, with the wrap
unfoldable pub ticks_passed : (last now : ℕ) → ℕ
ticks_passed last now = (now + counter_numbers - last) % counter_numbers

-- what the counter shows at tick t, if it shows `first` at tick 0
unfoldable pub reading_at : (first t : ℕ) → ℕ
reading_at first t = (first + t) % counter_numbers

-- at each of these times
unfoldable pub readings_at : (first : ℕ) → (times : List ℕ) → List ℕ
readings_at first ts = map (reading_at first) ts

-- the times that readings add up to, each the ticks passed after the one before; the counter showed `last` at tick t
unfoldable pub times_of : (last t : ℕ) → (readings : List ℕ) → List ℕ
times_of last t [] = []
times_of last t (now ∷ rs) = let t' = t + ticks_passed last now in t' ∷ times_of now t' rs

-- where a count stops rising
abbrev pub most_count : ℕ
most_count = 65536

-- all counts grow by d, and stop rising there
unfoldable pub risen : (d : ℕ) → Counts → Counts
risen d v = λ j. min (v j + d) most_count
