-- The ticks that passed between two readings of the counter, and the times that readings add up to. Hard: the wrap, by remainders.
use mathlib.Core.Path.{◌≡◌, refl, ap}
use mathlib.Core.List.{List, [], ◌∷◌}
use Prim.Native.Nat.{ℕ, zero, suc, ◌+◌, ◌-◌, ◌≤◌, ◌<◌}
use native.Mathlib.Omega.{arith}
use lib.ListN.{take}
use Rattle.model.specs.Run.{largest_time}
use Rattle.counter_model.specs.Counter.{counter_numbers, ticks_passed, reading_at, readings_at, times_of}
use Rattle.counter_model.specs.CounterClaim.{EachStepFrom, NeverFallFrom, FewTicksFrom, FewTicks, FewTicksAfterFirst, Spaced, SpacedAfterFirst}

-- ---- two readings

pub ticks_few : (last now : ℕ) → ticks_passed last now < counter_numbers
unfolding ticks_passed
ticks_few last now = omega arith

pub ticks_back : (first t t' : ℕ) → t ≤ t' → t' - t < counter_numbers → ticks_passed (reading_at first t) (reading_at first t') ≡ t' - t
unfolding ticks_passed reading_at
ticks_back first t t' up few = omega arith

-- at tick 0 the counter shows `first`
pub reading_first : (first : ℕ) → first < counter_numbers → reading_at first 0 ≡ first
unfolding reading_at
reading_first first small = omega arith

-- ---- a list of them

-- times that never fall and have few ticks between them are what their readings add up to
pub times_back : (first t : ℕ) (ts : List ℕ) → NeverFallFrom t ts → FewTicksFrom t ts → times_of (reading_at first t) t (readings_at first ts) ≡ ts
unfolding times_of readings_at
times_back first t [] up few = refl
times_back first t (t' ∷ ts) up few =
    let rises = up 0 (omega arith) in
    let here : t + ticks_passed (reading_at first t) (reading_at first t') ≡ t' = omega (arith, ticks_back first t t' rises (few 0 (omega arith))) in
    rw here (ap (λ (l : List ℕ). t' ∷ l) (times_back first t' ts (λ n l. up (suc n) (omega arith)) (λ n l. few (suc n) (omega arith))))

pub spaced_back : (first : ℕ) (ts : List ℕ) → first < counter_numbers → Spaced ts → times_of first 0 (readings_at first ts) ≡ ts
spaced_back first ts small s = rw (reading_first first small) at (times_back first 0 ts s.never_fall s.few_ticks)

-- ---- the first n of them

pub readings_front : (first : ℕ) (ts : List ℕ) (n : ℕ) → take n (readings_at first ts) ≡ readings_at first (take n ts)
unfolding readings_at
readings_front first ts zero = refl
readings_front first [] (suc n) = refl
readings_front first (t ∷ ts) (suc n) = ap (λ (l : List ℕ). reading_at first t ∷ l) (readings_front first ts n)

front : (P : (before now : ℕ) → Type 0) (t : ℕ) (ts : List ℕ) → EachStepFrom t ts P → (n : ℕ) → EachStepFrom t (take n ts) P
front P t ts h zero k l = absurd (omega arith)
front P t [] h (suc n) k l = absurd (omega arith)
front P t (t' ∷ ts) h (suc n) zero l = h 0 (omega arith)
front P t (t' ∷ ts) h (suc n) (suc k) l = front P t' ts (λ m b. h (suc m) (omega arith)) n k (omega arith)

pub spaced_front : (ts : List ℕ) → SpacedAfterFirst ts → (n : ℕ) → SpacedAfterFirst (take n ts)
spaced_front ts s n = record {
  never_fall = front (λ before now. before ≤ now) 0 ts s.never_fall n;
  none_late = front (λ before now. now ≤ largest_time) 0 ts s.none_late n;
  few_ticks = after_first ts s.few_ticks n;
}
  where
    after_first : (us : List ℕ) → FewTicksAfterFirst us → (m : ℕ) → FewTicksAfterFirst (take m us)
    after_first us h zero = tt
    after_first [] h (suc m) = tt
    after_first (t ∷ us) h (suc m) = front (λ before now. now - before < counter_numbers) t us h m

-- the provisos of document 02 are more
pub spaced_after_first : (ts : List ℕ) → Spaced ts → SpacedAfterFirst ts
spaced_after_first ts s = record { never_fall = s.never_fall; none_late = s.none_late; few_ticks = go ts s.few_ticks }
  where
    go : (us : List ℕ) → FewTicks us → FewTicksAfterFirst us
    go [] h = tt
    go (t ∷ us) h = λ n l. h (suc n) (omega arith)
