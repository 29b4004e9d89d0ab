-- A loop over places goes up to a number that was converted to one.
use mathlib.Core.Path.{◌≡◌}
use Prim.Native.Nat.{ℕ, ◌≤◌, ◌<◌}
use native.Mathlib.Omega.{arith}

pub more : {k n m : ℕ} → m ≡ n → k < m → k < n
more e h = omega arith

pub all : {k n m : ℕ} → m ≡ n → m ≤ k → n ≤ k
all e h = omega arith
