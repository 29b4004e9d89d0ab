-- The fields of the file are read and written so that each undoes the other: numbers of any width, rising lists, comparisons. Hard: a number, whose
-- highest byte is read first and whose lowest is split off first: by induction over the width.
use mathlib.Core.Path.{◌≡◌, refl, sym, ap, ◌∙◌}
use mathlib.Core.Option.{Option, none, some}
use mathlib.Core.List.{List, [], ◌∷◌, ◌++◌, append-nil}
use Prim.Native.Nat.{ℕ, zero, suc, ◌+◌, ◌*◌, ◌^◌, ◌/◌, ◌%◌, ◌≤◌, ◌<◌}
use native.Mathlib.Nat.{pow-suc}
use native.Mathlib.Omega.{arith}
use lib.Dec.{ltb, leb}
use lib.ListN.{length}
use borrow.Author.Tests.{ltb-true, lt-ltb, leb-true, le-leb}
use Rattle.comparison.specs.declared.Comparison.{Comparison}
use Rattle.comparison.specs.Comparison.{comparison_of, code_of}
use Rattle.comparison.proofs.Comparisons.{comparison_code, code_below, code_comparison}
use Rattle.lists.specs.Rising.{Rising}
use Rattle.lists.proofs.Gather.{rising_length}
use Rattle.file_format.specs.Parse.{value, byte, number, below, entry, rising, digits, write_all, Bytes}
use Rattle.file_format.specs.Body.{known, read_comparison}
use Rattle.file_format.proofs.Parsed.{value_refused, same_value, same_rest}
use Rattle.file_format.proofs.RoundTrip.{RoundTrip, restated, field, condition, end, items}

byte_trip : RoundTrip (λ b. b < 256) (λ b. b ∷ []) byte
byte_trip = record { reads = λ b t h. refl; written = written }
  where
    written : (bs : List ℕ) (b : ℕ) (t : List ℕ) → Bytes bs → byte bs ≡ value b t → (b < 256) × (bs ≡ b ∷ t)
    written [] b t by e = absurd (value_refused e refl)
    written (x ∷ xs) b t by e = let q : x ≡ b = same_value e in (omega (arith, by.0), cc)

-- one byte more widens a number by the factor 256
wider : (w v : ℕ) → v / 256 < 256 ^ w → v < 256 ^ suc w
wider w v h = rw pow-suc (omega arith)

narrower : (w v : ℕ) → v < 256 ^ suc w → v / 256 < 256 ^ w
narrower w v h = let q : v < 256 ^ w * 256 = rw pow-suc at h in omega arith

pub number_trip : (w : ℕ) → RoundTrip (λ v. v < 256 ^ w) (digits w) (number w)
unfolding number digits
number_trip zero = restated (λ v h. omega (arith, h.0)) (λ v h. (omega arith, tt)) (λ v. refl) (end (λ v. v ≡ 0) 0 refl (λ v c. c))
number_trip (suc w) =
    restated (λ v h. wider w v h.1.0) (λ v h. (tt, (narrower w v h, (omega arith, tt)))) (λ v. refl)
    (field (λ v. Unit {0}) (λ v. v / 256) _ (number_trip w)
    (λ high h. field _ (λ v. v % 256) _ byte_trip
    (λ low l. end _ (high * 256 + low) ((tt, omega arith), omega arith) (λ v c. omega (arith, c.0.1, c.1)))))

-- a number below a limit that w bytes can hold
pub below_trip : (w limit n p : ℕ) → limit ≤ 256 ^ w → RoundTrip (λ v. v < limit) (digits w) (below w limit n p)
unfolding below
below_trip w limit n p h =
    restated {w = λ v. digits w v ++ []} (λ v c. ltb-true _ _ c.1.1.0) (λ v c. (tt, (omega arith, (lt-ltb _ _ c, tt)))) (λ v. append-nil _)
    (field (λ v. Unit {0}) (λ v. v) _ (number_trip w)
    (λ x q. condition _ n p (λ v. ltb v limit) _ (λ b c. ap (λ y. ltb y limit) c.1)
    (λ t. end _ x (tt, refl) (λ b c. c.1))))

entry_trip : (w limit n p : ℕ) → limit ≤ 256 ^ w → (lo : ℕ) → RoundTrip (λ x. (lo ≤ x) × (x < limit)) (digits w) (entry w limit n p lo)
unfolding entry
entry_trip w limit n p h lo =
    restated {w = λ v. digits w v ++ []}
    (λ v c. (leb-true _ _ c.1.1.0, c.1.0)) (λ v c. (tt, (c.1, (le-leb _ _ c.0, tt)))) (λ v. append-nil _)
    (field (λ v. Unit {0}) (λ v. v) _ (below_trip w limit n p h)
    (λ x q. condition _ 7 p (λ v. leb lo v) _ (λ b c. ap (λ y. leb lo y) c.1)
    (λ t. end _ x (tt, refl) (λ b c. c.1))))

pub rising_trip : (w limit n p k : ℕ) → limit ≤ 256 ^ w
    → RoundTrip (λ xs. (length xs ≡ k) × Rising limit 0 xs) (write_all (digits w)) (rising w limit n p k)
unfolding rising
rising_trip w limit n p k h =
    items (λ (lo x : ℕ). suc x) (λ lo x. (lo ≤ x) × (x < limit)) (Rising limit) (λ lo. tt) (λ lo x xs p r. (p, r)) (λ lo x xs r. r)
    (digits w) (entry w limit n p) (entry_trip w limit n p h) 0 k

-- such a list has no more entries than the limit, or anything above it
pub rising_most : (limit most : ℕ) (xs : List ℕ) → limit ≤ most → Rising limit 0 xs → length xs ≤ most
rising_most limit most xs h r = omega (arith, rising_length limit 0 xs r (omega arith))

-- ---- comparisons

known_trip : (i code : ℕ) → RoundTrip (λ x. (Unit {0} × (code_of x ≡ code)) × Unit {0}) (λ x. []) (λ t. known i (comparison_of code) t)
known_trip i code = record {
  reads = λ x t h. let q : comparison_of code ≡ some x = ap comparison_of (sym h.0.1) ∙ comparison_code x in rw q;
  written = λ bs x t by e. go bs x t (comparison_of code) refl e;
}
  where
    go : (bs : List ℕ) (x : Comparison) (t : List ℕ) (o : Option Comparison) → comparison_of code ≡ o → known i o bs ≡ value x t
        → ((Unit {0} × (code_of x ≡ code)) × Unit {0}) × (bs ≡ t)
    go bs x t none f e = absurd (value_refused e refl)
    go bs x t (some y) f e = (((tt, sym (code_comparison code x (f ∙ ap some (same_value e)))), tt), same_rest e)

pub comparison_trip : (i : ℕ) → RoundTrip (λ x. Unit {0}) (λ x. digits 1 (code_of x)) (read_comparison i)
unfolding read_comparison
comparison_trip i =
    restated {w = λ x. digits 1 (code_of x) ++ []} (λ x h. tt) (λ x h. (tt, (omega (arith, code_below x), tt))) (λ x. append-nil _)
    (field (λ x. Unit {0}) code_of _ (number_trip 1) (λ code h. known_trip i code))
