-- The largest file of a version that the reader accepts is that of the full chart. Laws of any number of equal elements give its length and that it
-- is valid, so the file itself is never computed.
use mathlib.Core.Path.{◌≡◌, refl, subst}
use mathlib.Core.Bool.{true}
use mathlib.Core.List.{List}
use Prim.Native.Nat.{ℕ, zero, suc, ◌≤◌}
use native.Mathlib.Nat.{one-le-pow}
use native.Mathlib.Omega.{arith}
use lib.ListN.{length, replicate, length-replicate}
use Rattle.lists.specs.Rising.{All}
use Rattle.lists.proofs.Gather.{length_up_to, up_to_rising}
use Rattle.lists.proofs.Sums.{sum_replicate}
use Rattle.model.specs.Answer.{returned}
use Rattle.model.specs.Chart.{Chart}
use Rattle.model.specs.Version.{known_version, width_of}
use Rattle.model.specs.Valid.{ValidTest, ValidTransition, Valid, Storable}
use Rattle.file_format.specs.Body.{record_length}
use Rattle.file_format.specs.Parse.{Bytes}
use Rattle.file_format.specs.File.{chart_in, file_of}
use Rattle.file_format.specs.Lengths.{transition_length, body_length, file_length, most_bytes, full_transition, full_chart}
use Rattle.file_format.specs.Lengths.{largest_file, largest_of_version1, LargestFile}
use Rattle.file_format.proofs.Lengths.{length_file, file_most, largest_file_lem}
use Rattle.file_format.proofs.File.{chart_survives, file_survives, reads_storable}

all_same : {A : Type 0} (P : A → Type 0) (a : A) → P a → (n : ℕ) → All P (replicate n a)
all_same P a p zero = tt
all_same P a p (suc n) = (p, all_same P a p n)

module _ (W : ℕ) where
  full_transition_lem : ValidTransition W 256 64 full_transition
  unfolding full_transition
  full_transition_lem = record {
    source = omega arith;
    target = omega arith;
    event = omega arith;
    starts = up_to_rising 64;
    few_tests = omega arith;
    tests = all_same (ValidTest W 64) _ (record { timer = omega arith; constant = one-le-pow W 256 (omega arith) }) 8;
  }

  full_valid : (version : ℕ) → Valid W (full_chart version)
  unfolding full_chart
  full_valid version = record {
    some_location = omega arith;
    few_locations = omega arith;
    initial = omega arith;
    few_timers = omega arith;
    accepting = up_to_rising 256;
    few_transitions = omega (arith, length-replicate 512 full_transition);
    transitions = all_same (ValidTransition W 256 64) full_transition full_transition_lem 512;
  }

  full_length : (version : ℕ) → file_length W (full_chart version) ≡ most_bytes W
  unfolding full_chart full_transition file_length body_length transition_length record_length
  full_length version = omega (arith, length_up_to (λ q. q) 256, length_up_to (λ j. j) 64, sum_replicate (transition_length W) full_transition 512)

-- of each version
largest_of : (version : ℕ) → known_version version ≡ true → LargestFile version (most_bytes (width_of version))
unfolding file_of full_chart
largest_of version known = record {
  most = λ bs c by e v.
      subst (λ (x : List ℕ). length x ≤ most_bytes (width_of version)) (file_survives bs c by e) (bounded c (reads_storable bs c by e) v);
  reads = chart_survives (full_chart version) (record { known = known; valid = full_valid (width_of version) version });
  reached = omega (arith, length_file (width_of version) (full_chart version), full_length (width_of version) version);
}
  where
    bounded : (c : Chart) → Storable c → c.version ≡ version → length (file_of c) ≤ most_bytes (width_of version)
    bounded c s v =
        let W = width_of c.version in
        subst (λ x. length (file_of c) ≤ most_bytes (width_of x)) v (omega (arith, length_file W c, file_most W c s.valid))

pub largest_accepted : LargestFile 2 largest_file
unfolding known_version width_of
largest_accepted = largest_of 2 refl

pub largest_of_version_3 : LargestFile 3 largest_file
unfolding known_version width_of
largest_of_version_3 = largest_of 3 refl

pub largest_of_version_1 : LargestFile 1 largest_of_version1
unfolding known_version width_of
largest_of_version_1 = largest_of 1 refl

-- no file of any version has more bytes than the largest
pub no_larger : (bs : List ℕ) (c : Chart) → Bytes bs → chart_in bs ≡ returned c → length bs ≤ largest_file
no_larger bs c by e =
    subst (λ (x : List ℕ). length x ≤ largest_file) (file_survives bs c by e) (largest_file_lem c (reads_storable bs c by e))
