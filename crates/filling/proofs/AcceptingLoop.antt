-- The loop that fills the list of the accepting locations, on plain values: what is read so far stands over its front.
use mathlib.Core.Path.{◌≡◌, sym, ◌∙◌}
use mathlib.Core.Logic.{◌⊎◌, inl, inr}
use mathlib.Core.List.{List, [], ◌∷◌, ◌++◌}
use Prim.Native.Nat.{ℕ, suc, ◌+◌, ◌≤◌, ◌<◌}
use native.Mathlib.Numerals.{add-one}
use native.Mathlib.Omega.{arith}
use lib.ListN.{length, set}
use Rattle.model.specs.Answer.{nowhere}
use Rattle.chart_lists.specs.Lists.{put}
use Rattle.chart_lists.proofs.Put.{put_nil, put_last}
use Rattle.file_format.specs.Parse.{value, refusal, entry, rising}
use Rattle.file_format.proofs.Parsed.{value_refused, same_value}
use Rattle.file_format.proofs.Items.{Turn, rising_first, turn_done, turn_refused, turn_again}
use Rattle.file_judging.proofs.Loops.{AcceptingRead, entry_within}

-- of n accepting locations k are read and stored, and the next one is at least lowest
pub record AcceptingFilled (locations n k lowest : ℕ) (start bs l out : List ℕ) : Type 0 where
  pub done : List ℕ
  pub turn : Turn (λ (lo x : ℕ). suc x) (entry 2 locations 5 nowhere) (rising 2 locations 5 nowhere n start) n k done lowest bs
  pub low : k ≤ lowest
  pub is : out ≡ put done l

pub filled_first : (locations n : ℕ) (start l : List ℕ) → AcceptingFilled locations n 0 0 start start l l
filled_first locations n start l = record { done = []; turn = rising_first 2 locations 5 nowhere n start; low = omega arith; is = sym (put_nil l) }

module _ {locations n k lowest : ℕ} {start bs l out : List ℕ} (f : AcceptingFilled locations n k lowest start bs l out) where
  -- the same without what is stored
  pub filled_read : AcceptingRead locations n k lowest start bs
  filled_read = record { done = f.done; turn = f.turn }

  pub filled_done : n ≤ k → (xs t : List ℕ) → rising 2 locations 5 nowhere n start ≡ value xs t → out ≡ put xs l
  filled_done h xs t e = let q : f.done ≡ xs = same_value (sym (turn_done f.turn h) ∙ e) in rw (← q) f.is

  module _ (h : k < n) where
    pub filled_never : {m p : ℕ} → entry 2 locations 5 nowhere lowest bs ≡ refusal m p
        → (xs t : List ℕ) → rising 2 locations 5 nowhere n start ≡ value xs t → ⊥
    filled_never r xs t e = value_refused e (turn_refused f.turn h r)

    -- k numbers that rise and then one more below the number of locations: more than k locations
    module _ {x : ℕ} {t : List ℕ} (e : entry 2 locations 5 nowhere lowest bs ≡ value x t) where
      pub filled_room : {room : ℕ} → (locations ≤ room) ⊎ (n ≤ room) → k < room
      filled_room (inl r) = omega (arith, f.low, entry_within 2 locations 5 nowhere lowest bs e)
      filled_room (inr r) = omega arith

      pub filled_again : k < length l → AcceptingFilled locations n (k + 1) (x + 1) start t l (set out k x)
      filled_again room =
          let w = entry_within 2 locations 5 nowhere lowest bs e in
          let low : k + 1 ≤ suc x = omega (arith, f.low) in
          rw (add-one x) (record {
            done = f.done ++ (x ∷ []);
            turn = turn_again f.turn h e;
            low = low;
            is = put_last f.done l x room f.turn.count f.is;
          })
