-- The counter board on a file and on the file that it was rewritten to (document 02, P5 and P7).
use Rattle.std.specs.Prelude.{◌≡◌, false, List, ℕ}
use Rattle.model.specs.Chart.{Chart}
use Rattle.model.specs.Version.{large_constant}
use Rattle.counter_model.specs.Constants.{LargeReached, LargeSpare}
use Rattle.counter_model.specs.CounterClaim.{CounterAsPlayer, SameOnCounter}

-- the file bs with the chart c, and the file bs' with the chart c' that c was rewritten to
pub record CounterDemand (Provisos : List ℕ → Type 0) (bs : List ℕ) (c : Chart) (bs' : List ℕ) (c' : Chart) : Type 0 where
  -- where no constant is over 65,535, the counter board answers as the player on the drawn file: called on that file, and on the rewritten one
  pub drawn : large_constant c ≡ false → CounterAsPlayer Provisos bs c bs c
  pub rewritten : large_constant c ≡ false → CounterAsPlayer Provisos bs c bs' c'
  -- at any readings, whatever the constants, it answers alike on both; but 18 looks at transitions from spare locations too, and the rewriting leaves
  -- their tests out: where one of these has a constant over 65,535, one from a reached location must have one
  pub alike : (LargeSpare c → LargeReached c) → SameOnCounter bs c bs' c'
