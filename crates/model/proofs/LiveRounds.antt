-- The number of rounds that find the live sets, by paths, and how large it can be. What a round holds is `round_live_iff`, and how often one can add
-- a timer is `changing_most`; at the initial location of an accepted chart nothing is live.
use mathlib.Core.Path.{◌≡◌, refl}
use mathlib.Core.Logic.{◌⊎◌, inl, inr, ◌↔◌}
use Prim.Native.Nat.{ℕ, suc, ◌-◌, ◌≤◌, ◌<◌}
use native.Mathlib.Omega.{arith}
use lib.Count.{ones}
use Rattle.lists.proofs.Bools.{lt_or_le}
use Rattle.model.specs.Chart.{Chart}
use Rattle.model.specs.Valid.{Valid}
use Rattle.model.specs.Path.{Live}
use Rattle.model.specs.Places.{Accepted}
use Rattle.model.specs.LiveWithin.{RoundsByPaths}
use Rattle.model.specs.Flow.{changing, settled, rounds}
use Rattle.model.specs.Live.{live_flow, live_sets, live, live_rounds}
use Rattle.model.proofs.Paths.{live_unstarted}
use Rattle.model.proofs.Settled.{changing_moves, changing_most}
use Rattle.model.proofs.RoundsBound.{locations_with, with_most, with_fewer, none_added}
use Rattle.model.proofs.LivePaths.{live_shaped, round_live_iff, live_iff}

module _ {W : ℕ} {c : Chart} (valid : Valid W c) where
  -- one more than the least k such that paths of at most k transitions decide
  pub rounds_by_paths : RoundsByPaths c (live_rounds c)
  unfolding live_rounds rounds live live_sets settled
  rounds_by_paths = record {
    least = changing (live_flow c);
    decided = λ q j l. (round_live_iff valid (changing (live_flow c)) q j).0 ((live_iff valid q j).1 l);
    none_less = λ k l d.
        changing_moves (live_flow c) k l
        (none_added (live_flow c) (live_shaped valid) k
        (λ j q h. (round_live_iff valid k q j).1 (d q j ((round_live_iff valid (suc k) q j).0 h).live)));
    last_counted = refl;
  }

  -- each round but the last gives some timer to one more location
  pub rounds_most : live_rounds c ≤ suc c.locations
  unfolding live_rounds rounds live_flow
  rounds_most = omega (arith, changing_most (live_flow c) (live_shaped valid) c.locations (λ k j. with_most (live_flow c) k j))

  -- one fewer where the initial location has none
  pub rounds_accepted : Accepted c → live_rounds c ≤ c.locations
  unfolding live_rounds rounds live_flow
  rounds_accepted accepted =
      omega (arith, valid.initial, changing_most (live_flow c) (live_shaped valid) (c.locations - 1) fewer)
    where
      fewer : (k j : ℕ) → ones (locations_with (live_flow c) k j) ≤ c.locations - 1
      fewer k j =
          let less = with_fewer (live_flow c) k j c.initial valid.initial
          (λ h. accepted.no_unstarted_test _ (live_unstarted ((round_live_iff valid k c.initial j).0 h).live)) in
          omega arith

-- and there is one such number
pub one_rounds : {c : Chart} {m n : ℕ} → RoundsByPaths c m → RoundsByPaths c n → m ≡ n
one_rounds {m = m} {n = n} x y = go (lt_or_le x.least y.least) (lt_or_le y.least x.least)
  where
    go : (x.least < y.least) ⊎ (y.least ≤ x.least) → (y.least < x.least) ⊎ (x.least ≤ y.least) → m ≡ n
    go (inl l) b = absurd (y.none_less x.least l x.decided)
    go (inr l) (inl h) = absurd (x.none_less y.least h y.decided)
    go (inr l) (inr h) = omega (arith, x.last_counted, y.last_counted)

-- one round exactly where no timer is live, so for every chart without tests
pub rounds_one : {W : ℕ} {c : Chart} → Valid W c → (live_rounds c ≡ 1) ↔ ((q j : ℕ) → Live c q j → ⊥)
rounds_one {c = c} valid = (
  λ e q j l.
      let x = rounds_by_paths valid in
      omega (arith, e, x.last_counted, (x.decided q j l).at_most),
  λ none. one_rounds (rounds_by_paths valid) (record {
    least = 0;
    decided = λ q j l. absurd (none q j l);
    none_less = λ k l h. absurd (omega (arith, l));
    last_counted = refl;
  }),
)
