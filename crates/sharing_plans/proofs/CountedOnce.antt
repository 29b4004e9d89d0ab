-- How many timers are live at a location, twins counted once, is the count of its merged set, and nothing else.
use mathlib.Core.Path.{◌≡◌, sym, ◌∙◌, subst}
use Prim.Native.Nat.{ℕ, ◌≤◌}
use native.Mathlib.Nat.{le_antisymm}
use native.Mathlib.Omega.{arith}
use lib.Count.{ones}
use lib.ListN.{length, get_or}
use Rattle.lists.specs.Lists.{pick}
use Rattle.lists.proofs.Gather.{pick_in, pick_out, pick_rising}
use Rattle.timer_set.specs.Members.{member}
use Rattle.timer_set.proofs.Counts.{ones_pick}
use Rattle.model.specs.Chart.{Chart}
use Rattle.model.specs.Valid.{Valid}
use Rattle.model.specs.Twins.{LowestTwin, merged_sets}
use Rattle.model.specs.Family.{is_pair, live_pairs}
use Rattle.model.proofs.Paths.{live_inside}
use Rattle.model.proofs.Twins.{twins_refl, one_lowest, live_lowest, merged_few, pair_lowest}
use Rattle.sharing_plans.specs.CountedOnce.{CountedOnce}
use Rattle.sharing_plans.proofs.DifferentNumbers.{few_members}

module _ {W : ℕ} {c : Chart} (valid : Valid W c) (q : ℕ) where
  abbrev word : ℕ
  word = get_or (merged_sets c) q 0

  pub counted_once : CountedOnce c q (ones word)
  unfolding is_pair live_pairs
  counted_once = record {
    timers = pick (member word) c.timers;
    rising = pick_rising (member word) c.timers;
    are = λ m. (
      λ h. let x = (pair_lowest valid q m).0 (pick_out (member word) c.timers m h).1 in
          (x.timer, x.live, subst (LowestTwin c x.timer) x.lowest_is (live_lowest valid x.live)),
      λ x.
          let l = live_lowest valid x.1 in
          let is = one_lowest (twins_refl x.0) l x.2 in
          let low = l.lowest x.0 (twins_refl x.0) in
          pick_in (member word) c.timers m (omega (arith, is, low, (live_inside valid x.1).timer))
          ((pair_lowest valid q m).1 (record { timer = x.0; live = x.1; lowest_is = is })),
    );
    count = sym (ones_pick c.timers word (merged_few valid q));
  }

-- there is one such count
pub one_count : {c : Chart} {q m n : ℕ} → CountedOnce c q m → CountedOnce c q n → m ≡ n
one_count {c} {q} a b = sym a.count ∙ le_antisymm (few a b) (few b a) ∙ b.count
  where
    few : {m n : ℕ} (a : CountedOnce c q m) (b : CountedOnce c q n) → length a.timers ≤ length b.timers
    few a b = few_members c.timers 0 a.timers b.timers a.rising (λ x h. (b.are x).1 ((a.are x).0 h))
