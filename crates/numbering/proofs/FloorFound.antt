-- The floor of a chart by the number of its families: what is asked for the fewest timers of any plan, and what is found. The laws of plans bound the
-- fewest timers by the fullest live set, twins counted once, and by what first fit uses.
use mathlib.Core.Path.{◌≡◌, sym, ap, ◌∙◌}
use mathlib.Core.Bool.{true, false}
use mathlib.Core.List.{List}
use Prim.Native.Nat.{ℕ, ◌≤◌, ◌<◌}
use native.Mathlib.Omega.{arith}
use lib.ListN.{length, take, get_elem?}
use lib.Seq.{length-take-le}
use borrow.Author.Tests.{le-leb, lt-leb}
use mathlib.Core.Option.{some}
use Rattle.lists.specs.Lists.{memb}
use Rattle.lists.proofs.Gather.{rising_below}
use Rattle.model.specs.Chart.{Chart}
use Rattle.model.specs.Valid.{Valid}
use Rattle.model.specs.Live.{fullest}
use Rattle.model.specs.Family.{Family, family_of, families, live_pairs}
use Rattle.model.specs.SmallestPlan.{fewest}
use Rattle.model.specs.Floor.{most_searched, searched, floor}
use Rattle.model.proofs.Families.{family_rising}
use Rattle.model.proofs.FamilyList.{families_are}
use Rattle.model.proofs.LivePairs.{live_pairs_formed}
use Rattle.sharing_plans.proofs.FamilyCounts.{used_families}
use Rattle.sharing_plans.proofs.Floor.{floor_searched, floor_unsearched, fullest_fewest, fewest_used}
use Rattle.meeting.specs.Meeting.{Asked}
use Rattle.numbering.specs.ChartNumbered.{ChartNumbered}
use Rattle.numbering.specs.FloorAsked.{FloorAsked}
use Rattle.numbering.specs.declared.Numbered.{Numbered}
use Rattle.numbering.proofs.NumberedFile.{merged_front}

-- the fronts of the lists that a chart's numbering leaves are what is asked
pub floor_asked : {W : ℕ} (c : Chart) {m : ℕ} (is : m ≡ c.locations) {live merged cells at : List ℕ} {r : Numbered} → Valid W c
    → ChartNumbered c live merged cells at r → m ≤ length at → FloorAsked c (take m merged) (take m at) r
floor_asked {W} c {m} is {at = at} valid n room = record {
  width = W;
  valid = valid;
  merged_are = merged_front c is n.merged_are;
  at_are = rw is n.at_are;
  at_long = length-take-le m at room ∙ is;
  used_is = n.used_is;
  families_is = n.families_is;
}

module _ {c : Chart} {merged at : List ℕ} {r : Numbered} (a : FloorAsked c merged at r) where
  -- at most 20 families
  module _ (few : r.families ≤ most_searched) where
    inside : (i s : ℕ) (g : Family) → get_elem? (families (live_pairs c)) i ≡ some g → memb s g.locations ≡ true → s < length at
    unfolding live_pairs
    inside i s g e h =
        let formed = live_pairs_formed a.valid in
        let f = families_are formed i g e in
        let here : memb s (family_of (live_pairs c) g.first g.timer).locations ≡ true =
        ap (λ (x : Family). memb s x.locations) (sym f.whole) ∙ h in
        omega (arith, (rising_below c.locations 0 _ (family_rising formed g.first g.timer f.pair) s here).1, a.at_long)

    pub few_asked : {m : ℕ} → m ≡ fullest merged → Asked (families (live_pairs c)) at r.families m r.used
    few_asked e = record {
      at_are = a.at_are;
      inside = inside;
      count_is = a.families_is;
      few = few;
      low_is = omega (arith, fullest_fewest a.valid, e, ap fullest a.merged_are);
      high_is = omega (arith, fewest_used a.valid, a.used_is);
      high_few = omega (arith, used_families c, a.used_is, a.families_is);
    }

    pub few_found : {m : ℕ} → m ≡ fewest (families (live_pairs c)) → (m ≡ floor c) × (true ≡ searched c)
    unfolding searched
    few_found e =
        let h : searched c ≡ true = le-leb (length (families (live_pairs c))) most_searched (omega (arith, a.families_is)) in
        (e ∙ sym (floor_searched c h), sym h)

  -- more
  pub many_found : {m : ℕ} → most_searched < r.families → m ≡ fullest merged → (m ≡ floor c) × (false ≡ searched c)
  unfolding searched
  many_found more e =
      let h : searched c ≡ false = lt-leb (length (families (live_pairs c))) most_searched (omega (arith, a.families_is)) in
      (e ∙ ap fullest a.merged_are ∙ sym (floor_unsearched c h), sym h)
