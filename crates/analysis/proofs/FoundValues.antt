-- A call of the analysis that finds a chart leaves what `FoundValues` says, and this determines the values and the list, in which a spare location
-- has the empty set. What is hard is only to read the list's front as the live sets, and what is behind as it was.
use mathlib.Core.Path.{◌≡◌, refl, sym, ap, ◌∙◌, subst}
use mathlib.Core.Logic.Iff
use mathlib.Core.Logic.{◌⊎◌, inl, inr, ◌↔◌}
use mathlib.Core.Bool.{true, false}
use mathlib.Core.List.{List, ◌++◌}
use Prim.Native.Nat.{ℕ, zero, suc, ◌+◌, ◌-◌, ◌^◌, ◌≤◌, ◌<◌}
use native.Mathlib.Omega.{arith}
use lib.ListN.{length, get_or, drop, get_or-append}
use lib.Seq.{get_or-append-add, get_or-drop}
use Rattle.lists.proofs.Bools.{yes_or_no, lt_or_le, same_bool, not_both}
use Rattle.timer_set.specs.Members.{member}
use Rattle.timer_set.proofs.Digits.{below_power}
use Rattle.timer_set.proofs.Members.{member_empty, member_ext}
use Rattle.model.specs.Answer.{returned}
use Rattle.model.specs.Chart.{Chart}
use Rattle.model.specs.Version.{width_of}
use Rattle.model.specs.Valid.{Valid}
use Rattle.model.specs.Path.{Reached}
use Rattle.model.specs.Live.{live_rounds}
use Rattle.model.specs.Spare.{reached_part}
use Rattle.model.specs.Places.{Accepted}
use Rattle.model.specs.FirstFit.{used}
use Rattle.model.specs.Rewrite.{board_numbering}
use Rattle.model.specs.Floor.{floor, searched}
use Rattle.model.proofs.LiveRounds.{rounds_by_paths, one_rounds, rounds_accepted}
use Rattle.model.proofs.BoardPlan.{numbering_used, number_under}
use Rattle.model.proofs.UsedNumbers.{used_reached}
use Rattle.model.proofs.Judgement.{accepted}
use Rattle.model.proofs.ReachedPart.{part_valid, part_accepted}
use Rattle.file_format.specs.Parse.{Bytes}
use Rattle.file_format.proofs.File.{reads_valid}
use Rattle.sharing_plans.specs.CountedOnce.{CountedOnce}
use Rattle.sharing_plans.proofs.ChartPlans.{one_fewest}
use Rattle.sharing_plans.proofs.CountedOnce.{counted_once, one_count}
use Rattle.sharing_plans.proofs.FamilyCounts.{searched_iff}
use Rattle.sharing_plans.proofs.Floor.{floor_fewest, floor_most, floor_reached, floor_used}
use Rattle.chart_lists.specs.Lists.{put, overwritten}
use Rattle.judgement.specs.Charts.{Accepts}
use Rattle.judgement.proofs.Corollaries.{judged_result}
use Rattle.analysis.specs.declared.Analysis.{Analysis}
use Rattle.analysis.specs.Analysing.{values_of, analysed_sets, analysed_in, analyse_answer}
use Rattle.analysis.specs.Found.{FoundValues}
use Rattle.families.proofs.ChartPairs.{live_each}
use Rattle.analysis.proofs.Entry.{long_enough_lem}
use Rattle.analysis.proofs.Refusals.{analysis_result}
use Rattle.analysis.proofs.Values.{word_live, used_none}

-- ---- an entry of a list over whose front another was put

module _ (xs l : List ℕ) (q : ℕ) where
  in_front : q < length xs → get_or (put xs l) q 0 ≡ get_or xs q 0
  unfolding put
  in_front h = get_or-append xs (drop (length xs) l) 0 q h

  behind : length xs ≤ q → get_or (put xs l) q 0 ≡ get_or l q 0
  unfolding put
  behind h =
      let e : q ≡ length xs + (q - length xs) = omega arith in
      ap (λ (i : ℕ). get_or (xs ++ drop (length xs) l) i 0) e
      ∙ get_or-append-add xs (drop (length xs) l) (q - length xs) 0
      ∙ get_or-drop (length xs) l (q - length xs) 0
      ∙ ap (λ (i : ℕ). get_or l i 0) (sym e)

-- ---- the part that counts

-- it has the chart's locations
part_locations : (c : Chart) → (reached_part c).locations ≡ c.locations
unfolding reached_part
part_locations c = refl

-- and so a set for each
sets_each : (c : Chart) → length (analysed_sets c) ≡ c.locations
unfolding analysed_sets
sets_each c = live_each (reached_part c) ∙ part_locations c

-- if the chart is accepted, rounds that are at most so many
part_rounds : {W : ℕ} {c : Chart} → Valid W c → Accepted c → live_rounds (reached_part c) ≤ c.locations
part_rounds {c = c} valid a =
    let p = part_valid valid in
    omega (arith, rounds_accepted p ((accepted p).0 (part_accepted valid ((accepted valid).1 a))), part_locations c)

-- ---- the call

module _ (bs before : List ℕ) (bytes : Bytes bs) where
  of_chart : (c : Chart) {f : Analysis} → Accepts bs c → c.locations ≤ length before → f ≡ values_of c
      → FoundValues bs before (overwritten analysed_sets (analysed_in (length before) bs) before) f
  unfolding analysed_in values_of used
  of_chart c a h e =
      let valid = reads_valid bs c bytes a.reads in
      let p = part_valid valid in
      let part = reached_part c in
      let front : (q : ℕ) → q < c.locations → get_or (put (analysed_sets c) before) q 0 ≡ get_or (analysed_sets c) q 0 =
      λ q h. in_front (analysed_sets c) before q (omega (arith, sets_each c)) in
      rw ((judged_result bs bytes c).1 a, long_enough_lem c (length before) h, e) record {
        chart = c;
        accepts = a;
        words_are = λ q j h. rw (front q h) (word_live valid q j);
        beyond = λ q h. behind (analysed_sets c) before q (omega (arith, sets_each c));
        searched_few = searched_iff p;
        floor_fewest = floor_fewest p;
        floor_most = λ q n h a. omega (arith, one_count a (counted_once p q), floor_most p q);
        floor_reached = λ h.
            let x = floor_reached p h in
            (x.0, omega (arith, x.1, part_locations c), subst (CountedOnce part x.0) x.2 (counted_once p x.0));
        floor_used = floor_used p;
        used_above = λ q j k h. omega (arith, number_under part q j k h, numbering_used part);
        used_reached = λ u h. used_reached p u (numbering_used part ∙ h);
        used_none = used_none valid;
        rounds_are = rounds_by_paths p;
        rounds_few = part_rounds valid a.accepted;
      }

  pub found_values : {f : Analysis} → analyse_answer (length before) bs ≡ returned f
      → FoundValues bs before (overwritten analysed_sets (analysed_in (length before) bs) before) f
  found_values {f} e =
      let a = (analysis_result (length before) bs bytes f).0 e in
      of_chart a.chart a.accepts a.room_for a.values_are

-- ---- nothing else is found

-- words with the same members are equal
members_equal : (a b : ℕ) → ((j : ℕ) → (member a j ≡ true) ↔ (member b j ≡ true)) → a ≡ b
members_equal a b same =
    let h : a + b < 2 ^ (a + b) = below_power (a + b) in
    member_ext (a + b) a b (omega arith) (omega arith) (λ j l. same_bool _ _ (same j).0 (same j).1)

-- a number is at most n if the one before it is below n
at_most : (m n : ℕ) → ((u : ℕ) → m ≡ suc u → u < n) → m ≤ n
at_most zero n h = omega arith
at_most (suc u) n h = omega (arith, h u refl)

module _ {bs before after : List ℕ} {f : Analysis} (bytes : Bytes bs) (v : FoundValues bs before after f) where
  abbrev c : Chart
  c = v.chart

  valid : Valid (width_of c.version) c
  valid = reads_valid bs c bytes v.accepts.reads

  -- the same of the part that counts
  abbrev part : Chart
  part = reached_part c

  part_is : Valid (width_of c.version) part
  part_is = part_valid valid

  word_only : (q : ℕ) → q < c.locations → get_or after q 0 ≡ get_or (analysed_sets c) q 0
  word_only q h = members_equal _ _ (λ j. Iff.trans (v.words_are q j h) (Iff.symm (word_live valid q j)))

  used_only : f.used ≡ used part
  unfolding used
  used_only =
      let N = board_numbering part in
      let above : f.used ≤ N.used = at_most _ _ (λ u e. let x = v.used_reached u e in number_under part x.0 x.1 u x.2) in
      let below : N.used ≤ f.used = at_most _ _ (λ u e. let x = used_reached part_is u e in v.used_above x.0 x.1 u x.2) in
      omega (arith, numbering_used part)

  searched_only : f.searched ≡ searched part
  searched_only = same_bool _ _ (λ h. (searched_iff part_is).1 (v.searched_few.0 h)) (λ h. v.searched_few.1 ((searched_iff part_is).0 h))

  floor_only : f.floor ≡ floor part
  floor_only = go (yes_or_no (searched part))
    where
      go : (searched part ≡ true) ⊎ (searched part ≡ false) → f.floor ≡ floor part
      go (inl h) = one_fewest (v.floor_fewest (searched_only ∙ h)) (floor_fewest part_is h)
      go (inr h) =
          let x = v.floor_reached (searched_only ∙ h) in
          let y = floor_reached part_is h in
          let l : y.0 < c.locations = omega (arith, y.1, part_locations c) in
          let above : f.floor ≤ floor part = omega (arith, one_count x.2 (counted_once part_is x.0), floor_most part_is x.0) in
          let below : floor part ≤ f.floor = omega (arith, y.2, v.floor_most y.0 _ l (counted_once part_is y.0)) in
          omega arith

  rounds_only : f.rounds ≡ live_rounds part
  rounds_only = one_rounds v.rounds_are (rounds_by_paths part_is)

  -- what is found is what the chart gives
  pub found_only : f ≡ values_of c
  unfolding values_of
  found_only i = record { used = used_only i; floor = floor_only i; searched = searched_only i; rounds = rounds_only i }

  -- and no other list: the live sets over the front of what was lent
  pub found_list : (q : ℕ) → get_or after q 0 ≡ get_or (put (analysed_sets c) before) q 0
  found_list q = go (lt_or_le q c.locations)
    where
      go : (q < c.locations) ⊎ (c.locations ≤ q) → get_or after q 0 ≡ get_or (put (analysed_sets c) before) q 0
      go (inl h) = word_only q h ∙ sym (in_front (analysed_sets c) before q (omega (arith, sets_each c)))
      go (inr h) = v.beyond q h ∙ sym (behind (analysed_sets c) before q (omega (arith, sets_each c)))

-- ---- a spare location

-- at a location that no path reaches nothing is live
pub spare_empty : {bs before after : List ℕ} {f : Analysis} (v : FoundValues bs before after f) (q : ℕ) → q < v.chart.locations
    → (Reached v.chart q → ⊥) → get_or after q 0 ≡ 0
spare_empty v q h spare =
    members_equal _ _ (λ j. (λ m. absurd (spare ((v.words_are q j h).0 m).0), λ m. absurd (not_both m (member_empty j))))
