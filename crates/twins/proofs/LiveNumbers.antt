-- From a chart's lists and live sets to its board numbers: the lowest twins are the chart's, merging gives its merged sets, first fit over these its
-- families' numbers, and sharing them the numbers of its timers. Each step's equation is read with the chart's lists.
use mathlib.Core.Path.{◌≡◌, refl, sym, ap, ◌∙◌, subst}
use mathlib.Core.Bool.{true, false}
use mathlib.Core.Option.{Option, none, some}
use mathlib.Core.List.{List, map}
use Prim.Native.Nat.{ℕ, ◌≤◌, ◌<◌}
use lib.ListN.{length, get_or, length-map}
use Rattle.timer_set.specs.Members.{member, image}
use Rattle.lists.proofs.Bools.{not_both}
use Rattle.model.specs.Chart.{Chart}
use Rattle.model.specs.Valid.{Valid}
use Rattle.model.specs.Twins.{lowest_in_same, lowest_twin, merged_sets}
use Rattle.model.specs.Family.{Pairs, is_pair, families, live_pairs}
use Rattle.model.specs.FirstFit.{first_fit, used_by, number_at, board, used}
use Rattle.model.specs.Rewrite.{numbering, through, board_numbering}
use Rattle.model.proofs.PairNumbers.{number_pair}
use Rattle.model.proofs.Twins.{live_word, live_member}
use Rattle.model.proofs.LivePairs.{live_pairs_formed}
use Rattle.chart_lists.specs.Lists.{lists_of}
use Rattle.families.specs.Pairs.{pairs_of, SafeTransitions}
use Rattle.families.proofs.ChartPairs.{live_each, chart_pairs, chart_safe}
use Rattle.allocation.specs.Cells.{cells_of}
use Rattle.allocation.specs.FamiliesAt.{FamiliesAt}
use Rattle.allocation.specs.declared.Allocated.{Allocated}
use Rattle.twins.specs.LowestTwins.{own_lowest, lowest_at, LowestOf}
use Rattle.twins.specs.Shared.{OnlyIn}
use Rattle.twins.specs.LiveNumbered.{LiveLists, LiveNumbered}
use Rattle.twins.proofs.Listed.{lowest_of, merged_same, shared_same}

-- a board number is that of a pair
pair_number : {W : ℕ} {c : Chart} → Valid W c → (q j k : ℕ) → number_at (board c) q j ≡ some k → member (get_or (merged_sets c) q 0) j ≡ true
unfolding board is_pair live_pairs
pair_number valid q j k e = (number_pair (live_pairs_formed valid) q j k e).pair

module _ {c : Chart} {s t w live : List ℕ} {timers : ℕ} (a : LiveLists c s t w live timers) where
  below : (q j : ℕ) → member (get_or live q 0) j ≡ true → j < timers
  below q j m = rw a.timers_are (live_member a.valid q j (rw a.live_are at m))

  pub few : timers ≤ 64
  few = rw a.timers_are a.valid.few_timers

  module _ (lowest : List ℕ) (room : timers ≤ length lowest)
      (listed : (j : ℕ) → j < timers → lowest_at lowest j ≡ lowest_in_same w timers j) where
    lowest_are : (j : ℕ) → j < timers → lowest_at lowest j ≡ lowest_twin c j
    unfolding lowest_twin lists_of
    lowest_are j h = listed j h ∙ rw (a.starts_are, a.timers_are) refl

    on_live : (q j : ℕ) → member (get_or live q 0) j ≡ true → lowest_at lowest j ≡ lowest_twin c j
    on_live q j m = lowest_are j (below q j m)

    -- what merging and sharing ask for
    pub asked : {own : ℕ} → own ≡ own_lowest w timers → LowestOf live lowest own
    asked {own} e = lowest_of w live lowest timers own room listed e (λ q j h. below q j)

    module _ {merged : List ℕ} (made : merged ≡ map (image (lowest_at lowest)) live) where
      pub merged_are : merged ≡ merged_sets c
      unfolding merged_sets
      merged_are =
          made ∙ merged_same (lowest_at lowest) (lowest_twin c) live (λ q j h. on_live q j) (λ q h. rw a.live_are (live_word a.valid q))
          ∙ ap (map (image (lowest_twin c))) a.live_are

      abbrev pairs : Pairs
      pairs = pairs_of s t w merged timers

      pub merged_safe : SafeTransitions s t w merged timers
      merged_safe = rw (a.sources_are, a.targets_are, a.starts_are, merged_are, a.timers_are) (chart_safe a.valid)

      pub as_many : length merged ≡ length live
      as_many = ap length made ∙ length-map live _

      -- the cells that first fit leaves are one row for each location
      pub first_cells : {cells : List ℕ} → cells ≡ cells_of (numbering (first_fit pairs)) (length merged)
          → cells ≡ cells_of (numbering (first_fit pairs)) (length live)
      first_cells e = e ∙ ap (cells_of (numbering (first_fit pairs))) as_many

      pairs_are : pairs ≡ live_pairs c
      pairs_are = rw (a.sources_are, a.targets_are, a.starts_are, merged_are, a.timers_are) (chart_pairs c)

      placed_are : first_fit pairs ≡ board c
      unfolding board
      placed_are = ap first_fit pairs_are

      -- first fit numbers the pairs alone
      pub only_merged : OnlyIn (map (image (lowest_at lowest)) live) (numbering (first_fit pairs))
      unfolding numbering
      only_merged = record { no_other = λ q j h out. rw placed_are (none_other q j (rw (sym made ∙ merged_are) at out)) }
        where
          none_other : (q j : ℕ) → member (get_or (merged_sets c) q 0) j ≡ false → number_at (board c) q j ≡ none
          none_other q j out = go (number_at (board c) q j) refl
            where
              go : (o : Option ℕ) → number_at (board c) q j ≡ o → o ≡ none
              go none e = refl
              go (some k) e = absurd (not_both (pair_number a.valid q j k e) out)

      module _ {cells at : List ℕ} {r : Allocated} where
        pub live_numbered : cells ≡ cells_of (through live (lowest_at lowest) (numbering (first_fit pairs))) (length live)
            → r.used ≡ used_by (first_fit pairs) → r.families ≡ length (families pairs) → FamiliesAt (families pairs) at
            → LiveNumbered c merged cells at r
        unfolding board_numbering used
        live_numbered e u f g = record {
          merged_are = merged_are;
          cells_are =
              e
              ∙ shared_same (lowest_at lowest) (lowest_twin c) live (λ q j h. on_live q j) _
              ∙ rw (placed_are, a.live_are, live_each c) refl;
          used_is = u ∙ ap used_by placed_are;
          families_is = f ∙ ap (λ (p : Pairs). length (families p)) pairs_are;
          at_are = subst (λ (p : Pairs). FamiliesAt (families p) at) pairs_are g;
        }
