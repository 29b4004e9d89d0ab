-- The program prints `floor` exactly where the part of the chart that counts has at most 20 families, else `seen`, and then the count of its fullest
-- live set, twins counted once, which is the figure of document 01 where there are no twins.
use mathlib.Core.Path.{◌≡◌, refl, ap}
use mathlib.Core.Logic.{◌↔◌}
use mathlib.Core.Bool.{Bool, true, false}
use mathlib.Core.List.{List, ◌++◌}
use Prim.Native.Nat.{ℕ}
use native.Mathlib.Omega.{arith}
use lib.ListN.{get_or}
use Rattle.lists.specs.Lists.{gather}
use Rattle.model.specs.Chart.{Chart}
use Rattle.model.specs.Valid.{Valid}
use Rattle.model.specs.Live.{fullest}
use Rattle.model.specs.Spare.{reached_part}
use Rattle.model.specs.Twins.{merged_sets}
use Rattle.model.specs.Floor.{most_searched, searched}
use Rattle.model.specs.Rewrite.{board_numbering}
use Rattle.model.proofs.ReachedPart.{part_valid}
use Rattle.sharing_plans.specs.SharingPlan.{FamiliesAtMost}
use Rattle.sharing_plans.proofs.FamilyCounts.{searched_iff}
use Rattle.sharing_plans.proofs.Floor.{floor_unsearched}
use Rattle.listing.specs.Text.{floor_word, seen_word}
use Rattle.listing.specs.Listing.{word_of, first_line, line_of, chart_text}

searched_word : (b : Bool) → word_of b ≡ floor_word → b ≡ true
unfolding floor_word seen_word
searched_word true e = refl
searched_word false e = let s : ◌≡◌ {A = ℕ} 115 102 = ap (λ (l : List ℕ). get_or l 1 0) e in absurd (omega arith)

pub floor_word_iff : {W : ℕ} {c : Chart} → Valid W c
    → (word_of (searched (reached_part c)) ≡ floor_word) ↔ FamiliesAtMost most_searched (reached_part c)
floor_word_iff {c = c} valid = let i = searched_iff (part_valid valid) in
    (λ e. i.0 (searched_word (searched (reached_part c)) e), λ f. ap word_of (i.1 f))

-- the text of a chart that is not searched has that figure, after the other word
pub seen_text : (k : ℕ) (c : Chart) → let part = reached_part c in let N = board_numbering part in searched part ≡ false
    → chart_text k c ≡ first_line N.used (fullest (merged_sets part)) false k ++ gather (line_of c.timers N) c.locations
unfolding chart_text
seen_text k c h = rw (h, floor_unsearched (reached_part c) h)
