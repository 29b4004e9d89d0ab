-- How the heads are judged: their number, their files, the board, the starting counts, the blocks (document 02, P4: 25, 1 to 10, 11, 12, 25).
use Rattle.std.specs.Prelude.{Bool, true, ◌&&◌, List, [], ◌∷◌, ℕ, suc, leb, length, get_or}
use mathlib.Core.Option.{none, some}
use lib.ListN.{get_elem?}
use Rattle.lists.specs.Lists.{up_to}
use Rattle.model.specs.Answer.{Answer, returned, then, unless, nowhere}
use Rattle.model.specs.Chart.{Chart}
use Rattle.model.specs.Player.{counts_judged}
use Rattle.judgement.specs.Judging.{judged_in}
use Rattle.controller_model.specs.declared.Heads.{Heads}
use Rattle.controller_model.specs.declared.Parts.{Parts}
use Rattle.controller_model.specs.Parts.{offset, part_of, in_order, every_below}

-- one to eight
unfoldable pub allowed_number : (heads : ℕ) → Bool
allowed_number n = leb 1 n && leb n 8

-- the files lie one after another
abbrev pub head_file : (files : List ℕ) → Heads → (h : ℕ) → List ℕ
head_file files hs h = part_of hs.lengths h files

-- the charts of the heads, each in turn judged by 1 to 10
unfoldable pub charts_in : (files : List ℕ) → Heads → Answer (List Chart)
charts_in files hs = in_order (up_to (λ h. judged_in (head_file files hs h)) hs.number)

-- 25 for the number of heads, each chart in turn by 1 to 10, K by 11
unfoldable pub charts_judged : (files : List ℕ) → Heads → (K : ℕ) → Answer (List Chart)
charts_judged files hs K =
    unless (allowed_number hs.number) 25 nowhere (
    then (charts_in files hs) (λ cs.
    unless (leb K 64) 11 nowhere (
    returned cs)))

-- each head's starting counts by 12, from head h on
unfoldable pub counts_in_order : {A : Type 0} → (counts : ℕ → List ℕ) → (h : ℕ) → List Chart → Answer A → Answer A
counts_in_order counts h [] x = x
counts_in_order counts h (c ∷ cs) x = counts_judged c (counts h) (counts_in_order counts (suc h) cs x)

-- the block of head h is not shorter than its chart's timers
unfoldable pub long_enough : (blocks : List ℕ) → List Chart → (h : ℕ) → Bool
long_enough blocks cs h = elim (get_elem? cs h) [ none ↦ true | some c ↦ leb c.timers (get_or blocks h 0) ]

-- the blocks together do not exceed K, and each is long enough
unfoldable pub blocks_fit : (K : ℕ) → (blocks : List ℕ) → List Chart → Bool
blocks_fit K blocks cs = leb (offset blocks (length cs)) K && every_below (long_enough blocks cs) (length cs)

-- 25 for the blocks
abbrev pub blocks_judged : {A : Type 0} → (K : ℕ) → (blocks : List ℕ) → List Chart → Answer A → Answer A
blocks_judged K blocks cs x = unless (blocks_fit K blocks cs) 25 nowhere x

-- the starting counts of head h
abbrev pub head_counts : (counts : List ℕ) → Parts → (h : ℕ) → List ℕ
head_counts counts ns h = part_of ns.lengths h counts

-- the judgement of the heads at set-up
unfoldable pub set_up_judged : (files : List ℕ) → Heads → (K : ℕ) → (counts : List ℕ) → Parts → Answer (List Chart)
set_up_judged files hs K counts ns =
    then (charts_judged files hs K) (λ cs.
    counts_in_order (head_counts counts ns) 0 cs (
    blocks_judged K hs.blocks cs (
    returned cs)))

-- the judgement of the heads at every call after set-up: the same without the counts
unfoldable pub heads_judged : (files : List ℕ) → Heads → (K : ℕ) → Answer (List Chart)
heads_judged files hs K =
    then (charts_judged files hs K) (λ cs.
    blocks_judged K hs.blocks cs (
    returned cs))
