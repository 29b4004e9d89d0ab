-- The refusals of the controller's calls: their numbers and their places, and what each says of what is handed in (document 02, P4; versions: P7).
use Rattle.std.specs.Prelude.{◌≡◌, ◌⊎◌, true, false, List, [], ◌∷◌, ℕ, ◌+◌, ◌≤◌, ◌<◌, length, get_or}
use mathlib.Core.Option.{some}
use lib.ListN.{get_elem?}
use Rattle.lists.specs.Lists.{memb}
use Rattle.model.specs.Answer.{returned, refused, nowhere}
use Rattle.model.specs.Chart.{Chart}
use Rattle.model.specs.Run.{largest_time}
use Rattle.model.specs.PlayerTerms.{CountsAllowed}
use Rattle.judgement.specs.Judging.{judged_in}
use Rattle.judgement.specs.Charts.{HoldsChart, Accepts}
use Rattle.judgement.specs.Refusals.{RefusalOfJudgement}
use Rattle.controller_model.specs.declared.Head.{Head}
use Rattle.controller_model.specs.declared.Controller.{Controller}
use Rattle.controller_model.specs.declared.Heads.{Heads}
use Rattle.controller_model.specs.declared.Parts.{Parts}
use Rattle.controller_model.specs.Parts.{offset}
use Rattle.controller_model.specs.Heads.{head_file, charts_in, charts_judged, head_counts, heads_judged}
use Rattle.controller_model.specs.Serving.{head_at, waits}
use Rattle.controller_model.specs.Controlling.{Call, event, turn}

-- ---- numbers and places

-- 25 for the number of heads or the blocks, 1 to 10 of a chart, 11 for K
pub data RefusalOfHeads (n p : ℕ) : Type 0 where
  of_number_or_blocks : n ≡ 25 → p ≡ nowhere → RefusalOfHeads n p
  of_chart : RefusalOfJudgement n p → RefusalOfHeads n p
  of_board : n ≡ 11 → p ≡ nowhere → RefusalOfHeads n p

-- and 12 for the counts, with none or a timer
pub data RefusalOfSetUp (n p : ℕ) : Type 0 where
  of_heads : RefusalOfHeads n p → RefusalOfSetUp n p
  of_counts : n ≡ 12 → (p ≡ nowhere) ⊎ (p < 64) → RefusalOfSetUp n p

abbrev pub IsEvent : Call → Type 0
IsEvent (event h e t) = Unit {0}
IsEvent turn = ⊥

-- the heads once more without the counts, 32 for the state, and for an event 26, 15 and 23
pub data RefusalOfCall (k : Call) (n p : ℕ) : Type 0 where
  of_heads_again : RefusalOfHeads n p → RefusalOfCall k n p
  of_state : n ≡ 32 → p ≡ nowhere → RefusalOfCall k n p
  of_event : IsEvent k → memb n (26 ∷ 15 ∷ 23 ∷ []) ≡ true → p ≡ nowhere → RefusalOfCall k n p

-- ---- 1 to 10, 11, 12

-- the number of heads passes
abbrev pub SomeHeads : Heads → Type 0
SomeHeads hs = (1 ≤ hs.number) × (hs.number ≤ 8)

-- the chart of a head is refused, and no chart before it
pub record FirstRefused (files : List ℕ) (hs : Heads) (n p : ℕ) : Type 0 where
  pub head : ℕ
  pub is_head : head < hs.number
  pub is_refused : judged_in (head_file files hs head) ≡ refused n p
  pub before : (g : ℕ) → g < head → (c : Chart) × (judged_in (head_file files hs g) ≡ returned c)

-- the chart of a head's file has P, and every chart before it is accepted: of 9 and 10 by paths
pub record FirstWith (files : List ℕ) (hs : Heads) (P : Chart → Type 0) : Type 0 where
  pub head : ℕ
  pub is_head : head < hs.number
  pub holds : HoldsChart (head_file files hs head) P
  pub before : (g : ℕ) → g < head → (c : Chart) × Accepts (head_file files hs g) c

-- the file of every head is of version 3, its first byte
abbrev pub AllVersion3 : (files : List ℕ) → Heads → Type 0
AllVersion3 files hs = (h : ℕ) → h < hs.number → get_elem? (head_file files hs h) 0 ≡ some 3

-- the number of heads and all charts pass, K is over 64
pub record BoardRefused (files : List ℕ) (hs : Heads) (K : ℕ) : Type 0 where
  pub some_heads : SomeHeads hs
  pub charts : List Chart
  pub are : charts_in files hs ≡ returned charts
  pub over : 64 < K

-- what 12 says of a head's counts: not one for each timer, or timer p is the lowest whose count is over 16,777,215
pub data WrongCounts (c : Chart) (counts : List ℕ) (p : ℕ) : Type 0 where
  not_one_each : (length counts ≡ c.timers → ⊥) → p ≡ nowhere → WrongCounts c counts p
  one_over : length counts ≡ c.timers → p < c.timers → largest_time < get_or counts p 0 → ((j : ℕ) → j < p → get_or counts j 0 ≤ largest_time)
      → WrongCounts c counts p

-- the charts and K pass, and the counts of a head are wrong, and of no head before it
pub record CountsRefused (files : List ℕ) (hs : Heads) (K : ℕ) (counts : List ℕ) (ns : Parts) (p : ℕ) : Type 0 where
  pub charts : List Chart
  pub judged : charts_judged files hs K ≡ returned charts
  pub head : ℕ
  pub chart : Chart
  pub is_chart : get_elem? charts head ≡ some chart
  pub wrong : WrongCounts chart (head_counts counts ns head) p
  pub before : (g : ℕ) (c : Chart) → g < head → get_elem? charts g ≡ some c → CountsAllowed c (head_counts counts ns g)

-- ---- 25

-- the blocks together exceed K, or one is shorter than its chart's timers
pub data UnfitBlocks (K : ℕ) (blocks : List ℕ) (cs : List Chart) : Type 0 where
  too_long : K < offset blocks (length cs) → UnfitBlocks K blocks cs
  too_short : (h : ℕ) (c : Chart) → get_elem? cs h ≡ some c → get_or blocks h 0 < c.timers → UnfitBlocks K blocks cs

-- no head or over 8; or the charts and K pass, the charts have P, and the blocks do not fit
pub data UnfitHeads (files : List ℕ) (hs : Heads) (K : ℕ) (P : List Chart → Type 0) : Type 0 where
  unfit_number : (hs.number ≡ 0) ⊎ (8 < hs.number) → UnfitHeads files hs K P
  unfit_blocks : (cs : List Chart) → charts_judged files hs K ≡ returned cs → P cs → UnfitBlocks K hs.blocks cs → UnfitHeads files hs K P

-- the starting counts of every head are allowed: what set-up asks of the charts before it judges the blocks
abbrev pub CountsPass : (counts : List ℕ) → Parts → List Chart → Type 0
CountsPass counts ns cs = (h : ℕ) (c : Chart) → get_elem? cs h ≡ some c → CountsAllowed c (head_counts counts ns h)

-- ---- 32

-- a head of chart c whose timers stand from o on: the location is none, a time or waiting time is over 16,777,215, a waiting time is before the
-- head's, or a count exceeds the head's time plus 16,777,215
pub data UnsoundHead (c : Chart) (o : ℕ) (d : Head) (counts : List ℕ) : Type 0 where
  no_location : c.locations ≤ d.location → UnsoundHead c o d counts
  time_over : largest_time < d.time → UnsoundHead c o d counts
  waiting_over : waits d ≡ true → largest_time < d.waiting_time → UnsoundHead c o d counts
  waiting_before : waits d ≡ true → d.waiting_time < d.time → UnsoundHead c o d counts
  count_over : (j : ℕ) → j < c.timers → d.time + largest_time < get_or counts (o + j) 0 → UnsoundHead c o d counts

-- the turn is none, or a head is unsound
pub data UnsoundState (blocks : List ℕ) (cs : List Chart) (s : Controller) : Type 0 where
  no_turn : length cs ≤ s.turn → UnsoundState blocks cs s
  at_head : (h : ℕ) (c : Chart) → get_elem? cs h ≡ some c → UnsoundHead c (offset blocks h) (head_at s h) s.counts → UnsoundState blocks cs s

module _ (files : List ℕ) (hs : Heads) (K : ℕ) (s : Controller) where
  -- the heads pass and the state does not
  pub record StateRefused : Type 0 where
    pub charts : List Chart
    pub judged : heads_judged files hs K ≡ returned charts
    pub unsound : UnsoundState hs.blocks charts s

  -- the heads and the state pass; P holds of the number of heads
  pub record StateTaken (P : (heads : ℕ) → Type 0) : Type 0 where
    pub charts : List Chart
    pub judged : heads_judged files hs K ≡ returned charts
    pub sound : UnsoundState hs.blocks charts s → ⊥
    pub has : P (length charts)

-- ---- 26, 15, 23, of an event for head h at time t

-- there is no such head, or it already waits
abbrev pub NotFree : Controller → (h heads : ℕ) → Type 0
NotFree s h n = (n ≤ h) ⊎ (waits (head_at s h) ≡ true)

abbrev pub Free : Controller → (h heads : ℕ) → Type 0
Free s h n = (h < n) × (waits (head_at s h) ≡ false)
