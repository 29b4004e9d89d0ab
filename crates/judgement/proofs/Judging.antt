-- What the code finds in a chart's own lists is what the chart's definitions say, for any valid chart.
use mathlib.Core.Path.{◌≡◌, refl, sym, ap, ◌∙◌}
use mathlib.Core.Logic.{◌⊎◌, inl, inr}
use mathlib.Core.Bool.{Bool, true, false, ◌||◌}
use mathlib.Core.List.{List}
use Prim.Native.Nat.{ℕ, ◌≤◌, ◌<◌}
use native.Mathlib.Omega.{arith}
use lib.Dec.{leb}
use lib.ListN.{length, replicate}
use borrow.Author.Tests.{lt-ltb, le-ltb, lt-leb, le-leb}
use Rattle.lists.proofs.Bools.{lt_or_le}
use Rattle.lists.specs.Lists.{lowest}
use Rattle.model.specs.Answer.{returned, refused, then, unless}
use Rattle.model.specs.Chart.{Chart}
use Rattle.model.specs.Version.{allows_spare}
use Rattle.model.specs.Valid.{Valid}
use Rattle.model.specs.Live.{tested_sets, unstarted_sets, first_unreached, first_unstarted}
use Rattle.model.specs.Judge.{judged}
use Rattle.chart_lists.specs.Lists.{lists_of}
use Rattle.chart_lists.specs.declared.Header.{Header}
use Rattle.chart_lists.specs.Header.{header_of}
use Rattle.chart_lists.proofs.Holds.{sources_each}
use Rattle.forward.specs.Forward.{forward_sets}
use Rattle.forward.proofs.ChartSets.{length_reached, length_unstarted, unstarted_are, reached_are}
use Rattle.judgement.specs.Judging.{header_judged}
use Rattle.judgement.specs.Tested.{tests_at}
use Rattle.judgement.specs.Places.{first_empty, unreached_in, refused_in, judged_lists}
use Rattle.judgement.proofs.Tested.{first_testing_is}
use Rattle.judgement.proofs.Unreached.{unreached_by}

-- the answer, from the two places
module _ (m : Header) (sources targets starts tested : List ℕ) where
  abbrev pub unstarted_in : List ℕ
  unstarted_in = forward_sets m.initial m.locations sources targets starts

  module _ {unreached : ℕ} (e : unreached ≡ refused_in m.version m.timers m.initial sources targets unstarted_in) where
    pub answer_9 : unreached < m.locations → refused 9 unreached ≡ judged_lists m sources targets starts tested
    unfolding judged_lists
    answer_9 h = rw (← e, lt-leb m.locations unreached h)

    module _ (h : m.locations ≤ unreached) {unstarted : ℕ} (f : unstarted ≡ lowest (tests_at sources tested unstarted_in) (length sources)) where
      pub answer_10 : unstarted < length sources → refused 10 unstarted ≡ judged_lists m sources targets starts tested
      unfolding judged_lists
      answer_10 g = rw (← e, le-leb m.locations unreached h, ← f, lt-leb (length sources) unstarted g)

      pub answer_chart : length sources ≤ unstarted → returned m ≡ judged_lists m sources targets starts tested
      unfolding judged_lists
      answer_chart g = rw (← e, le-leb m.locations unreached h, ← f, le-leb (length sources) unstarted g)

-- the two ways to find the place of 9
module _ {timers : ℕ} (initial : ℕ) (sources targets unstarted : List ℕ) where
  pub unreached_few : timers < 64 → first_empty unstarted ≡ unreached_in timers initial sources targets unstarted
  unfolding unreached_in
  unreached_few h = rw (lt-ltb timers 64 h, unreached_in)

  pub unreached_all : 64 ≤ timers
      → first_empty (forward_sets initial (length unstarted) sources targets (replicate (length sources) 0))
      ≡ unreached_in timers initial sources targets unstarted
  unfolding unreached_in
  unreached_all h = rw (le-ltb timers 64 h, unreached_in)

-- where spare locations are allowed 9 refuses none
module _ (version timers initial : ℕ) (sources targets unstarted : List ℕ) where
  pub refused_none : allows_spare version ≡ true → length unstarted ≡ refused_in version timers initial sources targets unstarted
  unfolding refused_in
  refused_none h = rw (h, refused_in)

  pub refused_unreached : allows_spare version ≡ false
      → unreached_in timers initial sources targets unstarted ≡ refused_in version timers initial sources targets unstarted
  unfolding refused_in
  refused_unreached h = rw (h, refused_in)

module _ {W : ℕ} {c : Chart} (valid : Valid W c) where
  -- ---- 9

  unreached_is : unreached_in c.timers c.initial (lists_of c).sources (lists_of c).targets (unstarted_sets c) ≡ first_unreached c
  unfolding first_empty first_unreached
  unreached_is = go (lt_or_le c.timers 64)
    where
      go : (c.timers < 64) ⊎ (64 ≤ c.timers)
          → unreached_in c.timers c.initial (lists_of c).sources (lists_of c).targets (unstarted_sets c) ≡ first_unreached c
      go (inl l) = sym (unreached_few c.initial _ _ _ l) ∙ unreached_by valid l refl refl
      go (inr l) = sym (unreached_all c.initial _ _ _ l) ∙ rw (length_unstarted c, reached_are valid, length_reached c)

  -- ---- 10

  unstarted_is : lowest (tests_at (lists_of c).sources (tested_sets c) (unstarted_sets c)) (length (lists_of c).sources) ≡ first_unstarted c
  unfolding first_unstarted lists_of tested_sets
  unstarted_is = rw (sources_each c) (first_testing_is (unstarted_sets c) c.transitions)

  -- ---- the answer

  pub judged_are : judged_lists (header_of c) (lists_of c).sources (lists_of c).targets (lists_of c).starts (tested_sets c) ≡ header_judged c
  unfolding judged_lists header_judged judged header_of
  judged_are =
      rw (unstarted_are valid, unstarted_is, sources_each c)
      (go (allows_spare c.version) refl (leb c.locations (first_unreached c)) refl (leb (length c.transitions) (first_unstarted c)))
    where
      place : ℕ
      place = refused_in c.version c.timers c.initial (lists_of c).sources (lists_of c).targets (unstarted_sets c)

      none : allows_spare c.version ≡ true → leb c.locations place ≡ true
      none h =
          ap (leb c.locations) (sym (refused_none c.version c.timers c.initial _ _ (unstarted_sets c) h) ∙ length_unstarted c)
          ∙ le-leb c.locations c.locations (omega arith)

      unreached : allows_spare c.version ≡ false → place ≡ first_unreached c
      unreached h = sym (refused_unreached c.version _ _ _ _ _ h) ∙ unreached_is

      go : (v : Bool) → allows_spare c.version ≡ v → (a : Bool) → leb c.locations (first_unreached c) ≡ a → (b : Bool)
          → unless (leb c.locations place) 9 place (unless b 10 (first_unstarted c) (returned (header_of c)))
          ≡ then (unless (allows_spare c.version || leb c.locations (first_unreached c)) 9 (first_unreached c)
          (unless b 10 (first_unstarted c) (returned c))) (λ d. returned (header_of d))
      go true h a e true = rw (none h, h) refl
      go true h a e false = rw (none h, h) refl
      go false h true e true = rw (unreached h, h, e) refl
      go false h true e false = rw (unreached h, h, e) refl
      go false h false e b = rw (unreached h, h, e) refl
