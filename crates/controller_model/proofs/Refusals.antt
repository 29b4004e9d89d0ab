-- Which refusals set-up and the calls give, whatever is handed in: each judgement is taken apart from its front, and every way in which it is refused
-- is told with what passed before.
use mathlib.Core.Path.{◌≡◌, refl, sym, ap, ◌∙◌}
use mathlib.Core.Logic.{◌⊎◌, inl, inr, ◌↔◌}
use mathlib.Core.Bool.{true, false, ◌&&◌}
use mathlib.Core.Option.{some}
use mathlib.Core.List.{List}
use Prim.Native.Nat.{ℕ, ◌≤◌, ◌<◌}
use native.Mathlib.Omega.{arith}
use lib.Dec.{leb}
use borrow.Author.Tests.{le-leb}
use Rattle.lists.specs.Lists.{any_of, up_to}
use Rattle.model.specs.Answer.{Answer, returned, refused, then, unless, nowhere}
use Rattle.model.specs.Chart.{Chart}
use Rattle.lists.proofs.Bools.{not_both}
use Rattle.lists.proofs.Membership.{any_memb_in}
use Rattle.lists.proofs.Nth.{up_to_nth, nth_up_to}
use Rattle.model.proofs.Answers.{not_result, unless_refused, then_refused}
use Rattle.file_format.specs.Parse.{Bytes}
use Rattle.judgement.specs.Judging.{judged_in}
use Rattle.judgement.specs.Refusals.{RefusalOfJudgement}
use Rattle.judgement.proofs.Corollaries.{refusals_of_judged_in, judged_numbers}
use Rattle.controller_model.specs.declared.Controller.{Controller}
use Rattle.controller_model.specs.declared.Heads.{Heads}
use Rattle.controller_model.specs.declared.Parts.{Parts}
use Rattle.controller_model.specs.Heads.{allowed_number, head_file, charts_in, charts_judged, counts_in_order, blocks_fit, blocks_judged}
use Rattle.controller_model.specs.Heads.{head_counts, set_up_judged, heads_judged}
use Rattle.controller_model.specs.Controlling.{at_start, set_up, sound_state, state_judged, Call, done_by, called}
use Rattle.controller_model.specs.Refusals.{RefusalOfHeads, RefusalOfSetUp, RefusalOfCall, FirstRefused, WrongCounts, CountsRefused}
use Rattle.controller_model.specs.Refusals.{CountsPass}
use Rattle.controller_model.specs.Refusals.RefusalOfHeads.{of_number_or_blocks, of_chart, of_board}
use Rattle.controller_model.specs.Refusals.RefusalOfSetUp.{of_heads, of_counts}
use Rattle.controller_model.specs.Refusals.RefusalOfCall.{of_heads_again, of_state, of_event}
use Rattle.controller_model.specs.Refusals.WrongCounts.{not_one_each, one_over}
use Rattle.controller_model.proofs.ListParts.{all_part}
use Rattle.controller_model.proofs.InOrder.{in_order_refused}
use Rattle.controller_model.proofs.CountsInOrder.{AllAllowed, FirstWrong, counts_refused}
use Rattle.controller_model.proofs.SetUp.{judged_charts, chart_valid, state_passed}
use Rattle.controller_model.proofs.Promise.{done_refused}

-- ---- the charts

module _ (files : List ℕ) (hs : Heads) (n p : ℕ) where
  abbrev answer : ℕ → Answer Chart
  answer h = judged_in (head_file files hs h)

  -- the charts are refused as the first of them that is
  pub charts_refused : (charts_in files hs ≡ refused n p) ↔ FirstRefused files hs n p
  unfolding charts_in
  charts_refused = (out, back)
    where
      out : charts_in files hs ≡ refused n p → FirstRefused files hs n p
      out e =
          let f = (in_order_refused n p (up_to answer hs.number)).0 e in
          let x = up_to_nth answer hs.number f.place f.is_nth in
          record {
            head = f.place;
            is_head = x.0;
            is_refused = x.1;
            before = λ g l. let y = f.before g l in (y.0, (up_to_nth answer hs.number g y.1).1);
          }

      back : FirstRefused files hs n p → charts_in files hs ≡ refused n p
      back f = (in_order_refused n p (up_to answer hs.number)).1 (record {
        place = f.head;
        is_nth = nth_up_to answer hs.number f.head f.is_head ∙ ap some f.is_refused;
        before = λ g l. let y = f.before g l in (y.0, nth_up_to answer hs.number g (omega (arith, f.is_head)) ∙ ap some y.1);
      })

  pub of_first : Bytes files → FirstRefused files hs n p → RefusalOfJudgement n p
  of_first bytes f =
      refusals_of_judged_in (head_file files hs f.head) (all_part (λ x. x < 256) hs.lengths f.head files bytes) n p f.is_refused

  module _ (K : ℕ) where
    -- how the judgement of the charts is refused
    pub data ChartsRefused : Type 0 where
      by_number : allowed_number hs.number ≡ false → n ≡ 25 → p ≡ nowhere → ChartsRefused
      by_chart : allowed_number hs.number ≡ true → FirstRefused files hs n p → ChartsRefused
      by_board : allowed_number hs.number ≡ true → (cs : List Chart) → charts_in files hs ≡ returned cs → leb K 64 ≡ false → n ≡ 11 → p ≡ nowhere
          → ChartsRefused

    pub judged_refused : charts_judged files hs K ≡ refused n p → ChartsRefused
    unfolding charts_judged
    judged_refused e = one (unless_refused (allowed_number hs.number) 25 nowhere (then (charts_in files hs) last) e)
      where
        last : List Chart → Answer (List Chart)
        last cs = unless (leb K 64) 11 nowhere (returned cs)

        three : allowed_number hs.number ≡ true → (cs : List Chart) → charts_in files hs ≡ returned cs
            → ((leb K 64 ≡ false) × (n ≡ 11) × (p ≡ nowhere)) ⊎ ((leb K 64 ≡ true) × (returned cs ≡ refused n p)) → ChartsRefused
        three a cs c (inl q) = by_board a cs c q.0 q.1 q.2
        three a cs c (inr q) = absurd (not_result (sym q.1))

        two : allowed_number hs.number ≡ true
            → (charts_in files hs ≡ refused n p) ⊎ ((cs : List Chart) × (charts_in files hs ≡ returned cs) × (last cs ≡ refused n p)) → ChartsRefused
        two a (inl q) = by_chart a (charts_refused.0 q)
        two a (inr q) = three a q.0 q.1 (unless_refused (leb K 64) 11 nowhere (returned q.0) q.2)

        one : ((allowed_number hs.number ≡ false) × (n ≡ 25) × (p ≡ nowhere))
            ⊎ ((allowed_number hs.number ≡ true) × (then (charts_in files hs) last ≡ refused n p)) → ChartsRefused
        one (inl q) = by_number q.0 q.1 q.2
        one (inr q) = two q.0 (then_refused (charts_in files hs) last q.1)

    -- ---- the heads

    -- how the judgement of the heads is refused, where the charts have P before the blocks are judged
    pub data HeadsRefused (P : List Chart → Type 0) : Type 0 where
      by_charts : ChartsRefused → HeadsRefused P
      by_blocks : (cs : List Chart) → charts_judged files hs K ≡ returned cs → P cs → blocks_fit K hs.blocks cs ≡ false → n ≡ 25 → p ≡ nowhere
          → HeadsRefused P

    pub of_refused : Bytes files → {P : List Chart → Type 0} → HeadsRefused P → RefusalOfHeads n p
    of_refused bytes (by_charts (by_number a q r)) = of_number_or_blocks q r
    of_refused bytes (by_charts (by_chart a f)) = of_chart (of_first bytes f)
    of_refused bytes (by_charts (by_board a cs c l q r)) = of_board q r
    of_refused bytes (by_blocks cs e x f q r) = of_number_or_blocks q r

    -- the blocks come last
    blocks_refused : {P : List Chart → Type 0} (cs : List Chart) → charts_judged files hs K ≡ returned cs → P cs
        → blocks_judged K hs.blocks cs (returned cs) ≡ refused n p → HeadsRefused P
    blocks_refused {P} cs e x f = go (unless_refused (blocks_fit K hs.blocks cs) 25 nowhere (returned cs) f)
      where
        go : ((blocks_fit K hs.blocks cs ≡ false) × (n ≡ 25) × (p ≡ nowhere)) ⊎ ((blocks_fit K hs.blocks cs ≡ true) × (returned cs ≡ refused n p))
            → HeadsRefused P
        go (inl q) = by_blocks cs e x q.0 q.1 q.2
        go (inr q) = absurd (not_result (sym q.1))

    heads_refused : heads_judged files hs K ≡ refused n p → HeadsRefused (λ cs. Unit {0})
    unfolding heads_judged
    heads_refused e = go (then_refused (charts_judged files hs K) (λ cs. blocks_judged K hs.blocks cs (returned cs)) e)
      where
        go : (charts_judged files hs K ≡ refused n p)
            ⊎ ((cs : List Chart) × (charts_judged files hs K ≡ returned cs) × (blocks_judged K hs.blocks cs (returned cs) ≡ refused n p))
            → HeadsRefused (λ cs. Unit {0})
        go (inl q) = by_charts (judged_refused q)
        go (inr q) = blocks_refused q.0 q.1 tt q.2

    -- ---- set-up

    module _ (counts : List ℕ) (ns : Parts) where
      -- the heads, or the counts
      pub data SetUpRefused : Type 0 where
        by_heads : HeadsRefused (CountsPass counts ns) → SetUpRefused
        by_counts : n ≡ 12 → CountsRefused files hs K counts ns p → SetUpRefused

      pub set_up_refused : set_up files hs K counts ns ≡ refused n p → SetUpRefused
      unfolding set_up set_up_judged
      set_up_refused e = one (then_refused (set_up_judged files hs K counts ns) start e)
        where
          start : List Chart → Answer Controller
          start cs = returned (at_start hs.blocks (head_counts counts ns) cs)

          rest : List Chart → Answer (List Chart)
          rest cs = blocks_judged K hs.blocks cs (returned cs)

          three : (cs : List Chart) → charts_judged files hs K ≡ returned cs
              → ((n ≡ 12) × FirstWrong (head_counts counts ns) 0 cs p) ⊎ (AllAllowed (head_counts counts ns) 0 cs × (rest cs ≡ refused n p))
              → SetUpRefused
          three cs q (inl (r, f)) = by_counts r (record {
            charts = cs;
            judged = q;
            head = f.place;
            chart = f.chart;
            is_chart = f.is_nth;
            wrong = f.wrong f.place (omega arith);
            before = λ g c l m. f.before g g c l (omega arith) m;
          })
          three cs q (inr r) = by_heads (blocks_refused cs q (λ h c m. r.0 h h c (omega arith) m) r.1)

          two : (charts_judged files hs K ≡ refused n p)
              ⊎ ((cs : List Chart) × (charts_judged files hs K ≡ returned cs)
              × (counts_in_order (head_counts counts ns) 0 cs (rest cs) ≡ refused n p))
              → SetUpRefused
          two (inl q) = by_heads (by_charts (judged_refused q))
          two (inr q) = three q.0 q.1 (counts_refused (head_counts counts ns) 0 q.0 (rest q.0) q.2)

          one : (set_up_judged files hs K counts ns ≡ refused n p)
              ⊎ ((cs : List Chart) × (set_up_judged files hs K counts ns ≡ returned cs) × (start cs ≡ refused n p)) → SetUpRefused
          one (inl q) = two (then_refused (charts_judged files hs K) (λ cs. counts_in_order (head_counts counts ns) 0 cs (rest cs)) q)
          one (inr q) = absurd (not_result (sym q.2))

      of_set_up : Bytes files → set_up files hs K counts ns ≡ refused n p → RefusalOfSetUp n p
      of_set_up bytes e = go (set_up_refused e)
        where
          place : (c : Chart) → c.timers ≤ 64 → (l : List ℕ) → WrongCounts c l p → (p ≡ nowhere) ⊎ (p < 64)
          place c few l (not_one_each d q) = inl q
          place c few l (one_over a b m f) = inr (omega arith)

          go : SetUpRefused → RefusalOfSetUp n p
          go (by_heads r) = of_heads (of_refused bytes r)
          go (by_counts q r) =
              let are = (judged_charts files hs K r.charts r.judged).1 in
              let v = chart_valid files hs r.charts are bytes r.head r.chart r.is_chart in
              of_counts q (place r.chart v.few_timers _ r.wrong)

    -- ---- a call

    module _ (s : Controller) (k : Call) where
      -- the heads, the state, or what the call itself says
      pub data CallRefused : Type 0 where
        by_heads_again : HeadsRefused (λ cs. Unit {0}) → CallRefused
        by_state : (cs : List Chart) → heads_judged files hs K ≡ returned cs → sound_state hs.blocks cs s ≡ false → n ≡ 32 → p ≡ nowhere → CallRefused
        by_call : (cs : List Chart) → heads_judged files hs K ≡ returned cs → sound_state hs.blocks cs s ≡ true
            → done_by hs.blocks cs s k ≡ refused n p → CallRefused

      pub call_refused : called files hs K s k ≡ refused n p → CallRefused
      unfolding called state_judged
      call_refused e = one (then_refused (state_judged files hs K s) (λ cs. done_by hs.blocks cs s k) e)
        where
          rest : List Chart → Answer (List Chart)
          rest cs = unless (sound_state hs.blocks cs s) 32 nowhere (returned cs)

          -- the state is refused, after heads that are not
          state : (cs : List Chart) → heads_judged files hs K ≡ returned cs
              → ((sound_state hs.blocks cs s ≡ false) × (n ≡ 32) × (p ≡ nowhere))
              ⊎ ((sound_state hs.blocks cs s ≡ true) × (returned cs ≡ refused n p))
              → CallRefused
          state cs q (inl r) = by_state cs q r.0 r.1 r.2
          state cs q (inr r) = absurd (not_result (sym r.1))

          two : (heads_judged files hs K ≡ refused n p)
              ⊎ ((cs : List Chart) × (heads_judged files hs K ≡ returned cs) × (rest cs ≡ refused n p)) → CallRefused
          two (inl q) = by_heads_again (heads_refused q)
          two (inr q) = state q.0 q.1 (unless_refused (sound_state hs.blocks q.0 s) 32 nowhere (returned q.0) q.2)

          one : (state_judged files hs K s ≡ refused n p)
              ⊎ ((cs : List Chart) × (state_judged files hs K s ≡ returned cs) × (done_by hs.blocks cs s k ≡ refused n p)) → CallRefused
          one (inl q) = two (then_refused (heads_judged files hs K) rest q)
          one (inr q) = let x = state_passed files hs K s q.1 in by_call q.0 x.0 x.1 q.2

      of_call : Bytes files → called files hs K s k ≡ refused n p → RefusalOfCall k n p
      of_call bytes e = go (call_refused e)
        where
          go : CallRefused → RefusalOfCall k n p
          go (by_heads_again r) = of_heads_again (of_refused bytes r)
          go (by_state cs j f q r) = of_state q r
          go (by_call cs j f d) = let x = done_refused hs.blocks cs s k n p d in of_event x.0 x.1 x.2

module _ (files : List ℕ) (hs : Heads) (K : ℕ) where
  pub refusals_of_set_up : (counts : List ℕ) (ns : Parts) → Bytes files → (n p : ℕ) → set_up files hs K counts ns ≡ refused n p → RefusalOfSetUp n p
  refusals_of_set_up counts ns bytes n p e = of_set_up files hs n p K counts ns bytes e

  pub refusals_of_called : (s : Controller) (k : Call) → Bytes files → (n p : ℕ) → called files hs K s k ≡ refused n p → RefusalOfCall k n p
  refusals_of_called s k bytes n p e = of_call files hs n p K s k bytes e

  -- ---- 17 is the writer's, 18 the counter board's

  module _ (n p : ℕ) (lo : 17 ≤ n) (hi : n ≤ 18) where
    not_of_heads : RefusalOfHeads n p → ⊥
    not_of_heads (of_number_or_blocks q r) = omega (arith, q)
    not_of_heads (of_chart r) = omega (arith, (judged_numbers r).1)
    not_of_heads (of_board q r) = omega (arith, q)

    pub set_up_never_17_or_18 : (counts : List ℕ) (ns : Parts) → Bytes files → set_up files hs K counts ns ≡ refused n p → ⊥
    set_up_never_17_or_18 counts ns bytes e = go (refusals_of_set_up counts ns bytes n p e)
      where
        go : RefusalOfSetUp n p → ⊥
        go (of_heads r) = not_of_heads r
        go (of_counts q r) = omega (arith, q)

    pub called_never_17_or_18 : (s : Controller) (k : Call) → Bytes files → called files hs K s k ≡ refused n p → ⊥
    unfolding any_of
    called_never_17_or_18 s k bytes e = go (refusals_of_called s k bytes n p e)
      where
        go : RefusalOfCall k n p → ⊥
        go (of_heads_again r) = not_of_heads r
        go (of_state q r) = omega (arith, q)
        go (of_event i m q) = not_both (any_memb_in (λ x. leb 17 x && leb x 18) n _ m (rw (le-leb 17 n lo, le-leb n 18 hi) refl)) refl
