-- What a call does on every state that is not refused, set up or not: a turn serves what waits by the lowest transition that can be taken, and a call
-- for a head changes nothing of another.
use mathlib.Core.Path.{◌≡◌, refl, sym, ap, ◌∙◌, subst, subst₂}
use mathlib.Core.Logic.{◌⊎◌, inl, inr}
use mathlib.Core.Bool.{true, ◌&&◌}
use mathlib.Core.Option.{Option, none, some, some-injective, none-ne-some}
use mathlib.Core.List.{List}
use Prim.Native.Nat.{ℕ, ◌+◌, ◌-◌, ◌≤◌, ◌<◌}
use native.Mathlib.Omega.{arith}
use lib.Dec.{eqb}
use lib.ListN.{length, get_or, get_elem?}
use lib.Seq.{get_or-set_same, get_or-set_other}
use borrow.Author.Tests.{eq-eqb}
use Rattle.lists.proofs.Bools.{and_left, and_right, and_both, not_both, same_number, lt_or_le}
use Rattle.lists.proofs.Membership.{first_before}
use Rattle.lists.proofs.Nth.{nth_below, below_nth}
use Rattle.model.specs.Answer.{Answer, returned}
use Rattle.model.specs.Chart.{Transition, Chart, Nth}
use Rattle.model.specs.Run.{State, after, waited, grown, enabled}
use Rattle.model.proofs.Answers.{result_same}
use Rattle.file_format.specs.Parse.{Bytes}
use Rattle.controller_model.specs.declared.Head.{Head}
use Rattle.controller_model.specs.declared.Controller.{Controller}
use Rattle.controller_model.specs.declared.Heads.{Heads}
use Rattle.controller_model.specs.Parts.{offset, stretch}
use Rattle.controller_model.specs.Serving.{standing, head_at, waits, state_of, can_take, lowest_to_take, left_by, Report, report_of, Done}
use Rattle.controller_model.specs.Serving.{passed, leave, served, turned}
use Rattle.controller_model.specs.Controlling.{state_judged, Call, event, turn, receive, done_by, called, state_after}
use Rattle.controller_model.specs.Refusals.UnsoundHead.{waiting_before}
use Rattle.controller_model.specs.Refusals.UnsoundState.{at_head}
use Rattle.controller_model.specs.Promise.{counts_at_event, CanTake, LeftAt, ServedBy, For, OnlyHead}
use Rattle.controller_model.specs.Promise.ServedBy.{takes, takes_none}
use Rattle.controller_model.proofs.Turns.{Fits, TurnIs, turned_serves, turn_is, EventIs, event_is, left_none, left_some, report_none}
use Rattle.controller_model.proofs.Turns.{report_some, lowest_can, left_own, left_before, left_behind, room}
use Rattle.controller_model.proofs.Turns.TurnIs.{is_passed, is_served}
use Rattle.controller_model.proofs.Turns.EventIs.{is_refused, is_received}
use Rattle.controller_model.proofs.SetUp.{heads_accepted, state_passed, called_is, accepted_fits}
use Rattle.controller_model.proofs.Failing.{state_fails}

-- ---- what is taken

-- the head whose turn it is, of chart c and with its timers from o on, serves
module _ (c : Chart) (o : ℕ) (s : Controller) where
  abbrev d : Head
  d = head_at s s.turn

  abbrev t : ℕ
  t = d.waiting_time

  abbrev x : State
  x = state_of d (stretch o c.timers s.counts)

  abbrev i : ℕ
  i = lowest_to_take c x d.event t

  -- the test says what it tests
  can_out : (k : ℕ) (r : Transition) → Nth c k r → can_take c x d.event t r ≡ true → CanTake c o s s.turn k r
  unfolding can_take state_of
  can_out k r n e =
      let met = enabled c r (counts_at_event c o s s.turn) in
      let rest = and_right (eqb r.source d.location) (eqb r.event d.event && met) e in
      record {
        is_nth = n;
        leaves = same_number (and_left (eqb r.source d.location) (eqb r.event d.event && met) e);
        on_event = same_number (and_left (eqb r.event d.event) met rest);
        tests_met = and_right (eqb r.event d.event) met rest;
      }

  can_in : {k : ℕ} {r : Transition} → CanTake c o s s.turn k r → can_take c x d.event t r ≡ true
  unfolding can_take state_of
  can_in {k} {r} y = and_both (eq-eqb r.source d.location y.leaves) (and_both (eq-eqb r.event d.event y.on_event) y.tests_met)

  -- none before the one that is found
  none_lower : (k : ℕ) (q : Transition) → k < i → CanTake c o s s.turn k q → ⊥
  unfolding lowest_to_take
  none_lower k q l y = not_both (can_in y) (first_before (can_take c x d.event t) c.transitions k q l y.is_nth.there)

  module _ (n : ℕ) (is_head : s.turn < length s.heads) (board : o + c.timers ≤ length s.counts) (later : d.time ≤ t) where
    left_at : (y : State) → y.time ≡ t → LeftAt c o s (leave n c s.turn o y s) y.location y.counts
    unfolding leave
    left_at y e = record {
      head = get_or-set_same s.heads s.turn _ (standing 0 0) is_head ∙ ap (standing y.location) e;
      counts = left_own c o y s board;
    }

    abbrev Left : State → Report → Type 0
    Left y r = ServedBy c o s (record { state = leave n c s.turn o y s; report = r })

    lowest_served : Left (left_by c x i t) (report_of c s.turn i)
    unfolding state_of after waited grown
    lowest_served = go (get_elem? c.transitions i) refl
      where
        go : (r : Option Transition) → get_elem? c.transitions i ≡ r → Left (left_by c x i t) (report_of c s.turn i)
        go none e =
            subst₂ Left (sym (left_none c x i t e)) (sym (report_none c x i t s.turn e))
            (takes_none (λ k q. go_on k q (lt_or_le k i)) refl (left_at (waited (t - d.time) x) (omega (arith, later))))
          where
            go_on : (k : ℕ) (q : Transition) → (k < i) ⊎ (i ≤ k) → CanTake c o s s.turn k q → ⊥
            go_on k q (inl l) y = none_lower k q l y
            go_on k q (inr l) y =
                let n = nth_below c.transitions i (omega (arith, below_nth c.transitions k y.is_nth.there)) in
                none-ne-some _ (sym e ∙ n.1)
        go (some r) e =
            subst₂ Left (sym (left_some c x i t e)) (sym (report_some c x i t s.turn e))
            (takes i r (can_out i r (record { there = e }) (lowest_can c x i t d.event e)) none_lower refl (left_at (after r x t) refl))

-- ---- what is changed

module _ (blocks : List ℕ) (cs : List Chart) (s : Controller) where
  same_state : (h o n : ℕ) (s' : Controller) → s'.heads ≡ s.heads → s'.counts ≡ s.counts → OnlyHead h o n s s'
  same_state h o n s' e f = record {
    heads = λ g d. ap (λ (l : List _). get_or l g (standing 0 0)) e;
    before = λ i l. ap (λ (x : List ℕ). get_or x i 0) f;
    behind = λ i l. ap (λ (x : List ℕ). get_or x i 0) f;
  }

  -- head h, of chart c
  module _ (h : ℕ) (c : Chart) (m : get_elem? cs h ≡ some c) (board : offset blocks h + c.timers ≤ length s.counts) where
    abbrev Only : Controller → Type 0
    Only s' = OnlyHead h (offset blocks h) c.timers s s'

    leave_only : (x : State) → Only (leave (length cs) c h (offset blocks h) x s)
    unfolding leave
    leave_only x = record {
      heads = λ g d. get_or-set_other s.heads h g _ (standing 0 0) d;
      before = left_before c (offset blocks h) x s board;
      behind = left_behind c (offset blocks h) x s board;
    }

    turned_only : h ≡ s.turn → Only (turned blocks cs s).state
    unfolding passed served
    turned_only f = go (turn_is blocks cs s (omega (arith, below_nth cs h m, f)))
      where
        go : TurnIs blocks cs s → Only (turned blocks cs s).state
        go (is_passed w e) = subst (λ (d : Done). Only d.state) (sym e) (same_state _ _ _ (passed (length cs) s).state refl refl)
        go (is_served w c' n e) =
            let same : c' ≡ c = some-injective _ _ (sym n ∙ ap (get_elem? cs) (sym f) ∙ m) in
            subst (λ (d : Done). Only d.state)
            (sym (e ∙ ap (λ (y : Chart). served (length cs) blocks y s.turn s) same ∙ ap (λ (k : ℕ). served (length cs) blocks c k s) (sym f)))
            (leave_only _)

    call_only : (k : Call) → For s h k → Only (state_after s (done_by blocks cs s k))
    unfolding done_by receive
    call_only turn f = turned_only f
    call_only (event g e t) f = go (event_is blocks cs s g e t)
      where
        go : EventIs blocks cs s g e t → Only (state_after s (done_by blocks cs s (event g e t)))
        go (is_refused n b q) = subst (λ (y : Answer Done). Only (state_after s y)) (sym q) (same_state _ _ _ s refl refl)
        go (is_received b l n q) = subst (λ (y : Answer Done). Only (state_after s y)) (sym q) (record {
          heads = λ i d. get_or-set_other s.heads g i _ (standing 0 0) (λ x. d (x ∙ sym f));
          before = λ i l. refl;
          behind = λ i l. refl;
        })

-- ---- a call

-- neither the heads nor the state are refused
module _ (files : List ℕ) (bytes : Bytes files) (hs : Heads) (K : ℕ) (s : Controller) (cs : List Chart)
    (judged : state_judged files hs K s ≡ returned cs) (as_many_counts : length s.counts ≡ 64) where
  fits : Fits K hs.blocks cs
  fits = accepted_fits files bytes hs K cs (heads_accepted (state_passed files hs K s judged).0)

  board : (h : ℕ) (c : Chart) → get_elem? cs h ≡ some c → offset hs.blocks h + c.timers ≤ length s.counts
  board h c n = omega (arith, room K hs.blocks cs fits h c n, as_many_counts)

  -- where an event waits, the head whose turn it is takes the lowest transition that can be taken
  pub turn_serves : length s.heads ≡ 8 → (c : Chart) → get_elem? cs s.turn ≡ some c → waits (head_at s s.turn) ≡ true
      → (d : Done) → called files hs K s turn ≡ returned d → ServedBy c (offset hs.blocks s.turn) s d
  unfolding done_by served
  turn_serves as_many_heads c n w d e =
      subst (ServedBy c (offset hs.blocks s.turn) s)
      (sym (turned_serves hs.blocks cs s w n) ∙ result_same (sym (called_is files hs K s judged turn) ∙ e))
      (lowest_served c (offset hs.blocks s.turn) s (length cs) (omega (arith, below_nth cs s.turn n, fits.few_heads, as_many_heads))
      (board s.turn c n) (later (lt_or_le (head_at s s.turn).waiting_time (head_at s s.turn).time)))
    where
      later : ((head_at s s.turn).waiting_time < (head_at s s.turn).time) ⊎ ((head_at s s.turn).time ≤ (head_at s s.turn).waiting_time)
          → (head_at s s.turn).time ≤ (head_at s s.turn).waiting_time
      later (inl l) = absurd (not_both (state_passed files hs K s judged).1
          ((state_fails hs.blocks cs s).1 (at_head s.turn c n (waiting_before w l))))
      later (inr l) = l

  -- a call for head h changes nothing else
  pub called_only : (k : Call) (h : ℕ) (c : Chart) → For s h k → get_elem? cs h ≡ some c
      → OnlyHead h (offset hs.blocks h) c.timers s (state_after s (called files hs K s k))
  called_only k h c f n =
      subst (λ (y : Answer Done). OnlyHead h (offset hs.blocks h) c.timers s (state_after s y)) (sym (called_is files hs K s judged k))
      (call_only hs.blocks cs s h c n (board h c n) k f)
