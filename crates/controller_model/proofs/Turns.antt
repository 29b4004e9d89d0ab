-- All heads stand at the ends of their runs: after any call they do so again. Hard: what one head writes is no other head's, since their blocks lie
-- apart.
use mathlib.Core.Path.{◌≡◌, refl, sym, ap, ◌∙◌, subst, subst₂}
use mathlib.Core.Logic.{◌⊎◌, inl, inr}
use mathlib.Core.Bool.{Bool, true, false}
use mathlib.Core.Option.{Option, none, some, some-injective}
use mathlib.Core.List.{List, [], ◌∷◌, ◌++◌, append-nil}
use Prim.Native.Nat.{ℕ, ◌+◌, ◌-◌, ◌≤◌, ◌<◌}
use native.Mathlib.Nat.{mod-lt}
use native.Mathlib.Decide.{ℕ_discrete}
use native.Mathlib.Omega.{arith}
use lib.Dec.{leb}
use lib.ListN.{length, get_or, get_elem?, set, length-set}
use lib.Seq.{get_or-set_same, get_or-set_other}
use borrow.Author.Tests.{leb-true, leb-false, ne_eqb}
use Rattle.lists.specs.Lists.{up_to}
use Rattle.lists.proofs.Bools.{eqb_self, lt_or_le}
use Rattle.lists.proofs.Gather.{length_up_to, get_d_up_to}
use Rattle.lists.proofs.Membership.{first_passes}
use Rattle.lists.proofs.Nth.{below_nth, nth_below}
use Rattle.model.specs.Answer.{Answer, returned, refused, nowhere}
use Rattle.model.specs.Chart.{Transition, Chart}
use Rattle.model.specs.Version.{width_of}
use Rattle.model.specs.Valid.{Valid}
use Rattle.model.specs.Run.{State, Step, after, waited, largest_time}
use Rattle.controller_model.specs.declared.Head.{Head}
use Rattle.controller_model.specs.declared.Controller.{Controller}
use Rattle.controller_model.specs.Parts.{offset, stretch, written}
use Rattle.controller_model.specs.Serving.{standing, head_at, waits, state_of, can_take, lowest_to_take, left_by, Report, received, none_taken}
use Rattle.controller_model.specs.Serving.{taken, report_of, Done, next_turn, passed, leave, served, turned}
use Rattle.controller_model.specs.Controlling.{Call, event, turn, receive, free, done_by, state_after, step_of, steps_in}
use Rattle.controller_model.specs.Promise.{OnBoard}
use Rattle.controller_model.proofs.ListParts.{offset_apart, written_before, written_in, written_behind, length_written}
use Rattle.controller_model.proofs.Standing.{Stands, stands_same, stands_receives, stands_waited, stands_taken}

-- heads that were judged
pub record Fits (K : ℕ) (blocks : List ℕ) (cs : List Chart) : Type 0 where
  pub some_head : 1 ≤ length cs
  pub few_heads : length cs ≤ 8
  pub few_timers : K ≤ 64
  pub on_board : (h : ℕ) (c : Chart) → get_elem? cs h ≡ some c → OnBoard K blocks cs h c
  pub valid : (h : ℕ) (c : Chart) → get_elem? cs h ≡ some c → Valid (width_of c.version) c

pub record AllStand (blocks : List ℕ) (cs : List Chart) (counts : ℕ → List ℕ) (s : Controller) (es : ℕ → List Step) : Type 0 where
  pub turn : s.turn < length cs
  pub as_many_heads : length s.heads ≡ 8
  pub as_many_counts : length s.counts ≡ 64
  pub each : (h : ℕ) (c : Chart) → get_elem? cs h ≡ some c → Stands c (offset blocks h) (λ j. get_or (counts h) j 0) (head_at s h) s.counts (es h)

pub same_steps : {blocks : List ℕ} {cs : List Chart} {counts : ℕ → List ℕ} {s : Controller} {es es' : ℕ → List Step} → ((h : ℕ) → es h ≡ es' h)
    → AllStand blocks cs counts s es → AllStand blocks cs counts s es'
same_steps {blocks} {cs} {counts} {s} {es} {es'} e a = record {
  turn = a.turn;
  as_many_heads = a.as_many_heads;
  as_many_counts = a.as_many_counts;
  each = λ h c n. subst (Stands c (offset blocks h) (λ j. get_or (counts h) j 0) (head_at s h) s.counts) (e h) (a.each h c n);
}

-- ---- what a call is

module _ (blocks : List ℕ) (cs : List Chart) (s : Controller) where
  -- a turn passes, or the head whose turn it is serves
  pub data TurnIs : Type 0 where
    is_passed : waits (head_at s s.turn) ≡ false → turned blocks cs s ≡ passed (length cs) s → TurnIs
    is_served : waits (head_at s s.turn) ≡ true → (c : Chart) → get_elem? cs s.turn ≡ some c
        → turned blocks cs s ≡ served (length cs) blocks c s.turn s → TurnIs

  pub turned_passes : waits (head_at s s.turn) ≡ false → turned blocks cs s ≡ passed (length cs) s
  unfolding turned
  turned_passes w = rw (w, turned) refl

  pub turned_serves : {c : Chart} → waits (head_at s s.turn) ≡ true → get_elem? cs s.turn ≡ some c
      → turned blocks cs s ≡ served (length cs) blocks c s.turn s
  unfolding turned
  turned_serves {c} w n = rw (w, turned) (rw (n, turned) refl)

  pub turn_is : s.turn < length cs → TurnIs
  turn_is b = go (waits (head_at s s.turn)) refl
    where
      go : (w : Bool) → waits (head_at s s.turn) ≡ w → TurnIs
      go false w = is_passed w (turned_passes w)
      go true w = let n = nth_below cs s.turn b in is_served w n.0 n.1 (turned_serves w n.1)

  -- why an event for head h at time t is refused with n
  pub data EventRefused (h t n : ℕ) : Type 0 where
    not_free : n ≡ 26 → free (length cs) s h ≡ false → EventRefused h t n
    too_late : n ≡ 15 → free (length cs) s h ≡ true → largest_time < t → EventRefused h t n
    too_early : n ≡ 23 → free (length cs) s h ≡ true → t ≤ largest_time → t < (head_at s h).time → EventRefused h t n

  -- it is refused, or waits from now on
  pub data EventIs (h e t : ℕ) : Type 0 where
    is_refused : (n : ℕ) → EventRefused h t n → done_by blocks cs s (event h e t) ≡ refused n nowhere → EventIs h e t
    is_received : free (length cs) s h ≡ true → t ≤ largest_time → (head_at s h).time ≤ t
        → done_by blocks cs s (event h e t) ≡ returned (record { state = receive h e t s; report = received }) → EventIs h e t

  pub event_is : (h e t : ℕ) → EventIs h e t
  unfolding done_by
  event_is h e t = go (free (length cs) s h) (leb t largest_time) (leb (head_at s h).time t) refl refl refl
    where
      go : (x y z : Bool) → free (length cs) s h ≡ x → leb t largest_time ≡ y → leb (head_at s h).time t ≡ z → EventIs h e t
      go false y z p q r = is_refused 26 (not_free refl p) (rw p refl)
      go true false z p q r = is_refused 15 (too_late refl p (leb-false t largest_time q)) (rw (p, q) refl)
      go true true false p q r =
          is_refused 23 (too_early refl p (leb-true t largest_time q) (leb-false (head_at s h).time t r)) (rw (p, q, r) refl)
      go true true true p q r = is_received p (leb-true t largest_time q) (leb-true (head_at s h).time t r) (rw (p, q, r) refl)

-- what the transition that is found leaves, and what is reported
module _ (c : Chart) (x : State) (i t : ℕ) where
  pub left_none : get_elem? c.transitions i ≡ none → left_by c x i t ≡ waited (t - x.time) x
  unfolding left_by
  left_none n = rw (n, left_by) refl

  pub left_some : {r : Transition} → get_elem? c.transitions i ≡ some r → left_by c x i t ≡ after r x t
  unfolding left_by
  left_some n = rw (n, left_by) refl

  pub report_none : (h : ℕ) → get_elem? c.transitions i ≡ none → report_of c h i ≡ none_taken h
  unfolding report_of
  report_none h n = rw (n, report_of) refl

  pub report_some : (h : ℕ) {r : Transition} → get_elem? c.transitions i ≡ some r → report_of c h i ≡ taken h i
  unfolding report_of
  report_some h n = rw (n, report_of) refl

  -- the one that is found can be taken
  pub lowest_can : (e : ℕ) {r : Transition} → get_elem? c.transitions (lowest_to_take c x e t) ≡ some r → can_take c x e t r ≡ true
  unfolding lowest_to_take
  lowest_can e {r} n =
      let p = first_passes (can_take c x e t) c.transitions (below_nth c.transitions _ n) in
      ap (can_take c x e t) (some-injective _ _ (sym n ∙ p.1)) ∙ p.2

-- the counts where a head is left in the state x, its chart's timers standing from o on
abbrev pub counts_left : Chart → (o : ℕ) → State → Controller → List ℕ
counts_left c o x s = written o (up_to x.counts c.timers) s.counts

module _ (c : Chart) (o : ℕ) (x : State) (s : Controller) (board : o + c.timers ≤ length s.counts) where
  begins : o ≤ length s.counts
  begins = omega arith

  -- its own timers have the counts of x, and no others have changed
  pub left_own : (j : ℕ) → j < c.timers → get_or (counts_left c o x s) (o + j) 0 ≡ x.counts j
  left_own j b =
      written_in o (up_to x.counts c.timers) s.counts begins j (omega (arith, length_up_to x.counts c.timers))
      ∙ get_d_up_to x.counts c.timers j 0 b

  pub left_before : (i : ℕ) → i < o → get_or (counts_left c o x s) i 0 ≡ get_or s.counts i 0
  left_before i b = written_before o (up_to x.counts c.timers) s.counts begins i b

  pub left_behind : (i : ℕ) → o + c.timers ≤ i → get_or (counts_left c o x s) i 0 ≡ get_or s.counts i 0
  left_behind i b = written_behind o (up_to x.counts c.timers) s.counts begins i (omega (arith, length_up_to x.counts c.timers))

-- the turn goes on to a head
pub next_below : (n h : ℕ) → 1 ≤ n → next_turn n h < n
unfolding next_turn
next_below n h b = mod-lt (h + 1) (omega arith)

-- ---- a call

module _ (K : ℕ) (blocks : List ℕ) (cs : List Chart) (fits : Fits K blocks cs) where
  -- a chart's timers are on the board
  pub room : (h : ℕ) (c : Chart) → get_elem? cs h ≡ some c → offset blocks h + c.timers ≤ 64
  room h c n = let b = fits.on_board h c n in omega (arith, b.in_block, b.on_board, fits.few_timers)

  module _ (counts : ℕ → List ℕ) (s : Controller) (es : ℕ → List Step) (a : AllStand blocks cs counts s es) where
    pub head_below : (h : ℕ) (c : Chart) → get_elem? cs h ≡ some c → h < length s.heads
    head_below h c n = omega (arith, below_nth cs h n, fits.few_heads, a.as_many_heads)

    board : (h : ℕ) (c : Chart) → get_elem? cs h ≡ some c → offset blocks h + c.timers ≤ length s.counts
    board h c n = omega (arith, room h c n, a.as_many_counts)

    -- head h of chart c is left in the state x
    module _ (h : ℕ) (c : Chart) (m : get_elem? cs h ≡ some c) (x : State) where
      abbrev o : ℕ
      o = offset blocks h

      abbrev l' : List ℕ
      l' = counts_left c o x s

      -- no other head's have changed
      others : (g : ℕ) (c' : Chart) → get_elem? cs g ≡ some c' → (g ≡ h → ⊥) → (j : ℕ) → j < c'.timers
          → get_or l' (offset blocks g + j) 0 ≡ get_or s.counts (offset blocks g + j) 0
      others g c' n d j b = go (lt_or_le g h)
        where
          go : (g < h) ⊎ (h ≤ g) → get_or l' (offset blocks g + j) 0 ≡ get_or s.counts (offset blocks g + j) 0
          go (inl y) = left_before c o x s (board h c m) _ (omega (arith, offset_apart blocks g h y, (fits.on_board g c' n).in_block))
          go (inr y) =
              let z : h < g = omega (arith, d) in
              left_behind c o x s (board h c m) _ (omega (arith, offset_apart blocks h g z, (fits.on_board h c m).in_block))

      leave_stands : (es' : ℕ → List Step)
          → Stands c o (λ j. get_or (counts h) j 0) (standing x.location x.time) l' (es' h) → ((g : ℕ) → (g ≡ h → ⊥) → es' g ≡ es g)
          → AllStand blocks cs counts (leave (length cs) c h o x s) es'
      unfolding leave
      leave_stands es' st same = record {
        turn = next_below (length cs) h fits.some_head;
        as_many_heads = length-set s.heads h _ ∙ a.as_many_heads;
        as_many_counts =
            length_written o (up_to x.counts c.timers) s.counts
            (omega (arith, board h c m, length_up_to x.counts c.timers)) ∙ a.as_many_counts;
        each = λ g c' n. go g c' n (ℕ_discrete g h);
      }
        where
          new : Head
          new = standing x.location x.time

          Is : ℕ → Chart → Head → Type 0
          Is g c' d = Stands c' (offset blocks g) (λ j. get_or (counts g) j 0) d l' (es' g)

          go : (g : ℕ) (c' : Chart) → get_elem? cs g ≡ some c' → Dec (g ≡ h) → Is g c' (get_or (set s.heads h new) g (standing 0 0))
          go g c' n (yes y) =
              subst (λ (k : ℕ). Is k c' (get_or (set s.heads h new) k (standing 0 0))) (sym y)
              (subst (λ (c'' : Chart). Is h c'' (get_or (set s.heads h new) h (standing 0 0)))
              (some-injective _ _ (sym m ∙ ap (get_elem? cs) (sym y) ∙ n))
              (subst (Is h c) (sym (get_or-set_same s.heads h new (standing 0 0) (head_below h c m))) st))
          go g c' n (no d) =
              subst (Is g c') (sym (get_or-set_other s.heads h g new (standing 0 0) d))
              (subst (Stands c' (offset blocks g) (λ j. get_or (counts g) j 0) (head_at s g) l') (sym (same g d))
              (stands_same (a.each g c' n) l' (others g c' n d)))

    -- what comes after a call
    abbrev Next : Done → Type 0
    Next d = AllStand blocks cs counts d.state (λ h. es h ++ step_of h s d.report)

    own_step : (h i : ℕ) → step_of h s (taken h i) ≡ record { transition = i; time = (head_at s h).waiting_time } ∷ []
    unfolding step_of
    own_step h i = rw (eqb_self h, step_of) refl

    no_step : (g h i : ℕ) → (g ≡ h → ⊥) → es g ++ step_of g s (taken h i) ≡ es g
    unfolding step_of
    no_step g h i d = rw (ne_eqb h g (λ x. d (sym x)), step_of) (append-nil _)

    served_stands : (h : ℕ) (c : Chart) → get_elem? cs h ≡ some c → waits (head_at s h) ≡ true → Next (served (length cs) blocks c h s)
    unfolding served step_of state_of waited after
    served_stands h c m w = go (get_elem? c.transitions i) refl
      where
        d : Head
        d = head_at s h

        x : State
        x = state_of d (stretch (offset blocks h) c.timers s.counts)

        t : ℕ
        t = d.waiting_time

        i : ℕ
        i = lowest_to_take c x d.event t

        st : Stands c (offset blocks h) (λ j. get_or (counts h) j 0) d s.counts (es h)
        st = a.each h c m

        Left : State → Report → Type 0
        Left y r = AllStand blocks cs counts (leave (length cs) c h (offset blocks h) y s) (λ g. es g ++ step_of g s r)

        go : (r : Option Transition) → get_elem? c.transitions i ≡ r → Left (left_by c x i t) (report_of c h i)
        go none n =
            subst₂ Left (sym (left_none c x i t n)) (sym (report_none c x i t h n))
            (same_steps (λ g. sym (append-nil _))
            (leave_stands h c m (waited (t - d.time) x) es
            (stands_waited st t (st.waiting w).0 (st.waiting w).1 _
            (left_own c (offset blocks h) (waited (t - d.time) x) s (board h c m))) (λ g e. refl)))
        go (some r) n =
            subst₂ Left (sym (left_some c x i t n)) (sym (report_some c x i t h n))
            (leave_stands h c m (after r x t) (λ g. es g ++ step_of g s (taken h i))
            (subst (λ (y : List Step). Stands c (offset blocks h) (λ j. get_or (counts h) j 0) (standing r.target t)
            (counts_left c (offset blocks h) (after r x t) s) (es h ++ y))
            (sym (own_step h i))
            (stands_taken st t (st.waiting w).0 (st.waiting w).1 _ (fits.valid h c m) i d.event n (lowest_can c x i t d.event n)
            (left_own c (offset blocks h) (after r x t) s (board h c m)))) (λ g e. no_step g h i e))

    turned_stands : Next (turned blocks cs s)
    unfolding passed step_of
    turned_stands = go (turn_is blocks cs s a.turn)
      where
        go : TurnIs blocks cs s → Next (turned blocks cs s)
        go (is_passed w e) = subst Next (sym e) (same_steps (λ g. sym (append-nil _)) (record {
          turn = next_below (length cs) s.turn fits.some_head;
          as_many_heads = a.as_many_heads;
          as_many_counts = a.as_many_counts;
          each = a.each;
        }))
        go (is_served w c n e) = subst Next (sym e) (served_stands s.turn c n w)

    receive_stands : (h e t : ℕ) → (head_at s h).time ≤ t → t ≤ largest_time → AllStand blocks cs counts (receive h e t s) es
    unfolding receive
    receive_stands h e t b m = record {
      turn = a.turn;
      as_many_heads = length-set s.heads h _ ∙ a.as_many_heads;
      as_many_counts = a.as_many_counts;
      each = λ g c n. go g c n (ℕ_discrete g h);
    }
      where
        go : (g : ℕ) (c : Chart) → get_elem? cs g ≡ some c → Dec (g ≡ h)
            → Stands c (offset blocks g) (λ j. get_or (counts g) j 0) (head_at (receive h e t s) g) s.counts (es g)
        go g c n (yes y) =
            subst (λ (k : ℕ). Stands c (offset blocks k) (λ j. get_or (counts k) j 0) (head_at (receive h e t s) k) s.counts (es k)) (sym y)
            (let n' : get_elem? cs h ≡ some c = ap (get_elem? cs) (sym y) ∙ n in
            subst (λ (d : Head). Stands c (offset blocks h) (λ j. get_or (counts h) j 0) d s.counts (es h))
            (sym (get_or-set_same s.heads h _ (standing 0 0) (head_below h c n'))) (stands_receives (a.each h c n') e t b m))
        go g c n (no d) =
            subst (λ (y : Head). Stands c (offset blocks g) (λ j. get_or (counts g) j 0) y s.counts (es g))
            (sym (get_or-set_other s.heads h g _ (standing 0 0) d)) (a.each g c n)

    pub call_stands : (k : Call)
        → AllStand blocks cs counts (state_after s (done_by blocks cs s k)) (λ h. es h ++ steps_in h s (done_by blocks cs s k))
    unfolding done_by step_of
    call_stands turn = turned_stands
    call_stands (event h e t) = go (event_is blocks cs s h e t)
      where
        Is : Answer Done → Type 0
        Is y = AllStand blocks cs counts (state_after s y) (λ h. es h ++ steps_in h s y)

        go : EventIs blocks cs s h e t → Is (done_by blocks cs s (event h e t))
        go (is_refused n b q) = subst Is (sym q) (same_steps (λ g. sym (append-nil _)) a)
        go (is_received f b l q) = subst Is (sym q) (same_steps (λ g. sym (append-nil _)) (receive_stands h e t l b))
