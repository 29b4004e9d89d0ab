-- Exactly when each refusal of set-up and of the calls comes, whatever is handed in. All ways in which a call is refused are known, and each has its
-- own number, 25 alone having two.
use mathlib.Core.Path.{◌≡◌, refl, sym, ◌∙◌, subst}
use mathlib.Core.Logic.{◌⊎◌, inl, inr, ◌↔◌}
use mathlib.Core.Bool.{true, false, not, true≢false}
use mathlib.Core.List.{List, [], ◌∷◌}
use Prim.Native.Nat.{ℕ, ◌+◌, ◌≤◌, ◌<◌}
use native.Mathlib.Omega.{arith}
use lib.Dec.{ltb}
use lib.ListN.{length}
use borrow.Author.Tests.{leb-false, ltb-true, ltb-false, le-leb, lt-ltb, le-ltb, lt-leb, ne_eqb}
use Rattle.lists.specs.Lists.{memb}
use Rattle.lists.proofs.Bools.{and_left, and_right, not_both, is_no, is_yes, not-true, not-false, and_cases}
use Rattle.lists.proofs.Membership.{memb_tail}
use Rattle.model.specs.Answer.{returned, refused, nowhere}
use Rattle.model.specs.Chart.{Chart}
use Rattle.model.specs.Run.{largest_time}
use Rattle.model.specs.PlayerTerms.{CountsAllowed}
use Rattle.file_format.specs.Parse.{Bytes}
use Rattle.judgement.proofs.Corollaries.{judged_numbers}
use Rattle.controller_model.specs.declared.Controller.{Controller}
use Rattle.controller_model.specs.declared.Heads.{Heads}
use Rattle.controller_model.specs.declared.Parts.{Parts}
use Rattle.controller_model.specs.Heads.{charts_judged, blocks_judged, head_counts, set_up_judged, heads_judged}
use Rattle.controller_model.specs.Serving.{head_at, waits}
use Rattle.controller_model.specs.Controlling.{set_up, sound_state, state_judged, Call, event, free, done_by, called}
use Rattle.controller_model.specs.Refusals.{SomeHeads, FirstRefused, BoardRefused, CountsRefused, CountsPass, UnfitHeads}
use Rattle.controller_model.specs.Refusals.{StateRefused, StateTaken, NotFree, Free}
use Rattle.controller_model.specs.Refusals.UnfitHeads.{unfit_number, unfit_blocks}
use Rattle.controller_model.proofs.CountsInOrder.{allowed_pass, wrong_refused}
use Rattle.controller_model.proofs.SetUp.{number_passes}
use Rattle.controller_model.proofs.Turns.{EventRefused}
use Rattle.controller_model.proofs.Turns.EventRefused.{not_free, too_late, too_early}
use Rattle.controller_model.proofs.Promise.{event_refused, done_refused}
use Rattle.controller_model.proofs.Failing.{number_fails, blocks_fail, state_fails}
use Rattle.controller_model.proofs.Refusals.{charts_refused, of_first, HeadsRefused, SetUpRefused, set_up_refused}
use Rattle.controller_model.proofs.Refusals.{CallRefused, call_refused}
use Rattle.controller_model.proofs.Refusals.ChartsRefused.{by_number, by_chart, by_board}
use Rattle.controller_model.proofs.Refusals.HeadsRefused.{by_charts, by_blocks}
use Rattle.controller_model.proofs.Refusals.SetUpRefused.{by_heads, by_counts}
use Rattle.controller_model.proofs.Refusals.CallRefused.{by_heads_again, by_state, by_call}

-- a number up to 10 is none of these
small : (n : ℕ) → n ≤ 10 → memb n (32 ∷ 26 ∷ 15 ∷ 23 ∷ []) ≡ false
unfolding memb
small n l =
    rw (
      ne_eqb n 32 (λ q. omega (arith, q)),
      ne_eqb n 26 (λ q. omega (arith, q)),
      ne_eqb n 15 (λ q. omega (arith, q)),
      ne_eqb n 23 (λ q. omega (arith, q)),
    ) refl

module _ (files : List ℕ) (bytes : Bytes files) (hs : Heads) (K : ℕ) where
  -- ---- what refuses the heads refuses set-up and every call

  charts_1_to_10 : {n p : ℕ} → SomeHeads hs → FirstRefused files hs n p → charts_judged files hs K ≡ refused n p
  unfolding charts_judged
  charts_1_to_10 {n} {p} a f = rw ((number_passes hs.number).1 a, (charts_refused files hs n p).1 f) refl

  charts_11 : BoardRefused files hs K → charts_judged files hs K ≡ refused 11 nowhere
  unfolding charts_judged
  charts_11 b = rw ((number_passes hs.number).1 b.some_heads, b.are, lt-leb K 64 b.over) refl

  charts_25 : (hs.number ≡ 0) ⊎ (8 < hs.number) → charts_judged files hs K ≡ refused 25 nowhere
  unfolding charts_judged
  charts_25 w = rw ((number_fails hs.number).1 w) refl

  -- a refusal up to 10 of the heads is a chart's
  heads_1_to_10 : {n p : ℕ} {P : List Chart → Type 0} → n ≤ 10 → HeadsRefused files hs n p K P → SomeHeads hs × FirstRefused files hs n p
  heads_1_to_10 l (by_charts (by_number a q r)) = absurd (omega arith)
  heads_1_to_10 l (by_charts (by_chart a f)) = ((number_passes hs.number).0 a, f)
  heads_1_to_10 l (by_charts (by_board a cs c b q r)) = absurd (omega arith)
  heads_1_to_10 l (by_blocks cs e x f q r) = absurd (omega arith)

  heads_11 : {p : ℕ} {P : List Chart → Type 0} → HeadsRefused files hs 11 p K P → (p ≡ nowhere) × BoardRefused files hs K
  heads_11 (by_charts (by_number a q r)) = absurd (omega (arith, q))
  heads_11 {p} (by_charts (by_chart a f)) = absurd (omega (arith, (judged_numbers (of_first files hs 11 p bytes f)).1))
  heads_11 (by_charts (by_board a cs c b q r)) =
      (r, record { some_heads = (number_passes hs.number).0 a; charts = cs; are = c; over = leb-false K 64 b })
  heads_11 (by_blocks cs e x f q r) = absurd (omega (arith, q))

  heads_25 : {p : ℕ} {P : List Chart → Type 0} → HeadsRefused files hs 25 p K P → (p ≡ nowhere) × UnfitHeads files hs K P
  heads_25 (by_charts (by_number a q r)) = (r, unfit_number ((number_fails hs.number).0 a))
  heads_25 {p} (by_charts (by_chart a f)) = absurd (omega (arith, (judged_numbers (of_first files hs 25 p bytes f)).1))
  heads_25 (by_charts (by_board a cs c b q r)) = absurd (omega (arith, q))
  heads_25 (by_blocks cs e x f q r) = (r, unfit_blocks cs e x ((blocks_fail K hs.blocks cs).0 f))

  -- no other number is one of the heads
  not_heads : {n p : ℕ} {P : List Chart → Type 0} → 12 ≤ n → (n ≡ 25 → ⊥) → HeadsRefused files hs n p K P → ⊥
  not_heads l d (by_charts (by_number a q r)) = d q
  not_heads {n} {p} l d (by_charts (by_chart a f)) = omega (arith, (judged_numbers (of_first files hs n p bytes f)).1)
  not_heads l d (by_charts (by_board a cs c b q r)) = omega arith
  not_heads l d (by_blocks cs e x f q r) = d q

  -- ---- set-up

  module _ (counts : List ℕ) (ns : Parts) where
    charts_set_up : {n p : ℕ} → charts_judged files hs K ≡ refused n p → set_up files hs K counts ns ≡ refused n p
    unfolding set_up set_up_judged
    charts_set_up e = rw e refl

    pub set_up_1_to_10 : (n p : ℕ) → n ≤ 10 → (set_up files hs K counts ns ≡ refused n p) ↔ (SomeHeads hs × FirstRefused files hs n p)
    set_up_1_to_10 n p l = ((λ e. out (set_up_refused files hs n p K counts ns e)), (λ x. charts_set_up (charts_1_to_10 x.0 x.1)))
      where
        out : SetUpRefused files hs n p K counts ns → SomeHeads hs × FirstRefused files hs n p
        out (by_heads r) = heads_1_to_10 l r
        out (by_counts q r) = absurd (omega arith)

    pub set_up_11 : (p : ℕ) → (set_up files hs K counts ns ≡ refused 11 p) ↔ ((p ≡ nowhere) × BoardRefused files hs K)
    set_up_11 p = ((λ e. out (set_up_refused files hs 11 p K counts ns e)), (λ x. charts_set_up (rw x.0 (charts_11 x.1))))
      where
        out : SetUpRefused files hs 11 p K counts ns → (p ≡ nowhere) × BoardRefused files hs K
        out (by_heads r) = heads_11 r
        out (by_counts q r) = absurd (omega (arith, q))

    pub set_up_12 : (p : ℕ) → (set_up files hs K counts ns ≡ refused 12 p) ↔ CountsRefused files hs K counts ns p
    unfolding set_up set_up_judged
    set_up_12 p = ((λ e. out (set_up_refused files hs 12 p K counts ns e)), back)
      where
        out : SetUpRefused files hs 12 p K counts ns → CountsRefused files hs K counts ns p
        out (by_heads r) = absurd (not_heads (omega arith) (λ q. omega (arith, q)) r)
        out (by_counts q r) = r

        back : CountsRefused files hs K counts ns p → set_up files hs K counts ns ≡ refused 12 p
        back r =
            let z : (i : ℕ) → i ≡ 0 + i = λ i. omega arith in
            let w = wrong_refused (head_counts counts ns) 0 r.charts (blocks_judged K hs.blocks r.charts (returned r.charts)) {p = p}
            r.head r.chart r.is_chart (rw (← z r.head) r.wrong) (λ g c l n. rw (← z g) (r.before g c l n)) in
            rw (r.judged, w) refl

    pub set_up_25 : (p : ℕ) → (set_up files hs K counts ns ≡ refused 25 p) ↔ ((p ≡ nowhere) × UnfitHeads files hs K (CountsPass counts ns))
    unfolding set_up set_up_judged
    set_up_25 p = ((λ e. out (set_up_refused files hs 25 p K counts ns e)), (λ x. rw x.0 (back x.1)))
      where
        out : SetUpRefused files hs 25 p K counts ns → (p ≡ nowhere) × UnfitHeads files hs K (CountsPass counts ns)
        out (by_heads r) = heads_25 r
        out (by_counts q r) = absurd (omega (arith, q))

        back : UnfitHeads files hs K (CountsPass counts ns) → set_up files hs K counts ns ≡ refused 25 nowhere
        back (unfit_number w) = charts_set_up (charts_25 w)
        back (unfit_blocks cs e a u) =
            let pass = allowed_pass (head_counts counts ns) 0 cs (blocks_judged K hs.blocks cs (returned cs))
            (λ g k c q n. subst (λ (j : ℕ). CountsAllowed c (head_counts counts ns j)) (same q) (a g c n)) in
            rw (e, pass, (blocks_fail K hs.blocks cs).1 u) refl
          where
            same : {g k : ℕ} → k ≡ 0 + g → g ≡ k
            same q = omega arith

  -- ---- a call, on any state

  module _ (s : Controller) where
    module _ (k : Call) where
      charts_called : {n p : ℕ} → charts_judged files hs K ≡ refused n p → called files hs K s k ≡ refused n p
      unfolding called state_judged heads_judged
      charts_called e = rw e refl

      -- beyond the heads come 32, 26, 15 and 23
      heads_or : {n p : ℕ} → memb n (32 ∷ 26 ∷ 15 ∷ 23 ∷ []) ≡ false → CallRefused files hs n p K s k → HeadsRefused files hs n p K (λ cs. Unit {0})
      unfolding memb
      heads_or m (by_heads_again r) = r
      heads_or m (by_state cs j f q r) = absurd (true≢false (rw q at m))
      heads_or {n} {p} m (by_call cs j f d) = absurd (not_both (memb_tail n 32 (26 ∷ 15 ∷ 23 ∷ []) (done_refused hs.blocks cs s k n p d).1) m)

      pub called_1_to_10 : (n p : ℕ) → n ≤ 10 → (called files hs K s k ≡ refused n p) ↔ (SomeHeads hs × FirstRefused files hs n p)
      called_1_to_10 n p l = (
        (λ e. heads_1_to_10 l (heads_or (small n l) (call_refused files hs n p K s k e))),
        (λ x. charts_called (charts_1_to_10 x.0 x.1)),
      )

      pub called_11 : (p : ℕ) → (called files hs K s k ≡ refused 11 p) ↔ ((p ≡ nowhere) × BoardRefused files hs K)
      unfolding memb
      called_11 p = ((λ e. heads_11 (heads_or refl (call_refused files hs 11 p K s k e))), (λ x. charts_called (rw x.0 (charts_11 x.1))))

      pub called_25 : (p : ℕ) → (called files hs K s k ≡ refused 25 p) ↔ ((p ≡ nowhere) × UnfitHeads files hs K (λ cs. Unit {0}))
      unfolding called state_judged heads_judged memb
      called_25 p = ((λ e. heads_25 (heads_or refl (call_refused files hs 25 p K s k e))), (λ x. rw x.0 (back x.1)))
        where
          back : UnfitHeads files hs K (λ cs. Unit {0}) → called files hs K s k ≡ refused 25 nowhere
          back (unfit_number w) = charts_called (charts_25 w)
          back (unfit_blocks cs e x u) = rw (e, (blocks_fail K hs.blocks cs).1 u) refl

      pub called_32 : (p : ℕ) → (called files hs K s k ≡ refused 32 p) ↔ ((p ≡ nowhere) × StateRefused files hs K s)
      unfolding called state_judged memb
      called_32 p = (
        (λ e. out (call_refused files hs 32 p K s k e)),
        (λ x. rw (x.0, x.1.judged, (state_fails hs.blocks x.1.charts s).1 x.1.unsound) refl),
      )
        where
          out : CallRefused files hs 32 p K s k → (p ≡ nowhere) × StateRefused files hs K s
          out (by_heads_again r) = absurd (not_heads (omega arith) (λ q. omega (arith, q)) r)
          out (by_state cs j f q r) = (r, record { charts = cs; judged = j; unsound = (state_fails hs.blocks cs s).0 f })
          out (by_call cs j f d) = absurd (true≢false (sym (done_refused hs.blocks cs s k 32 p d).1))

    -- ---- an event

    free_is : (n h : ℕ) → (free n s h ≡ true) ↔ Free s h n
    unfolding free
    free_is n h = (
      (λ e. (ltb-true h n (and_left (ltb h n) _ e), not-true _ (and_right (ltb h n) _ e))),
      (λ f. rw (lt-ltb h n f.0, f.1) refl),
    )

    free_fails : (n h : ℕ) → (free n s h ≡ false) ↔ NotFree s h n
    unfolding free
    free_fails n h = ((λ e. out (and_cases (ltb h n) _ e)), back)
      where
        out : (ltb h n ≡ false) ⊎ (not (waits (head_at s h)) ≡ false) → NotFree s h n
        out (inl e) = inl (ltb-false h n e)
        out (inr e) = inr (not-false _ e)

        back : NotFree s h n → free n s h ≡ false
        back (inl l) = rw (le-ltb h n l) refl
        back (inr w) = is_no _ (λ e. not_both w ((free_is n h).0 e).1)

    module _ (h e t : ℕ) where
      -- the heads and the state pass, and the event has its reason
      event_out : (n p : ℕ) → 12 ≤ n → (n ≡ 25 → ⊥) → (n ≡ 32 → ⊥) → (P : ℕ → Type 0)
          → ((cs : List Chart) → EventRefused hs.blocks cs s h t n → P (length cs)) → called files hs K s (event h e t) ≡ refused n p
          → (p ≡ nowhere) × StateTaken files hs K s P
      event_out n p l x y P why r = go (call_refused files hs n p K s (event h e t) r)
        where
          go : CallRefused files hs n p K s (event h e t) → (p ≡ nowhere) × StateTaken files hs K s P
          go (by_heads_again r) = absurd (not_heads l x r)
          go (by_state cs j f q r) = absurd (y q)
          go (by_call cs j f d) =
              let z = event_refused hs.blocks cs s h e t n p d in
              (z.1, record { charts = cs; judged = j; sound = λ u. not_both f ((state_fails hs.blocks cs s).1 u); has = why cs z.0 })

      -- then what is done decides
      event_back : {P : ℕ → Type 0} (x : StateTaken files hs K s P)
          → called files hs K s (event h e t) ≡ done_by hs.blocks x.charts s (event h e t)
      unfolding called state_judged
      event_back x =
          let sound = is_yes (sound_state hs.blocks x.charts s) (λ f. x.sound ((state_fails hs.blocks x.charts s).0 f)) in
          rw (x.judged, sound) refl

      pub called_26 : (p : ℕ) → (called files hs K s (event h e t) ≡ refused 26 p) ↔ ((p ≡ nowhere) × StateTaken files hs K s (NotFree s h))
      unfolding done_by
      called_26 p = (
        event_out 26 p (omega arith) (λ q. omega (arith, q)) (λ q. omega (arith, q)) _ out,
        (λ x. event_back x.1 ∙ rw (x.0, (free_fails (length x.1.charts) h).1 x.1.has) refl),
      )
        where
          out : (cs : List Chart) → EventRefused hs.blocks cs s h t 26 → NotFree s h (length cs)
          out cs (not_free q f) = (free_fails (length cs) h).0 f
          out cs (too_late q f l) = absurd (omega (arith, q))
          out cs (too_early q f l b) = absurd (omega (arith, q))

      pub called_15 : (p : ℕ)
          → (called files hs K s (event h e t) ≡ refused 15 p) ↔ ((p ≡ nowhere) × StateTaken files hs K s (λ n. Free s h n × (largest_time < t)))
      unfolding done_by
      called_15 p = (
        event_out 15 p (omega arith) (λ q. omega (arith, q)) (λ q. omega (arith, q)) _ out,
        (λ x. event_back x.1 ∙ rw (x.0, (free_is (length x.1.charts) h).1 x.1.has.0, lt-leb t largest_time x.1.has.1) refl),
      )
        where
          out : (cs : List Chart) → EventRefused hs.blocks cs s h t 15 → Free s h (length cs) × (largest_time < t)
          out cs (not_free q f) = absurd (omega (arith, q))
          out cs (too_late q f l) = ((free_is (length cs) h).0 f, l)
          out cs (too_early q f l b) = absurd (omega (arith, q))

      pub called_23 : (p : ℕ) → (called files hs K s (event h e t) ≡ refused 23 p)
          ↔ ((p ≡ nowhere) × StateTaken files hs K s (λ n. Free s h n × ((t ≤ largest_time) × (t < (head_at s h).time))))
      unfolding done_by
      called_23 p = (
        event_out 23 p (omega arith) (λ q. omega (arith, q)) (λ q. omega (arith, q)) _ out,
        (λ x. event_back x.1 ∙ rw (
          x.0,
          (free_is (length x.1.charts) h).1 x.1.has.0,
          le-leb t largest_time x.1.has.1.0,
          lt-leb (head_at s h).time t x.1.has.1.1,
        ) refl),
      )
        where
          out : (cs : List Chart) → EventRefused hs.blocks cs s h t 23 → Free s h (length cs) × ((t ≤ largest_time) × (t < (head_at s h).time))
          out cs (not_free q f) = absurd (omega (arith, q))
          out cs (too_late q f l) = absurd (omega (arith, q))
          out cs (too_early q f l b) = ((free_is (length cs) h).0 f, (l, b))
