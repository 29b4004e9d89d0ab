-- The rewritten chart, transition by transition: what its tests read, what its starts start. Hard: tests without a number are left out, so the places
-- of tests agree only where each tested timer has a number.
use mathlib.Core.Path.{◌≡◌, refl, sym, ap, ap₂, ◌∙◌}
use mathlib.Core.Logic.{◌⊎◌, inl, inr}
use mathlib.Core.Bool.{true, ◌&&◌}
use mathlib.Core.Option.{Option, none, some, some-injective, none-ne-some}
use mathlib.Core.List.{List, [], ◌∷◌, filter_map, filter_map-cons-none, filter_map-cons-some}
use Prim.Native.Nat.{ℕ, zero, suc, ◌<◌}
use lib.Dec.{eqb}
use lib.ListN.{length, get_elem?}
use Rattle.comparison.specs.Comparison.{met}
use Rattle.lists.specs.Lists.{memb, any_of}
use Rattle.lists.proofs.Bools.{not_both, or_cases, or_right, eqb_self, same_number}
use Rattle.lists.proofs.Membership.{any_in, nth_map, nth_none, nth_unmap}
use Rattle.lists.proofs.Gather.{pick_in, pick_out}
use Rattle.lists.proofs.Elements.{filter_in, filter_out}
use Rattle.model.specs.Chart.{Test, Transition, Chart, Nth, tested}
use Rattle.model.specs.Run.{Counts, all_met}
use Rattle.model.specs.Rewrite.{Numbering, renamed, new_tests, new_starts, new_transition, rewritten_by}
use Rattle.model.specs.Plan.{Has, Numbered}

module _ (N : Numbering) (c : Chart) (i : ℕ) where
  pub new_nth : {r : Transition} → Nth c i r → Nth (rewritten_by N c) i (new_transition N r)
  unfolding rewritten_by
  new_nth n = record { there = nth_map (new_transition N) c.transitions i n.there }

  pub new_none : get_elem? c.transitions i ≡ none → get_elem? (rewritten_by N c).transitions i ≡ none
  unfolding rewritten_by
  new_none h = nth_none (new_transition N) c.transitions i h

  pub old_nth : {r' : Transition} → Nth (rewritten_by N c) i r' → (r : Transition) × Nth c i r × (new_transition N r ≡ r')
  unfolding rewritten_by
  old_nth n =
      let u = nth_unmap (new_transition N) c.transitions i n.there in
      (u.0, record { there = u.1 }, u.2)

-- ---- tests

-- the test of timer k in the place of t
abbrev pub on_timer : Test → ℕ → Test
on_timer t k = record { timer = k; comparison = t.comparison; constant = t.constant }

pub tested_nth : (ts : List Test) (n : ℕ) {t : Test} → get_elem? ts n ≡ some t → tested t.timer ts ≡ true
unfolding tested
tested_nth ts n {t} e = any_in (λ x. eqb t.timer x.timer) ts n e (eqb_self t.timer)

pub tested_cases : (j : ℕ) (t : Test) (ts : List Test) → tested j (t ∷ ts) ≡ true → (j ≡ t.timer) ⊎ (tested j ts ≡ true)
unfolding tested any_of
tested_cases j t ts h = go (or_cases (eqb j t.timer) h)
  where
    go : (eqb j t.timer ≡ true) ⊎ (tested j ts ≡ true) → (j ≡ t.timer) ⊎ (tested j ts ≡ true)
    go (inl e) = inl (same_number e)
    go (inr m) = inr m

pub tested_head : (t : Test) (ts : List Test) → tested t.timer (t ∷ ts) ≡ true
tested_head t ts = tested_nth (t ∷ ts) 0 refl

pub tested_tail : (j : ℕ) (t : Test) (ts : List Test) → tested j ts ≡ true → tested j (t ∷ ts) ≡ true
unfolding tested any_of
tested_tail j t ts h = or_right (eqb j t.timer) h

module _ (N : Numbering) (q : ℕ) where
  numbered_tail : (t : Test) (ts : List Test) → Numbered N q (t ∷ ts) → Numbered N q ts
  numbered_tail t ts h j m = h j (tested_tail j t ts m)

  pub tests_none : (t : Test) (ts : List Test) → N.number q t.timer ≡ none → new_tests N q (t ∷ ts) ≡ new_tests N q ts
  unfolding new_tests renamed
  tests_none t ts e = filter_map-cons-none _ t ts (ap (renamed t) e)

  pub tests_some : (t : Test) (ts : List Test) {k : ℕ} → Has N q t.timer k → new_tests N q (t ∷ ts) ≡ (on_timer t k ∷ new_tests N q ts)
  unfolding new_tests renamed
  tests_some t ts e = filter_map-cons-some _ t ts (ap (renamed t) e)

  -- where all have numbers, all tests stay, in their order
  pub new_test : (ts : List Test) → Numbered N q ts → (n : ℕ) {t : Test} {k : ℕ} → get_elem? ts n ≡ some t → Has N q t.timer k
      → get_elem? (new_tests N q ts) n ≡ some (on_timer t k)
  new_test [] h n e a = absurd (none-ne-some _ e)
  new_test (x ∷ ts) h zero {t} {k} e a =
      let p : x ≡ t = some-injective _ _ e in
      rw (tests_some x ts (ap (λ (y : Test). N.number q y.timer) p ∙ a)) (ap (λ (y : Test). some (on_timer y k)) p)
  new_test (x ∷ ts) h (suc n) e a =
      rw (tests_some x ts (h x.timer (tested_head x ts)).1) (new_test ts (numbered_tail x ts h) n e a)

  pub tests_as_many : (ts : List Test) → Numbered N q ts → length (new_tests N q ts) ≡ length ts
  tests_as_many [] h = unfold new_tests filter_map in refl
  tests_as_many (t ∷ ts) h = rw (tests_some t ts (h t.timer (tested_head t ts)).1) (ap suc (tests_as_many ts (numbered_tail t ts h)))

  -- counts that agree where the tests read them meet the same tests
  pub all_met_lem : (v w : Counts) (ts : List Test) → Numbered N q ts → ((j k : ℕ) → Has N q j k → v j ≡ w k)
      → all_met ts v ≡ all_met (new_tests N q ts) w
  unfolding all_met new_tests filter_map
  all_met_lem v w [] h e = refl
  all_met_lem v w (t ∷ ts) h e =
      let a = h t.timer (tested_head t ts) in
      rw (tests_some t ts a.1)
      (ap₂ ◌&&◌ (ap (λ (x : ℕ). met t.comparison x t.constant) (e t.timer a.0 a.1)) (all_met_lem v w ts (numbered_tail t ts h) e))

  -- a timer that a test of the new list reads is the number of one that a test of the list reads
  pub tested_old : (k : ℕ) (ts : List Test) → tested k (new_tests N q ts) ≡ true → (j : ℕ) × (tested j ts ≡ true) × Has N q j k
  tested_old k [] h = absurd (not_both h (unfold tested any_of new_tests filter_map in refl))
  tested_old k (t ∷ ts) h = go (N.number q t.timer) refl (tested_old k ts)
    where
      Old : List Test → Type 0
      Old l = (j : ℕ) × (tested j l ≡ true) × Has N q j k

      later : Old ts → Old (t ∷ ts)
      later x = (x.0, tested_tail x.0 t ts x.1, x.2)

      here : (n : ℕ) → Has N q t.timer n → (tested k (new_tests N q ts) ≡ true → Old ts)
          → (k ≡ n) ⊎ (tested k (new_tests N q ts) ≡ true) → Old (t ∷ ts)
      here n a f (inl e) = (t.timer, tested_head t ts, a ∙ ap some (sym e))
      here n a f (inr m) = later (f m)

      go : (o : Option ℕ) → N.number q t.timer ≡ o → (tested k (new_tests N q ts) ≡ true → Old ts) → Old (t ∷ ts)
      go none a f = later (f (rw (tests_none t ts a) at h))
      go (some n) a f = here n a f (tested_cases k (on_timer t n) (new_tests N q ts) (rw (tests_some t ts a) at h))

-- ---- starts

-- a transition starts the numbers at its target of the timers that it starts, and no others
module _ (N : Numbering) (r : Transition) where
  pub starts_in : (j k : ℕ) → memb j r.starts ≡ true → Has N r.target j k → k < N.used → memb k (new_starts N r) ≡ true
  unfolding new_starts
  starts_in j k m a b = pick_in _ N.used k b (filter_in (N.number r.target) r.starts j k m a)

  pub starts_out : (k : ℕ) → memb k (new_starts N r) ≡ true → (j : ℕ) × (memb j r.starts ≡ true) × Has N r.target j k
  unfolding new_starts
  starts_out k m = filter_out (N.number r.target) r.starts k (pick_out _ N.used k m).1

  pub starts_below : (k : ℕ) → memb k (new_starts N r) ≡ true → k < N.used
  unfolding new_starts
  starts_below k m = (pick_out _ N.used k m).0
