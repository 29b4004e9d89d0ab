-- What the relations of runs and of demand 3 say, each held to something that the definitions compute: `Alike` sets two charts side by side, and a
-- relation that is wrong for both would go unnoticed there.
use mathlib.Core.Path.{◌≡◌, refl, sym, ap, ap₂, ◌∙◌, subst}
use mathlib.Core.Logic.{inl, inr, ◌↔◌}
use mathlib.Core.Bool.{true, ◌&&◌}
use mathlib.Core.Option.{some, some-injective, none-ne-some}
use mathlib.Core.List.{List, [], ◌∷◌}
use Prim.Native.Nat.{ℕ, zero, suc, ◌+◌}
use native.Mathlib.Nat.{zero-add}
use native.Mathlib.Omega.{arith}
use lib.ListN.{length, get_elem?, take, drop, take-append-drop}
use lib.Seq.{take-append_seam, take-nil}
use Rattle.comparison.specs.Comparison.{met}
use Rattle.lists.specs.Lists.{memb}
use Rattle.lists.proofs.Nth.{nth_below, below_nth}
use Rattle.model.specs.Answer.{Answer, returned, then}
use Rattle.model.specs.Chart.{Test, Transition, Chart, Nth}
use Rattle.model.specs.Run.{Counts, State, Step, Run, EndsAccepting, Point, grown, all_met, begin, steps, outcome, every_time, waited}
use Rattle.model.specs.Player.{Arrival, arrival, answer_of}
use Rattle.model.specs.Equivalence.{Starts, StartedIn, Reads, SamePoint, SamePoints, IsRun}
use Rattle.model.proofs.Answers.{result_same, then_result}
use Rattle.model.proofs.Transitions.{nth_same}

-- ---- runs, their acceptance and their points

module _ (c : Chart) (v : Counts) (es : List Step) where
  -- a run is a list whose answer is a result
  pub is_run_iff : IsRun c v es ↔ ((a : Arrival) × (answer_of every_time c v es ≡ returned a))
  unfolding answer_of arrival
  is_run_iff = (
    λ x. (_, ap (λ (y : Answer State). then y (arrival c)) x.1.ends),
    λ x. let y = then_result (outcome every_time c v es) (arrival c) x.1 in (y.0, record { ends = y.1 }),
  )

  -- it ends accepting exactly if that result accepts
  pub ends_accepting_iff : EndsAccepting c v es ↔ ((a : Arrival) × (answer_of every_time c v es ≡ returned a) × (a.accepting ≡ true))
  unfolding answer_of arrival
  ends_accepting_iff = (
    λ x. (_, ap (λ (y : Answer State). then y (arrival c)) x.run.ends, x.accepting),
    λ x. let y = then_result (outcome every_time c v es) (arrival c) x.1 in record {
      state = y.0;
      run = record { ends = y.1 };
      accepting = ap (λ (a : Arrival). a.accepting) (result_same y.2) ∙ x.2;
    },
  )

  -- what a run leaves is where it arrives
  run_arrives : {s : State} → Run c v es s → {a : Arrival} → answer_of every_time c v es ≡ returned a
      → (a.location ≡ s.location) × (a.time ≡ s.time)
  unfolding answer_of arrival
  run_arrives x e =
      let same = result_same (sym e ∙ ap (λ (y : Answer State). then y (arrival c)) x.ends) in
      (ap (λ (a : Arrival). a.location) same, ap (λ (a : Arrival). a.time) same)

  -- its points: what its first n steps come to, for any n, and d ticks more, for any d
  pub point_iff : (s : State) → Point c v es s ↔ ((n d : ℕ) × (then (outcome every_time c v (take n es)) (λ x. returned (waited d x)) ≡ returned s))
  point_iff s = (
    λ p. (length p.taken, p.wait, rw (p.parts, take-append_seam, p.run.ends) (ap returned (sym p.is))),
    λ x. let y = then_result (outcome every_time c v (take x.0 es)) (λ z. returned (waited x.1 z)) x.2 in record {
      taken = take x.0 es;
      rest = drop x.0 es;
      parts = sym (take-append-drop x.0 es);
      left = y.0;
      run = record { ends = y.1 };
      wait = x.1;
      is = sym (result_same y.2);
    },
  )

-- with no steps: the initial location at every tick, each timer with its starting count and the ticks since
pub point_of_none : (c : Chart) (v : Counts) (s : State)
    → Point c v [] s ↔ ((d : ℕ) × (s ≡ record { location = c.initial; time = d; counts = λ j. v j + d }))
unfolding outcome steps waited grown begin
point_of_none c v s = (
  λ p. let x = (point_iff c v [] s).0 p in (x.1, sym (result_same (rw (take-nil x.0) at x.2)) ∙ at_tick x.1),
  λ x. (point_iff c v [] s).1 (0, x.0, ap returned (at_tick x.0 ∙ sym x.1)),
)
  where
    at_tick : (d : ℕ) → waited d (begin c v) ≡ record { location = c.initial; time = d; counts = λ j. v j + d }
    at_tick d = rw (zero-add d) refl

-- ---- timers started in a step list

module _ (c : Chart) (k : ℕ) where
  -- a step starts what its transition starts
  pub starts_iff : (e : Step) {r : Transition} → Nth c e.transition r → Starts c k e ↔ (memb k r.starts ≡ true)
  starts_iff e {r} n = (
    λ x. subst (λ (y : Transition). memb k y.starts ≡ true) (nth_same x.is_nth n) x.starts_it,
    λ m. record { transition = r; is_nth = n; starts_it = m },
  )

  -- some step of the list does
  pub started_in_iff : (es : List Step) → StartedIn c k es ↔ ((n : ℕ) × (e : Step) × (get_elem? es n ≡ some e) × Starts c k e)
  started_in_iff es = (out es, λ x. into es x.0 x.1 x.2 x.3)
    where
      out : (l : List Step) → StartedIn c k l → (n : ℕ) × (e : Step) × (get_elem? l n ≡ some e) × Starts c k e
      out [] x = absurd x
      out (e ∷ l) (inl x) = (0, e, refl, x)
      out (e ∷ l) (inr x) = let y = out l x in (suc y.0, y.1, y.2, y.3)

      into : (l : List Step) (n : ℕ) (e : Step) → get_elem? l n ≡ some e → Starts c k e → StartedIn c k l
      into [] n e h x = absurd (none-ne-some _ h)
      into (d ∷ l) zero e h x = inl (subst (λ (y : Step). Starts c k y) (sym (some-injective _ _ h)) x)
      into (d ∷ l) (suc n) e h x = inr (into l n e h x)

-- ---- what a test reads

-- before the first step no test reads a started timer
pub reads_none : {c' : Chart} {s s' : State} {i k : ℕ} {t : Test} → Reads c' [] s s' i k t → ⊥
reads_none x = x.started

-- test k of the other chart's transition i, where the test t of the drawn one reads the same
module _ {c' : Chart} {taken : List Step} {s s' : State} {i k : ℕ} {t : Test} (x : Reads c' taken s s' i k t)
    {r' : Transition} (n : Nth c' i r') {t' : Test} (e : get_elem? r'.tests k ≡ some t') where
  same_transition : x.transition ≡ r'
  same_transition = nth_same x.is_nth n

  same_test : x.test ≡ t'
  same_test = some-injective _ _ (sym x.is_test ∙ ap (λ (y : Transition). get_elem? y.tests k) same_transition ∙ e)

  -- its transition leaves the present location
  pub reads_leaves : r'.source ≡ s'.location
  reads_leaves = sym (ap (λ (y : Transition). y.source) same_transition) ∙ x.leaves

  -- its timer was started
  pub reads_started : StartedIn c' t'.timer taken
  reads_started = subst (λ (y : Test). StartedIn c' y.timer taken) same_test x.started

  -- and it is met exactly where t is
  pub reads_met : met t'.comparison (s'.counts t'.timer) t'.constant ≡ met t.comparison (s.counts t.timer) t.constant
  reads_met = rw (← same_test, x.comparison, x.shows, x.constant) refl

-- as many tests, each met exactly where the other is
all_met_alike : (v w : Counts) (ts ts' : List Test) → length ts ≡ length ts'
    → ((k : ℕ) (t t' : Test) → get_elem? ts k ≡ some t → get_elem? ts' k ≡ some t'
    → met t'.comparison (w t'.timer) t'.constant ≡ met t.comparison (v t.timer) t.constant) → all_met ts v ≡ all_met ts' w
unfolding all_met
all_met_alike v w [] [] n h = refl
all_met_alike v w [] (t ∷ ts) n h = absurd (omega (arith, n))
all_met_alike v w (t ∷ ts) [] n h = absurd (omega (arith, n))
all_met_alike v w (t ∷ ts) (t' ∷ ts') n h =
    ap₂ ◌&&◌ (sym (h 0 t t' refl refl)) (all_met_alike v w ts ts' (omega (arith, n)) (λ k. h (suc k)))

-- a transition that leaves such a point, in both charts
module _ {c c' : Chart} {taken : List Step} {s s' : State} (p : SamePoint c c' taken s s') (i : ℕ) {r r' : Transition}
    (n : Nth c i r) (n' : Nth c' i r') (from : r.source ≡ s.location) where
  -- is enabled in both or in neither
  pub same_point_met : all_met r.tests s.counts ≡ all_met r'.tests s'.counts
  same_point_met = all_met_alike _ _ _ _ (p.as_many i r r' n n' from) (λ k t t' e e'. reads_met (p.reads i r n from k t e) n' e')

  -- and each test in the other chart reads a timer that was started
  pub same_point_started : (k : ℕ) {t' : Test} → get_elem? r'.tests k ≡ some t' → StartedIn c' t'.timer taken
  same_point_started k e =
      let t = nth_below r.tests k (omega (arith, below_nth r'.tests k e, p.as_many i r r' n n' from)) in
      reads_started (p.reads i r n from k t.0 t.1) n' e

-- points after the same steps: both charts have arrived at one location at one time
pub same_points_arrive : {c c' : Chart} {v w : Counts} {es : List Step} → SamePoints c c' v w es → {a a' : Arrival}
    → answer_of every_time c v es ≡ returned a → answer_of every_time c' w es ≡ returned a' → (a.location ≡ a'.location) × (a.time ≡ a'.time)
unfolding waited
same_points_arrive x e e' =
    let at = run_arrives _ _ _ x.run e in
    let at' = run_arrives _ _ _ x.run' e' in
    let time : x.left.time + 0 ≡ x.left'.time + 0 = (x.waits 0).time in
    (at.0 ∙ (x.waits 0).location ∙ sym at'.0, omega (arith, at.1, at'.1))
