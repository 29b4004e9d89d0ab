-- What the rewriting returns, part by part: every transition and every test in its place; and only the rewritten chart has these parts. A tested
-- timer is live where it is tested, so it has a number there and no test is left out; and starts that rise are equal if they have the same members.
use mathlib.Core.Path.{◌≡◌, refl, sym, ap, subst, ◌∙◌}
use mathlib.Core.Bool.{true}
use mathlib.Core.Option.{some, some-injective, none-ne-some}
use mathlib.Core.Logic.{◌⊎◌, inl, inr, ◌↔◌}
use mathlib.Core.List.{List, [], ◌∷◌, map-map, filter_map}
use Prim.Native.Nat.{ℕ}
use lib.ListN.{get_elem?}
use Rattle.lists.specs.Lists.{memb}
use Rattle.lists.specs.Rising.{Rising}
use Rattle.lists.specs.Elements.{PlaceByPlace}
use Rattle.lists.proofs.Bools.{same_bool}
use Rattle.lists.proofs.Gather.{pick_rising, pick_out}
use Rattle.lists.proofs.Membership.{memb_nil, nth_unmap}
use Rattle.lists.proofs.Elements.{filter_out}
use Rattle.lists.proofs.Rising.{rising_same}
use Rattle.lists.proofs.Nth.{place_by_place_cons, place_by_place_map, place_by_place_only}
use Rattle.model.specs.Answer.{returned}
use Rattle.model.specs.Chart.{Test, Transition, Chart, Nth}
use Rattle.model.specs.Valid.{Valid}
use Rattle.model.specs.Path.{Born, Reached}
use Rattle.model.specs.Live.{reached_sets}
use Rattle.model.specs.Spare.{leaves_reached, reached_part, bare, spare_cleared}
use Rattle.model.specs.FirstFit.{used}
use Rattle.model.specs.Rewrite.{Numbering, numbering, through, new_tests, new_starts, new_transition, rewritten_by, rewritten, board_numbering}
use Rattle.model.specs.Plan.{Numbered}
use Rattle.model.specs.Returned.{NotRefused}
use Rattle.model.specs.Judge.{Rewriting, rewriting}
use Rattle.model.proofs.Answers.{result_same}
use Rattle.model.proofs.Transitions.{nth_valid}
use Rattle.model.proofs.Rewritten.{tested_head, tested_tail, tests_some}
use Rattle.model.proofs.Paths.{live_here, reached_step}
use Rattle.model.proofs.BoardPlan.{live_number, born_starts}
use Rattle.model.proofs.ReachedPart.{part_valid, part_live}
use Rattle.model.proofs.SpareCleared.{bare_source, cleared, cleared_one, cleared_spare, reached_or_spare}
use Rattle.model.proofs.RewritingAlike.{rewriting_is}
use Rattle.file_format.specs.Parse.{Bytes}
use Rattle.file_format.specs.File.{chart_in}
use Rattle.file_format.proofs.File.{reads_valid}
use Rattle.rewriting.specs.Rewriting.{rewrite_into}
use Rattle.rewriting.specs.Returned.{RewrittenTest, RewrittenTransition, RewrittenChart}
use Rattle.rewriting.proofs.Fits.{rewriting_of_lem}

-- a transition that starts nothing starts nothing when it is renamed
starts_nothing : (N : Numbering) (r : Transition) → r.starts ≡ [] → new_starts N r ≡ []
unfolding new_starts
starts_nothing N r e =
    rising_same N.used 0 0 _ [] (pick_rising _ N.used) tt (λ k. same_bool _ _
    (λ m. let x = filter_out (N.number r.target) r.starts k (pick_out _ N.used k m).1 in
    absurd (memb_nil x.0 (subst (λ l. memb x.0 l ≡ true) e x.1)))
    (λ m. absurd (memb_nil k m)))

-- how the rewriting names the timers
abbrev numbers : Chart → Numbering
numbers c = board_numbering (reached_part c)

module _ (c : Chart) where
  tests_rewritten : (q : ℕ) (ts : List Test) → Numbered (numbers c) q ts → PlaceByPlace (RewrittenTest c q) ts (new_tests (numbers c) q ts)
  unfolding new_tests filter_map
  tests_rewritten q [] h = record { same_length = refl; related = λ k x y e f. absurd (none-ne-some _ e) }
  tests_rewritten q (t ∷ ts) h =
      let a = h t.timer (tested_head t ts) in
      rw (tests_some (numbers c) q t ts a.1)
      (place_by_place_cons (record { timer = a.1; comparison = refl; constant = refl }) (tests_rewritten q ts (λ j m. h j (tested_tail j t ts m))))

  module _ {W : ℕ} (valid : Valid W c) where
    -- a timer born on a transition from a reached location is so in the part that counts
    born_in_part : {i : ℕ} {r : Transition} → Nth c i r → Reached c r.source → (j : ℕ) → Born (reached_part c) r j ↔ Born c r j
    born_in_part {r = r} n x j = (
      λ b. record { started = b.started; active = ((part_live valid r.target j).0 b.active).1 },
      λ b. record { started = b.started; active = (part_live valid r.target j).1 (reached_step x n, b.active) },
    )

    -- a test of such a transition has a number
    source_numbered : {i : ℕ} {r : Transition} → Nth c i r → Reached c r.source → Numbered (numbers c) r.source r.tests
    source_numbered {i} {r} n x j t =
        live_number (part_valid valid) r.source j
        ((part_live valid r.source j).1 (x, live_here (record { number = i; transition = r; is_nth = n; leaves = refl; tests_it = t })))

    of_reached : {i : ℕ} {r : Transition} → Nth c i r → Reached c r.source → RewrittenTransition c r (new_transition (numbers c) r)
    unfolding new_transition
    of_reached {i} {r} n x = record {
      source = refl;
      target = refl;
      event = refl;
      starts = λ _ k. let b = born_starts (part_valid valid) r k in (
        λ m. let y = b.0 m in (y.0, (born_in_part n x y.0).0 y.1, y.2),
        λ y. b.1 (y.0, (born_in_part n x y.0).1 y.1, y.2),
      );
      tests = λ _. tests_rewritten r.source r.tests (source_numbered n x);
      spare_starts = λ spare. absurd (spare x);
      spare_tests = λ spare. absurd (spare x);
    }

    of_spare : (r : Transition) → (Reached c r.source → ⊥) → RewrittenTransition c r (new_transition (numbers c) (bare r))
    unfolding new_transition new_tests filter_map
    of_spare r spare = record {
      source = refl;
      target = refl;
      event = refl;
      starts = λ x. absurd (spare x);
      tests = λ x. absurd (spare x);
      spare_starts = λ _. starts_nothing (numbers c) (bare r) refl;
      spare_tests = λ _. refl;
    }

    -- what becomes of a transition: its tests and starts go where it is spare, and then it is renamed
    transition_rewritten : (i : ℕ) (r : Transition) → Nth c i r → RewrittenTransition c r (new_transition (numbers c) (cleared c r))
    transition_rewritten i r n = go (reached_or_spare valid n)
      where
        go : Reached c r.source ⊎ (Reached c r.source → ⊥) → RewrittenTransition c r (new_transition (numbers c) (cleared c r))
        go (inl x) = subst (λ (t : Transition). RewrittenTransition c r (new_transition (numbers c) t)) (sym (cleared_one valid n x)) (of_reached n x)
        go (inr x) = subst (λ (t : Transition). RewrittenTransition c r (new_transition (numbers c) t)) (sym (cleared_spare valid n x)) (of_spare r x)

    transitions_rewritten : PlaceByPlace (RewrittenTransition c) c.transitions (rewritten c).transitions
    unfolding rewritten rewritten_by spare_cleared
    transitions_rewritten =
        rw (map-map (new_transition (numbers c)) (cleared c) c.transitions)
        (place_by_place_map _ c.transitions (λ i r e. transition_rewritten i r (record { there = e })))

    chart_rewritten : {K : ℕ} {x : Rewriting} → NotRefused K c x → RewrittenChart c x
    unfolding rewritten rewritten_by spare_cleared board_numbering through numbering used
    chart_rewritten y = record {
      version = ap (λ (d : Chart). d.version) y.chart;
      locations = ap (λ (d : Chart). d.locations) y.chart;
      initial = ap (λ (d : Chart). d.initial) y.chart;
      accepting = ap (λ (d : Chart). d.accepting) y.chart;
      timers = ap (λ (d : Chart). d.timers) y.chart ∙ sym y.used;
      used = y.used;
      transitions = rw y.chart transitions_rewritten;
    }

  -- ---- nothing else has these parts

  test_only : {q : ℕ} {t u v : Test} → RewrittenTest c q t u → RewrittenTest c q t v → u ≡ v
  test_only a b i = record {
    timer = some-injective _ _ (sym a.timer ∙ b.timer) i;
    comparison = (a.comparison ∙ sym b.comparison) i;
    constant = (a.constant ∙ sym b.constant) i;
  }

  transition_only : (m n : ℕ) {r u v : Transition} → Reached c r.source ⊎ (Reached c r.source → ⊥) → RewrittenTransition c r u
      → RewrittenTransition c r v → Rising m 0 u.starts → Rising n 0 v.starts → u ≡ v
  transition_only m n {r} {u} {v} o a b rises rises' i = record {
    source = (a.source ∙ sym b.source) i;
    target = (a.target ∙ sym b.target) i;
    event = (a.event ∙ sym b.event) i;
    starts = starts o i;
    tests = tests o i;
  }
    where
      starts : Reached c r.source ⊎ (Reached c r.source → ⊥) → u.starts ≡ v.starts
      starts (inl x) = rising_same m n 0 u.starts v.starts rises rises'
          (λ k. same_bool _ _ (λ h. (b.starts x k).1 ((a.starts x k).0 h)) (λ h. (a.starts x k).1 ((b.starts x k).0 h)))
      starts (inr x) = a.spare_starts x ∙ sym (b.spare_starts x)

      tests : Reached c r.source ⊎ (Reached c r.source → ⊥) → u.tests ≡ v.tests
      tests (inl x) = place_by_place_only r.tests u.tests v.tests (a.tests x) (b.tests x) (λ k t y z e f. test_only)
      tests (inr x) = a.spare_tests x ∙ sym (b.spare_tests x)

  new_rising : (r : Transition) → Rising (used (reached_part c)) 0 (new_transition (numbers c) r).starts
  unfolding new_transition new_starts board_numbering through numbering used
  new_rising r = pick_rising _ (used (reached_part c))

  -- a path reaches q, or none does
  abbrev Either : ℕ → Type 0
  Either q = Reached c q ⊎ (Reached c q → ⊥)

  -- clearing and renaming keep the source
  source : (r t v : Transition) → cleared c r ≡ t → new_transition (numbers c) t ≡ v → r.source ≡ v.source
  unfolding new_transition
  source r t v e f =
      sym (bare_source (leaves_reached (reached_sets c) r) r) ∙ ap (λ (y : Transition). y.source) e ∙ ap (λ (y : Transition). y.source) f

  -- a chart that a file can hold, and that has the parts of the rewritten chart, is the rewritten chart
  pub rewritten_only : {W W' : ℕ} {x : Rewriting} → Valid W c → Valid W' x.chart → RewrittenChart c x → x.chart ≡ rewritten c
  unfolding rewritten rewritten_by spare_cleared board_numbering through numbering used
  rewritten_only {x = x} valid valid' a i = record {
    version = a.version i;
    locations = a.locations i;
    initial = a.initial i;
    timers = (a.timers ∙ a.used) i;
    accepting = a.accepting i;
    transitions = place_by_place_only c.transitions x.chart.transitions _ a.transitions (transitions_rewritten valid) same i;
  }
    where
      same : (k : ℕ) (r u v : Transition) → get_elem? x.chart.transitions k ≡ some u → get_elem? (rewritten c).transitions k ≡ some v
          → RewrittenTransition c r u → RewrittenTransition c r v → u ≡ v
      same k r u v e f a b =
          let t = nth_unmap (new_transition (numbers c)) (spare_cleared c).transitions k f in
          let o = nth_unmap (cleared c) c.transitions k t.1 in
          let here : Nth c k o.0 = record { there = o.1 } in
          transition_only x.chart.timers (used (reached_part c)) (subst Either (source o.0 t.0 v o.2 t.2 ∙ b.source)
          (reached_or_spare valid here)) a b
          (nth_valid valid' (record { there = e })).starts
          (subst (λ (y : Transition). Rising (used (reached_part c)) 0 y.starts) t.2 (new_rising t.0))

-- the call: what it returns is the rewriting of the chart that the file holds
pub answer_rewritten : (K room : ℕ) (bs : List ℕ) (c : Chart) (x : Rewriting) → Bytes bs → chart_in bs ≡ returned c
    → rewrite_into K room bs ≡ returned x
    → RewrittenChart c x
answer_rewritten K room bs c x bytes reads e =
    let o = rewriting_of_lem K room bs x e in
    let made = subst (λ (d : Chart). rewriting K d ≡ returned x) (result_same (sym o.reads ∙ reads)) o.made in
    chart_rewritten c (reads_valid bs c bytes reads) (rewriting_is K c x made)
