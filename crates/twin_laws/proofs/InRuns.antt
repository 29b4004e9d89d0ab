-- Twins are started together, so once started in a run they show one count; and the board timer of one shows that of all. Hard: that a timer which
-- has a number where a run stands was started in the run. Backwards over steps that do not start it, it has had its number, at last at the initial
-- location, where none has one. All this is of any chart and its own twins. A chart with spare locations has the twins of its part that counts. They
-- too show one count in its runs, each step of which leaves a reached location; and they are the twins of the chart that is rewritten, in which spare
-- transitions start nothing, and whose runs are the chart's. Assumes nothing.
use mathlib.Core.Path.{◌≡◌, refl, sym, ap, ◌∙◌, subst}
use mathlib.Core.Logic.{◌⊎◌, inl, inr, ⊎_elim, ◌↔◌}
use mathlib.Core.Bool.{Bool, true, false}
use mathlib.Core.List.{List, [], ◌∷◌, ◌++◌}
use Prim.Native.Nat.{ℕ, suc, ◌+◌, ◌-◌}
use Rattle.lists.specs.Lists.{memb}
use Rattle.lists.proofs.Bools.{yes_or_no, not_both}
use Rattle.model.specs.Answer.{returned}
use Rattle.model.specs.Chart.{Transition, Chart, Nth}
use Rattle.model.specs.Valid.{Valid}
use Rattle.model.specs.Path.{Path, StartsNowhere, Reached, Unstarted}
use Rattle.model.specs.Live.{reached_sets}
use Rattle.model.specs.Spare.{leaves_reached, bare_unless, reached_part, spare_cleared}
use Rattle.model.specs.Run.{Counts, State, Step, Run, grown, after, attempt, steps, begin, outcome, every_time, waited}
use Rattle.model.specs.Twins.{Twins}
use Rattle.model.specs.Rewrite.{Numbering, rewritten_by, board_numbering, rewritten}
use Rattle.model.specs.Plan.{Has, Together, Plan}
use Rattle.model.specs.Equivalence.{Starts, StartedIn, IsRun}
use Rattle.model.specs.Judge.{judged}
use Rattle.twin_laws.specs.InRuns.{ShownThroughTwins, ShownAtPoints}
use Rattle.model.proofs.Answers.{result_same, then_result, match_result}
use Rattle.model.proofs.Transitions.{nth_same}
use Rattle.model.proofs.Steps.{attempt_taken, run_front}
use Rattle.model.proofs.Paths.{reached_initial, reached_step}
use Rattle.model.proofs.Twins.{twins_sym}
use Rattle.model.proofs.SameReached.{plan_there}
use Rattle.model.proofs.ReachedPart.{leaves_iff, part_from, part_same}
use Rattle.model.proofs.SpareCleared.{cleared_from, cleared_kept, cleared_same}
use Rattle.model.proofs.ClearedRuns.{outcome_same}
use Rattle.model.proofs.EqualAnswers.{judged_plan}
use Rattle.model.proofs.Agree.{Agree, restarted_yes, restarted_no}
use Rattle.model.proofs.EqualRuns.{outcome_alike}

-- a step that is taken, and the other steps go on from what it leaves
record Onward (c : Chart) (n : ℕ) (s : State) (e : Step) (es : List Step) (t : State) : Type 0 where
  transition : Transition
  is_nth : Nth c e.transition transition
  leaves : transition.source ≡ s.location
  onward : steps every_time c (suc n) (after transition s e.time) es ≡ returned t

step_taken : (c : Chart) (n : ℕ) (s : State) (e : Step) (es : List Step) (t : State) → steps every_time c n s (e ∷ es) ≡ returned t
    → Onward c n s e es t
unfolding steps
step_taken c n s e es t h =
    let x = then_result (attempt every_time c n s e) _ h in
    let y = attempt_taken every_time c n s e x.0 x.1 in
    record {
      transition = y.transition;
      is_nth = y.is_nth;
      leaves = y.leaves;
      onward = ap (λ (z : State). steps every_time c (suc n) z es) y.left ∙ x.2;
    }

-- ---- started together by every transition that leaves a reached location: those of a path from the initial location and of a run do

-- over a transition that starts both or neither, timers show one count afterwards that show one before or are started
after_same : (j k : ℕ) (r : Transition) → memb j r.starts ≡ memb k r.starts → (s : State) (time : ℕ)
    → (memb j r.starts ≡ false → s.counts j ≡ s.counts k) → (after r s time).counts j ≡ (after r s time).counts k
unfolding after grown
after_same j k r both s time same = ⊎_elim
    (λ m. restarted_yes j _ _ m ∙ sym (restarted_yes k _ _ (sym both ∙ m)))
    (λ f. restarted_no j _ _ f ∙ ap (λ (x : ℕ). x + (time - s.time)) (same f) ∙ sym (restarted_no k _ _ (sym both ∙ f)))
    (yes_or_no (memb j r.starts))

module _ (c : Chart) (j k : ℕ) (t : Together c j k) where
  path_nowhere : (p : List ℕ) (q q' : ℕ) → Reached c q → Path c q p q' → StartsNowhere c j p → StartsNowhere c k p
  path_nowhere [] q q' reach x u = tt
  path_nowhere (i ∷ p) q q' reach x u =
      let from : Reached c x.0.source = rw x.2 reach in
      let on : (r : Transition) → Nth c i r → Reached c r.source = λ r n. rw (← nth_same x.1 n) from in
      ((λ r n. sym (t i r n (on r n)) ∙ u.0 r n), path_nowhere p x.0.target q' (reached_step from x.1) x.3 u.1)

  unstarted_too : (q : ℕ) → Unstarted c q j → Unstarted c q k
  unstarted_too q u = record {
    path = u.path;
    leads = u.leads;
    nowhere = path_nowhere u.path c.initial q reached_initial u.leads u.nowhere;
  }

  steps_same : (es : List Step) (n : ℕ) (s s' : State) → Reached c s.location → steps every_time c n s es ≡ returned s'
      → (s.counts j ≡ s.counts k) ⊎ StartedIn c j es → s'.counts j ≡ s'.counts k
  unfolding steps after
  steps_same [] n s s' reach h (inl e) = rw (← result_same h) e
  steps_same [] n s s' reach h (inr x) = elim x [ ]
  steps_same (e ∷ es) n s s' reach h x =
      let a = step_taken c n s e es s' h in
      let from : Reached c a.transition.source = rw a.leaves reach in
      steps_same es (suc n) (after a.transition s e.time) s' (reached_step from a.is_nth) a.onward (go a from x)
    where
      go : (a : Onward c n s e es s') → Reached c a.transition.source → (s.counts j ≡ s.counts k) ⊎ (Starts c j e ⊎ StartedIn c j es)
          → ((after a.transition s e.time).counts j ≡ (after a.transition s e.time).counts k) ⊎ StartedIn c j es
      go a from (inr (inr x)) = inr x
      go a from (inl x) = inl (after_same j k a.transition (t e.transition _ a.is_nth from) s e.time (λ f. x))
      go a from (inr (inl x)) =
          let m = rw (nth_same x.is_nth a.is_nth) at x.starts_it in
          inl (after_same j k a.transition (t e.transition _ a.is_nth from) s e.time (λ f. absurd (not_both m f)))

  together_counts : (v : Counts) (es : List Step) (s : State) → Run c v es s → StartedIn c j es → s.counts j ≡ s.counts k
  unfolding outcome begin
  together_counts v es s run x = steps_same es 0 (begin c v) s reached_initial run.ends (inr x)

-- ---- twins on paths and in runs

nowhere_too : {c : Chart} {j k : ℕ} → Twins c j k → (p : List ℕ) → StartsNowhere c j p → StartsNowhere c k p
nowhere_too t [] u = tt
nowhere_too t (i ∷ p) u = ((λ r n. sym (t.together i r n) ∙ u.0 r n), nowhere_too t p u.1)

always : {c : Chart} {j k : ℕ} → Twins c j k → Together c j k
always t i r n reach = t.together i r n

module _ {c : Chart} {j k : ℕ} (t : Twins c j k) where
  pub twins_nowhere : (p : List ℕ) → StartsNowhere c j p ↔ StartsNowhere c k p
  twins_nowhere p = (nowhere_too t p, nowhere_too (twins_sym t) p)

  pub twins_unstarted : (q : ℕ) → Unstarted c q j ↔ Unstarted c q k
  twins_unstarted q = (unstarted_too c j k (always t) q, unstarted_too c k j (always (twins_sym t)) q)

  -- once started in a run twins show one count, after every wait
  pub twins_counts : (v : Counts) (es : List Step) (s : State) → Run c v es s → StartedIn c j es → s.counts j ≡ s.counts k
  twins_counts = together_counts c j k (always t)

  pub twins_waited : (d : ℕ) (v : Counts) (es : List Step) (s : State) → Run c v es s → StartedIn c j es
      → (waited d s).counts j ≡ (waited d s).counts k
  unfolding waited grown
  twins_waited d v es s run x = ap (λ (n : ℕ). n + d) (twins_counts v es s run x)

-- ---- what the board timers show

module _ (c : Chart) (N : Numbering) (P : Plan c N) where
  -- a timer that has a number where steps end was started in them, or had the number where they began
  steps_started : (j k : ℕ) (es : List Step) (n : ℕ) (s s' : State) → Reached c s.location → steps every_time c n s es ≡ returned s'
      → Has N s'.location j k → StartedIn c j es ⊎ Has N s.location j k
  unfolding steps after
  steps_started j k [] n s s' reach h x = inr (rw (result_same h) x)
  steps_started j k (e ∷ es) n s s' reach h x =
      let a = step_taken c n s e es s' h in
      let from : Reached c a.transition.source = rw a.leaves reach in
      go a from (steps_started j k es (suc n) (after a.transition s e.time) s' (reached_step from a.is_nth) a.onward x)
    where
      go : (a : Onward c n s e es s') → Reached c a.transition.source → StartedIn c j es ⊎ Has N a.transition.target j k
          → StartedIn c j (e ∷ es) ⊎ Has N s.location j k
      go a from (inl y) = inl (inr y)
      go a from (inr y) = ⊎_elim
          (λ m. inl (inl (record { transition = a.transition; is_nth = a.is_nth; starts_it = m })))
          (λ f. inr (rw (← a.leaves) (P.keeps e.transition a.transition j k a.is_nth from f y)))
          (yes_or_no (memb j a.transition.starts))

  -- so a timer that has a number where a run stands was started in the run
  pub plan_started : (v : Counts) (es : List Step) (s : State) → Run c v es s → (j k : ℕ) → Has N s.location j k → StartedIn c j es
  unfolding outcome begin
  plan_started v es s run j k x =
      ⊎_elim (λ y. y) (λ y. absurd (P.begins j k y)) (steps_started j k es 0 (begin c v) s reached_initial run.ends x)

  -- at every point of a run the number of a timer shows the counts of all its twins, in any chart, by its own twins
  pub own_twins_shown : (v w : Counts) (taken rest : List Step) → IsRun c v (taken ++ rest) → ShownAtPoints c c (rewritten_by N c) N v w taken
  unfolding waited grown
  own_twins_shown v w taken rest x =
      let y = run_front c v taken rest x in
      let z = match_result (Agree c N (λ k. StartedIn (rewritten_by N c) k taken)) (outcome every_time (rewritten_by N c) w taken)
      (rw y.1.ends at (outcome_alike c N P v w every_time taken)) in
      record { left = y.0; left' = z.0; run = y.1; run' = record { ends = z.1 }; waits = λ d. shown d y.0 z.0 y.1 z.2 }
    where
      shown : (d : ℕ) (s s' : State) → Run c v taken s → Agree c N (λ k. StartedIn (rewritten_by N c) k taken) s s'
          → ShownThroughTwins c (rewritten_by N c) N taken (waited d s) (waited d s')
      shown d s s' run a = record {
        shows = λ j i k t h.
            ap (λ (n : ℕ). n + d) (sym (a.shows i k h)) ∙ twins_waited (twins_sym t) d v taken s run (plan_started v taken s run i k h);
        started = a.started;
      }

-- ---- a chart with spare locations

-- a transition that is cleared or not: cleared it starts neither, and else it is asked to start both or neither
bare_together : (j k : ℕ) (b : Bool) (r : Transition) → (b ≡ true → memb j r.starts ≡ memb k r.starts)
    → memb j (bare_unless b r).starts ≡ memb k (bare_unless b r).starts
unfolding memb
bare_together j k true r same = same refl
bare_together j k false r same = refl

module _ {W : ℕ} {c : Chart} (valid : Valid W c) where
  -- What a plan asks of timers that share a number: that they are twins. In the words of paths it says that spare transitions tell no twins apart:
  -- timers are twins exactly if every transition that leaves a reached location starts both or neither.
  pub together_iff : (j k : ℕ) → Twins (reached_part c) j k ↔ Together c j k
  together_iff j k = (
    λ t i r n reach. let x = (part_same valid).there i r n reach in t.together x.0 r x.1,
    λ t. record { together = λ i r n. let x = part_from valid n in t x.0 r x.1 x.2 },
  )

  -- the twins of the chart that is rewritten: a cleared transition starts neither
  pub twins_cleared : {j k : ℕ} → Twins (reached_part c) j k ↔ Twins (spare_cleared c) j k
  twins_cleared {j} {k} = (
    λ t. record {
      together = λ i r' n.
          let x = cleared_from c n in
          let b = leaves_reached (reached_sets c) x.0 in
          subst (λ (r : Transition). memb j r.starts ≡ memb k r.starts) x.2
          (bare_together j k b x.0 (λ e. (together_iff j k).0 t i x.0 x.1 ((leaves_iff valid x.1).0 e)));
    },
    λ t. (together_iff j k).1 (λ i r n reach. t.together i r (cleared_kept valid n reach)),
  )

-- the twins of the part that counts are started together on every path from the initial location, and show one count in runs of the chart itself
module _ {W : ℕ} {c : Chart} (valid : Valid W c) {j k : ℕ} (t : Twins (reached_part c) j k) where
  pub part_twins_unstarted : (q : ℕ) → Unstarted c q j ↔ Unstarted c q k
  part_twins_unstarted q =
      (unstarted_too c j k ((together_iff valid j k).0 t) q, unstarted_too c k j ((together_iff valid k j).0 (twins_sym t)) q)

  pub part_twins_counts : (v : Counts) (es : List Step) (s : State) → Run c v es s → StartedIn c j es → s.counts j ≡ s.counts k
  part_twins_counts = together_counts c j k ((together_iff valid j k).0 t)

  pub part_twins_waited : (d : ℕ) (v : Counts) (es : List Step) (s : State) → Run c v es s → StartedIn c j es
      → (waited d s).counts j ≡ (waited d s).counts k
  unfolding waited grown
  part_twins_waited d v es s run x = ap (λ (n : ℕ). n + d) (part_twins_counts v es s run x)

-- for every plan: the chart that the rewriting makes by it shows the counts of all twins of the part that counts
pub plan_shown : {W : ℕ} {c : Chart} (N : Numbering) → Valid W c → Plan c N → (v w : Counts) (taken rest : List Step) → IsRun c v (taken ++ rest)
    → ShownAtPoints c (reached_part c) (rewritten_by N (spare_cleared c)) N v w taken
plan_shown {c = c} N valid P v w taken rest x =
    let p = own_twins_shown (spare_cleared c) N (plan_there (cleared_same valid) P) v w taken rest
    (x.0, record { ends = sym (outcome_same valid every_time v (taken ++ rest)) ∙ x.1.ends }) in
    record {
      left = p.left;
      left' = p.left';
      run = record { ends = outcome_same valid every_time v taken ∙ p.run.ends };
      run' = p.run';
      waits = λ d. record { shows = λ j i k t. (p.waits d).shows j i k ((twins_cleared valid).0 t); started = (p.waits d).started };
    }

-- ---- first fit

-- its numbers on a chart that is judged are a plan, and `rewritten c` is made by them
module _ {W : ℕ} {c : Chart} (valid : Valid W c) (answered : judged c ≡ returned c) where
  pub first_fit_shown : (v w : Counts) (taken rest : List Step) → IsRun c v (taken ++ rest)
      → ShownAtPoints c (reached_part c) (rewritten c) (board_numbering (reached_part c)) v w taken
  unfolding rewritten
  first_fit_shown = plan_shown (board_numbering (reached_part c)) valid (judged_plan valid answered)
