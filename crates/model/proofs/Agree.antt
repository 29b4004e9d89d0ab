-- What the states of a chart and of the rewritten chart have in common during a run, and that one step keeps it. Hard: the counts after a step: a
-- board timer is started exactly if the timer is that has its number at the target, also where timers share a number.
use mathlib.Core.Path.{◌≡◌, refl, sym, ap, ap₂, ◌∙◌}
use mathlib.Core.Logic.{◌⊎◌, inl, inr}
use mathlib.Core.Bool.{Bool, true, false}
use mathlib.Core.Option.{Option, none, some}
use mathlib.Core.List.{List}
use Prim.Native.Nat.{ℕ, ◌+◌, ◌-◌}
use lib.Dec.{leb, eqb}
use lib.ListN.{get_elem?}
use Rattle.lists.specs.Lists.{memb}
use Rattle.lists.proofs.Bools.{yes_or_no, not_both, is_no, same_number}
use Rattle.model.specs.Chart.{Transition, Chart, Nth}
use Rattle.model.specs.Run.{Counts, State, Step, grown, restarted, after, enabled, attempt, begin}
use Rattle.model.specs.Path.{Reached}
use Rattle.model.specs.Rewrite.{Numbering, new_starts, new_transition, rewritten_by}
use Rattle.model.specs.Plan.{Has, Plan, Numbered}
use Rattle.model.specs.Equivalence.{Starts}
use Rattle.model.proofs.Answers.{Matching, match_unless}
use Rattle.model.proofs.Steps.{judged_step, attempt_none, attempt_some}
use Rattle.model.proofs.Paths.{reached_initial, reached_step}
use Rattle.model.proofs.Rewritten.{new_nth, new_none, all_met_lem, starts_in, starts_out}

pub restarted_yes : (j : ℕ) (l : List ℕ) (v : Counts) → memb j l ≡ true → restarted l v j ≡ 0
unfolding restarted
restarted_yes j l v m = rw (m, restarted) refl

pub restarted_no : (j : ℕ) (l : List ℕ) (v : Counts) → memb j l ≡ false → restarted l v j ≡ v j
unfolding restarted
restarted_no j l v f = rw (f, restarted) refl

-- The invariant: the same location, which a path reaches, and the same time; each timer that has a number there shows its count in the board
-- timer of that number, and that board timer was started before (S).
pub record Agree (c : Chart) (N : Numbering) (S : ℕ → Type 0) (s s' : State) : Type 0 where
  pub location : s.location ≡ s'.location
  pub time : s.time ≡ s'.time
  pub reached : Reached c s.location
  pub shows : (j k : ℕ) → Has N s.location j k → s.counts j ≡ s'.counts k
  pub started : (j k : ℕ) → Has N s.location j k → S k

module _ {c : Chart} {N : Numbering} where
  pub agree_weaken : {S S' : ℕ → Type 0} → ((k : ℕ) → S k → S' k) → (s s' : State) → Agree c N S s s' → Agree c N S' s s'
  agree_weaken f s s' a =
      record { location = a.location; time = a.time; reached = a.reached; shows = a.shows; started = λ j k h. f k (a.started j k h) }

module _ (c : Chart) (N : Numbering) (P : Plan c N) where
  pub agree_begin : (v w : Counts) → Agree c N (λ k. ⊥) (begin c v) (begin (rewritten_by N c) w)
  unfolding begin rewritten_by
  agree_begin v w = record {
    location = refl;
    time = refl;
    reached = reached_initial;
    shows = λ j k h. absurd (P.begins j k h);
    started = P.begins;
  }

  -- a transition from a reached location
  module _ {i : ℕ} {r : Transition} (n : Nth c i r) (reach : Reached c r.source) where
    pub tests_numbered : Numbered N r.source r.tests
    tests_numbered j m = P.reads r.source j reach (record { number = i; transition = r; is_nth = n; leaves = refl; tests_it = m })

    -- a number is started over r exactly if the timer that has it at the target is
    pub started_alike : (j k : ℕ) → Has N r.target j k → memb k (new_starts N r) ≡ memb j r.starts
    started_alike j k h = go (yes_or_no (memb j r.starts))
      where
        go : (memb j r.starts ≡ true) ⊎ (memb j r.starts ≡ false) → memb k (new_starts N r) ≡ memb j r.starts
        go (inl m) = starts_in N r j k m h (P.below r.target j k h) ∙ sym m
        go (inr f) = is_no (memb k (new_starts N r)) shared ∙ sym f
          where
            shared : memb k (new_starts N r) ≡ true → ⊥
            shared m =
                let b = starts_out N r k m in
                not_both b.1 (P.apart r.target b.0 j k (reached_step reach n) b.2 h i r n reach ∙ f)

  -- a transition that leaves the present location
  module _ {i : ℕ} {r : Transition} (n : Nth c i r) {S : ℕ → Type 0} {s s' : State} (a : Agree c N S s s') (from : r.source ≡ s.location) where
    reach : Reached c r.source
    reach = rw from a.reached

    pub shows_at : (j k : ℕ) → Has N r.source j k → s.counts j ≡ s'.counts k
    shows_at j k h = a.shows j k (rw from at h)

    pub started_at : (j k : ℕ) → Has N r.source j k → S k
    started_at j k h = a.started j k (rw from at h)

    tests_alike : (t : ℕ)
        → enabled c r (grown (t - s.time) s.counts) ≡ enabled (rewritten_by N c) (new_transition N r) (grown (t - s'.time) s'.counts)
    unfolding enabled new_transition grown
    tests_alike t =
        all_met_lem N r.source _ _ r.tests (tests_numbered n reach)
        (λ j k h. ap₂ (λ (x y : ℕ). x + (t - y)) (shows_at j k h) a.time)

    abbrev Before : ℕ → Type 0
    Before k = S k ⊎ (memb k (new_starts N r) ≡ true)

    -- both take it, and agree again
    agree_after : (t : ℕ) → Agree c N Before (after r s t) (after (new_transition N r) s' t)
    unfolding after new_transition
    agree_after t = record {
      location = refl;
      time = refl;
      reached = reached_step reach n;
      shows = λ j k h. counts j k h (yes_or_no (memb j r.starts));
      started = λ j k h. starts j k h (yes_or_no (memb j r.starts));
    }
      where
        counts : (j k : ℕ) → Has N r.target j k → (memb j r.starts ≡ true) ⊎ (memb j r.starts ≡ false)
            → restarted r.starts (grown (t - s.time) s.counts) j ≡ restarted (new_starts N r) (grown (t - s'.time) s'.counts) k
        counts j k h (inl m) = restarted_yes j _ _ m ∙ sym (restarted_yes k _ _ (started_alike n reach j k h ∙ m))
        counts j k h (inr f) =
            restarted_no j _ _ f
            ∙ unfold grown in (ap₂ (λ (x y : ℕ). x + (t - y)) (shows_at j k (P.keeps i r j k n reach f h)) a.time)
            ∙ sym (restarted_no k _ _ (started_alike n reach j k h ∙ f))

        starts : (j k : ℕ) → Has N r.target j k → (memb j r.starts ≡ true) ⊎ (memb j r.starts ≡ false) → Before k
        starts j k h (inl m) = inr (started_alike n reach j k h ∙ m)
        starts j k h (inr f) = inl (started_at j k (P.keeps i r j k n reach f h))

  -- one step: refused by both alike, or taken by both, and they agree again
  pub attempt_alike : (allowed : ℕ → Bool) (n : ℕ) {S : ℕ → Type 0} {s s' : State} → Agree c N S s s' → (e : Step)
      → Matching (Agree c N (λ k. S k ⊎ Starts (rewritten_by N c) k e)) (attempt allowed c n s e) (attempt allowed (rewritten_by N c) n s' e)
  attempt_alike allowed n {S} {s} {s'} a e = go (get_elem? c.transitions e.transition) refl
    where
      Earlier : ℕ → Type 0
      Earlier k = S k ⊎ Starts (rewritten_by N c) k e

      now : (r : Transition) → Nth c e.transition r → (k : ℕ) → S k ⊎ (memb k (new_starts N r) ≡ true) → Earlier k
      now r m k (inl x) = inl x
      now r m k (inr y) =
          inr (record { transition = new_transition N r; is_nth = new_nth N c e.transition m; starts_it = unfold new_transition in y })

      judged : (r : Transition) → Nth c e.transition r
          → Matching (Agree c N Earlier) (judged_step c n r s e.time) (judged_step (rewritten_by N c) n (new_transition N r) s' e.time)
      judged r m = unfold new_transition in (
          match_unless _ 22 n _ _ (ap (eqb r.source) a.location) (λ here.
          match_unless _ 23 n _ _ (ap (λ (x : ℕ). leb x e.time) a.time) (λ x.
          match_unless _ 24 n _ _ (tests_alike m a (same_number here) e.time) (λ x.
          agree_weaken (now r m) _ _ (agree_after m a (same_number here) e.time)))))

      go : (o : Option Transition) → get_elem? c.transitions e.transition ≡ o
          → Matching (Agree c N Earlier) (attempt allowed c n s e) (attempt allowed (rewritten_by N c) n s' e)
      go none h = rw (attempt_none allowed c n s e h, attempt_none allowed (rewritten_by N c) n s' e (new_none N c e.transition h)) (refl, refl)
      go (some r) h =
          let m : Nth c e.transition r = record { there = h } in
          rw (attempt_some allowed c n s e m, attempt_some allowed (rewritten_by N c) n s' e (new_nth N c e.transition m))
          (match_unless _ 15 n _ _ (refl {a = allowed e.time}) (λ x. judged r m))
