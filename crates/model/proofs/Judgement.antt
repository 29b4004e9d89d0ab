-- What the judgement of a chart says, by paths: 9, below version 3, at the lowest location that no path reaches, else 10 at the lowest transition
-- with an unstarted test, else the chart. Hard: each answer exactly when, since two places of which neither is lower must be one.
use mathlib.Core.Path.{◌≡◌, refl, sym, ap, ◌∙◌, subst}
use mathlib.Core.Logic.{◌⊎◌, inl, inr, ◌↔◌}
use mathlib.Core.Bool.{Bool, true, false, not, ◌||◌}
use Prim.Native.Nat.{ℕ, ◌≤◌, ◌<◌}
use native.Mathlib.Omega.{arith}
use lib.Dec.{leb}
use lib.ListN.{length, get_or}
use borrow.Author.Tests.{leb-true, leb-false, lt-leb, not-true}
use Rattle.timer_set.specs.Members.{member, common}
use Rattle.timer_set.proofs.Members.{member_common, common_lt}
use Rattle.lists.proofs.Bools.{not_both, is_yes, or_left, or_right, and_left, and_right, and_both, lt_or_le}
use Rattle.lists.proofs.Lowest.{lowest_passes, lowest_before}
use Rattle.lists.proofs.Membership.{first_passes, first_before}
use Rattle.lists.proofs.Nth.{below_nth}
use Rattle.model.specs.Answer.{returned, refused}
use Rattle.model.specs.Chart.{Transition, Chart, Nth}
use Rattle.model.specs.Version.{allows_spare}
use Rattle.model.specs.Valid.{Valid}
use Rattle.model.specs.Path.{Reached, UnstartedTest}
use Rattle.model.specs.Live.{tests_set, unstarted_sets, reached_sets, is_empty, first_unreached, first_unstarted}
use Rattle.model.specs.Judge.{judged}
use Rattle.model.proofs.Transitions.{nth_valid, tested_below}
use Rattle.model.proofs.TransitionSets.{member_tests, tests_word}
use Rattle.model.proofs.Paths.{UnstartedAt, unstarted_reached}
use Rattle.model.proofs.Forward.{member_filled, filled_member, unstarted_iff, reached_iff}
pub use Rattle.model.specs.Places.{AllReached, HasUnreached, ReachedIfAsked, LowestUnreached, LowestUnstarted, Accepted}

-- ---- what the three answers say

-- the answer, with what it says
pub data Judgement (c : Chart) : Type 0 where
  is_unreached : (q : ℕ) → judged c ≡ refused 9 q → LowestUnreached c q → Judgement c
  is_unstarted : (i : ℕ) → judged c ≡ refused 10 i → LowestUnstarted c i → Judgement c
  is_accepted : judged c ≡ returned c → Accepted c → Judgement c

-- ---- one of them is given

module _ {W : ℕ} {c : Chart} (valid : Valid W c) where
  -- transition r tests a timer of the unstarted set at its source
  abbrev meets : Transition → Bool
  meets r = not (is_empty (common (tests_set r) (get_or (unstarted_sets c) r.source 0)))

  meets_iff : {i : ℕ} {r : Transition} → Nth c i r → (meets r ≡ true) ↔ UnstartedTest c r
  meets_iff {i} {r} n = (
    (λ h.
        let filled = not-true (is_empty (common (tests_set r) sets)) h in
        let x = filled_member (common (tests_set r) sets) (common_lt 64 (tests_set r) sets (tests_word valid n)) filled in
        let m = sym (member_common (tests_set r) sets x.0) ∙ x.2 in
        record {
          timer = x.0;
          tests_it = sym (member_tests r x.0) ∙ and_left (member (tests_set r) x.0) (member sets x.0) m;
          unstarted = (unstarted_iff valid r.source x.0 source x.1).0 (and_right (member (tests_set r) x.0) (member sets x.0) m);
        }),
    (λ u.
        let j = u.timer in
        let l : j < 64 = omega (arith, valid.few_timers, tested_below valid j n u.tests_it) in
        let both = and_both (member_tests r j ∙ u.tests_it) ((unstarted_iff valid r.source j source l).1 u.unstarted) in
        ap not (member_filled (common (tests_set r) sets) j (member_common (tests_set r) sets j ∙ both))),
  )
    where
      sets : ℕ
      sets = get_or (unstarted_sets c) r.source 0

      source : r.source < c.locations
      source = (nth_valid valid n).source

  -- 9
  unreached_before : (q : ℕ) → q < c.locations → q < first_unreached c → Reached c q
  unfolding first_unreached
  unreached_before q b l = (reached_iff valid q b).0 (lowest_before (λ p. is_empty (get_or (reached_sets c) p 0)) c.locations q l)

  unreached_lowest : allows_spare c.version ≡ false → first_unreached c < c.locations → LowestUnreached c (first_unreached c)
  unfolding first_unreached
  unreached_lowest v l = record {
    none_spare = v;
    below = l;
    unreached = λ x.
        not_both (lowest_passes (λ p. is_empty (get_or (reached_sets c) p 0)) c.locations l) ((reached_iff valid (first_unreached c) l).1 x);
    lower_reached = λ p h. unreached_before p (omega arith) h;
  }

  all_reached : c.locations ≤ first_unreached c → AllReached c
  all_reached h q b = unreached_before q b (omega arith)

  pub none_unreached : AllReached c → leb c.locations (first_unreached c) ≡ true
  unfolding first_unreached
  none_unreached all = is_yes _ (λ e.
      let l = leb-false c.locations (first_unreached c) e in
      not_both (lowest_passes (λ p. is_empty (get_or (reached_sets c) p 0)) c.locations l) ((reached_iff valid (first_unreached c) l).1 (all _ l)))

  -- 10
  unstarted_none : (k : ℕ) → k < first_unstarted c → UnstartedAt c k → ⊥
  unfolding first_unstarted
  unstarted_none k l u = not_both ((meets_iff u.is_nth).1 u.test) (first_before meets c.transitions k u.transition l u.is_nth.there)

  unstarted_lowest : ReachedIfAsked c → first_unstarted c < length c.transitions → LowestUnstarted c (first_unstarted c)
  unfolding first_unstarted
  unstarted_lowest reached l =
      let x = first_passes meets c.transitions l in
      let n : Nth c (first_unstarted c) x.0 = record { there = x.1 } in
      record {
        reached = reached;
        unstarted_test = record { transition = x.0; is_nth = n; test = (meets_iff n).0 x.2 };
        none_lower = unstarted_none;
      }

  unstarted_accepted : ReachedIfAsked c → length c.transitions ≤ first_unstarted c → Accepted c
  unstarted_accepted reached h =
      record { reached = reached; no_unstarted_test = λ i u. unstarted_none i (omega (arith, below_nth c.transitions i u.is_nth.there)) u }

  pub judged_cases : Judgement c
  unfolding judged
  judged_cases =
      go (allows_spare c.version) refl (leb c.locations (first_unreached c)) refl (leb (length c.transitions) (first_unstarted c)) refl
    where
      -- where 9 does not refuse, 10 is judged
      rest : ReachedIfAsked c → (allows_spare c.version || leb c.locations (first_unreached c)) ≡ true
          → (b : Bool) → leb (length c.transitions) (first_unstarted c) ≡ b → Judgement c
      rest x e false f = is_unstarted (first_unstarted c) (rw (e, f, judged)) (unstarted_lowest x (leb-false _ _ f))
      rest x e true f = is_accepted (rw (e, f, judged)) (unstarted_accepted x (leb-true _ _ f))

      go : (v : Bool) → allows_spare c.version ≡ v → (a : Bool) → leb c.locations (first_unreached c) ≡ a
          → (b : Bool) → leb (length c.transitions) (first_unstarted c) ≡ b → Judgement c
      go true h a e b f = rest (λ v. absurd (not_both h v)) (or_left (leb c.locations (first_unreached c)) h) b f
      go false h false e b f = is_unreached (first_unreached c) (rw (h, e, judged)) (unreached_lowest h (leb-false _ _ e))
      go false h true e b f = rest (λ v. all_reached (leb-true _ _ e)) (or_right (allows_spare c.version) e) b f

-- ---- each answer is given exactly where what it says holds

-- two numbers of which neither is lower than the other are the same
neither_lower : (a b : ℕ) → (a < b → ⊥) → (b < a → ⊥) → a ≡ b
neither_lower a b f g = go (lt_or_le a b) (lt_or_le b a)
  where
    go : (a < b) ⊎ (b ≤ a) → (b < a) ⊎ (a ≤ b) → a ≡ b
    go (inl l) y = absurd (f l)
    go (inr h) (inl l) = absurd (g l)
    go (inr h) (inr h') = omega arith

module _ {W : ℕ} {c : Chart} (valid : Valid W c) where
  pub refused_9 : (q : ℕ) → (judged c ≡ refused 9 q) ↔ LowestUnreached c q
  refused_9 q = (out (judged_cases valid), into (judged_cases valid))
    where
      out : Judgement c → judged c ≡ refused 9 q → LowestUnreached c q
      out (is_unreached p e l) h = let z : p ≡ q = cc in subst (LowestUnreached c) z l
      out (is_unstarted i e l) h = let z : ◌≡◌ {A = ℕ} 10 9 = cc in absurd (omega arith)
      out (is_accepted e a) h = let z : ◌≡◌ {A = ℕ} 0 1 = cc in absurd (omega arith)

      into : Judgement c → LowestUnreached c q → judged c ≡ refused 9 q
      into (is_unreached p e l) u =
          e ∙ ap (refused 9) (neither_lower p q (λ b. l.unreached (u.lower_reached p b)) (λ b. u.unreached (l.lower_reached q b)))
      into (is_unstarted i e l) u = absurd (u.unreached (l.reached u.none_spare q u.below))
      into (is_accepted e a) u = absurd (u.unreached (a.reached u.none_spare q u.below))

  pub refused_10 : (i : ℕ) → (judged c ≡ refused 10 i) ↔ LowestUnstarted c i
  refused_10 i = (out (judged_cases valid), into (judged_cases valid))
    where
      out : Judgement c → judged c ≡ refused 10 i → LowestUnstarted c i
      out (is_unreached p e l) h = let z : ◌≡◌ {A = ℕ} 10 9 = cc in absurd (omega arith)
      out (is_unstarted k e l) h = let z : k ≡ i = cc in subst (LowestUnstarted c) z l
      out (is_accepted e a) h = let z : ◌≡◌ {A = ℕ} 0 1 = cc in absurd (omega arith)

      into : Judgement c → LowestUnstarted c i → judged c ≡ refused 10 i
      into (is_unreached p e l) u = absurd (l.unreached (u.reached l.none_spare p l.below))
      into (is_unstarted k e l) u =
          e ∙ ap (refused 10) (neither_lower k i (λ b. u.none_lower k b l.unstarted_test) (λ b. l.none_lower i b u.unstarted_test))
      into (is_accepted e a) u = absurd (a.no_unstarted_test i u.unstarted_test)

  pub accepted : (judged c ≡ returned c) ↔ Accepted c
  accepted = (out (judged_cases valid), into (judged_cases valid))
    where
      out : Judgement c → judged c ≡ returned c → Accepted c
      out (is_unreached p e l) h = let z : ◌≡◌ {A = ℕ} 0 1 = cc in absurd (omega arith)
      out (is_unstarted k e l) h = let z : ◌≡◌ {A = ℕ} 0 1 = cc in absurd (omega arith)
      out (is_accepted e a) h = a

      into : Judgement c → Accepted c → judged c ≡ returned c
      into (is_unreached p e l) u = absurd (l.unreached (u.reached l.none_spare p l.below))
      into (is_unstarted k e l) u = absurd (u.no_unstarted_test k l.unstarted_test)
      into (is_accepted e a) u = e

  -- 9 has a place exactly where the version is below 3 and some location is not reached
  pub unreached_iff : ((q : ℕ) × LowestUnreached c q) ↔ HasUnreached c
  unfolding allows_spare
  unreached_iff = (
    (λ x. record { below_3 = leb-false 3 c.version x.1.none_spare; not_all = λ all. x.1.unreached (all x.0 x.1.below) }),
    back (judged_cases valid),
  )
    where
      back : Judgement c → HasUnreached c → (q : ℕ) × LowestUnreached c q
      back (is_unreached q e l) h = (q, l)
      back (is_unstarted i e l) h = absurd (h.not_all (l.reached (lt-leb 3 c.version h.below_3)))
      back (is_accepted e a) h = absurd (h.not_all (a.reached (lt-leb 3 c.version h.below_3)))

-- 10 looks at no transition that leaves a spare location: the one at its place leaves a location which a path reaches
pub source_reached : {c : Chart} {i : ℕ} → LowestUnstarted c i → (r : Transition) × Nth c i r × Reached c r.source
source_reached l = let u = l.unstarted_test in (u.transition, u.is_nth, unstarted_reached u.test.unstarted)
