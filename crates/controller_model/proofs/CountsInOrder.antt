-- Starting counts, judged head by head: all are allowed, or one head's are wrong and those of no head before it. Along the list of the heads.
use mathlib.Core.Path.{◌≡◌, refl, sym, ap, ◌∙◌, subst}
use mathlib.Core.Logic.{◌⊎◌, inl, inr}
use mathlib.Core.Bool.{Bool, true, false, not}
use mathlib.Core.Option.{some, some-injective, none-ne-some}
use mathlib.Core.List.{List, [], ◌∷◌}
use Prim.Native.Nat.{ℕ, zero, suc, ◌+◌, ◌<◌}
use native.Mathlib.Omega.{arith}
use lib.Dec.{leb, eqb}
use lib.ListN.{length, get_or, get_elem?}
use borrow.Author.Tests.{leb-true, leb-false, le-leb, lt-leb, eqb-true, eqb-false, eq-eqb, ne_eqb}
use Rattle.lists.specs.Lists.{lowest}
use Rattle.lists.proofs.Bools.{not-true, not-false}
use Rattle.lists.proofs.Lowest.{lowest_passes, lowest_before, lowest_is}
use Rattle.model.specs.Answer.{Answer, returned, refused, unless, nowhere}
use Rattle.model.specs.Chart.{Chart}
use Rattle.model.specs.Run.{largest_time}
use Rattle.model.specs.Player.{too_large, counts_judged}
use Rattle.model.specs.PlayerTerms.{CountsAllowed}
use Rattle.model.proofs.PlayerLaws.{counts_pass, counts_allowed}
use Rattle.model.proofs.Answers.{unless_refused}
use Rattle.controller_model.specs.Heads.{counts_in_order}
use Rattle.controller_model.specs.Refusals.{WrongCounts}
use Rattle.controller_model.specs.Refusals.WrongCounts.{not_one_each, one_over}

-- each head's counts are allowed, from head h on
abbrev pub AllAllowed : (counts : ℕ → List ℕ) → (h : ℕ) → List Chart → Type 0
AllAllowed counts h cs = (g k : ℕ) (c : Chart) → k ≡ h + g → get_elem? cs g ≡ some c → CountsAllowed c (counts k)

-- 12 of one head's counts, or they are allowed and the rest is refused
wrong_out : {A : Type 0} (c : Chart) (counts : List ℕ) (x : Answer A) {n p : ℕ} → counts_judged c counts x ≡ refused n p
    → ((n ≡ 12) × WrongCounts c counts p) ⊎ (CountsAllowed c counts × (x ≡ refused n p))
unfolding counts_judged too_large
wrong_out {A} c counts x {n} {p} e = one (unless_refused each 12 nowhere (unless small 12 first x) e)
  where
    first : ℕ
    first = lowest (too_large counts) c.timers

    each : Bool
    each = eqb (length counts) c.timers

    small : Bool
    small = leb c.timers first

    lowest_over : p ≡ first → first < c.timers → each ≡ true → WrongCounts c counts p
    lowest_over q b a = rw q (one_over (eqb-true (length counts) c.timers a) b
        (leb-false (get_or counts first 0) largest_time (not-true _ (lowest_passes (too_large counts) c.timers b)))
        (λ j l. leb-true (get_or counts j 0) largest_time (not-false _ (lowest_before (too_large counts) c.timers j l))))

    two : each ≡ true → ((small ≡ false) × (n ≡ 12) × (p ≡ first)) ⊎ ((small ≡ true) × (x ≡ refused n p))
        → ((n ≡ 12) × WrongCounts c counts p) ⊎ (CountsAllowed c counts × (x ≡ refused n p))
    two a (inl q) = inl (q.1, lowest_over q.2 (leb-false c.timers first q.0) a)
    two a (inr q) = inr (counts_allowed c counts {A = ℕ} (returned 0) 0 (rw (a, q.0) refl), q.1)

    one : ((each ≡ false) × (n ≡ 12) × (p ≡ nowhere)) ⊎ ((each ≡ true) × (unless small 12 first x ≡ refused n p))
        → ((n ≡ 12) × WrongCounts c counts p) ⊎ (CountsAllowed c counts × (x ≡ refused n p))
    one (inl q) = inl (q.1, not_one_each (eqb-false (length counts) c.timers q.0) q.2)
    one (inr q) = two q.0 (unless_refused small 12 first x q.1)

wrong_back : {A : Type 0} (c : Chart) (counts : List ℕ) (x : Answer A) {p : ℕ} → WrongCounts c counts p → counts_judged c counts x ≡ refused 12 p
unfolding counts_judged too_large
wrong_back c counts x (not_one_each d q) = rw (ne_eqb (length counts) c.timers d, q) refl
wrong_back c counts x {p} (one_over a b l f) =
    let first : lowest (too_large counts) c.timers ≡ p =
    lowest_is (too_large counts) c.timers p (omega arith) (λ m. ap not (lt-leb (get_or counts p 0) largest_time l))
    (λ j m. ap not (le-leb (get_or counts j 0) largest_time (f j m))) in
    rw (eq-eqb (length counts) c.timers a, first, lt-leb c.timers p b) refl

module _ (counts : ℕ → List ℕ) where
  none_allowed : (h : ℕ) → AllAllowed counts h []
  none_allowed h g k c q n = absurd (none-ne-some _ n)

  more_allowed : (h : ℕ) (d : Chart) (cs : List Chart) → CountsAllowed d (counts h) → AllAllowed counts (suc h) cs → AllAllowed counts h (d ∷ cs)
  more_allowed h d cs a f zero k c q n = let e : k ≡ h = omega (arith, q) in rw (e, ← some-injective _ _ n) a
  more_allowed h d cs a f (suc g) k c q n = f g k c (omega (arith, q)) n

  -- then none is refused
  pub allowed_pass : {A : Type 0} (h : ℕ) (cs : List Chart) (x : Answer A) → AllAllowed counts h cs → counts_in_order counts h cs x ≡ x
  unfolding counts_in_order
  allowed_pass h [] x a = refl
  allowed_pass h (c ∷ cs) x a =
      counts_pass c (counts h) _ (a 0 h c (omega arith) refl) ∙ allowed_pass (suc h) cs x (λ g k d q n. a (suc g) k d (omega (arith, q)) n)

  pub counts_passed : {A : Type 0} (h : ℕ) (cs : List Chart) (x : Answer A) {y : A} → counts_in_order counts h cs x ≡ returned y
      → AllAllowed counts h cs × (x ≡ returned y)
  unfolding counts_in_order
  counts_passed h [] x e = (none_allowed h, e)
  counts_passed h (d ∷ cs) x {y} e =
      let rest = counts_in_order counts (suc h) cs x in
      let a = counts_allowed d (counts h) rest y e in
      let ih = counts_passed (suc h) cs x (sym (counts_pass d (counts h) rest a) ∙ e) in
      (more_allowed h d cs a ih.0, ih.1)

  -- the counts of one head are wrong, those before it are allowed
  pub record FirstWrong (h : ℕ) (cs : List Chart) (p : ℕ) : Type 0 where
    pub place : ℕ
    pub chart : Chart
    pub is_nth : get_elem? cs place ≡ some chart
    pub wrong : (k : ℕ) → k ≡ h + place → WrongCounts chart (counts k) p
    pub before : (g k : ℕ) (c : Chart) → g < place → k ≡ h + g → get_elem? cs g ≡ some c → CountsAllowed c (counts k)

  pub counts_refused : {A : Type 0} (h : ℕ) (cs : List Chart) (x : Answer A) {n p : ℕ} → counts_in_order counts h cs x ≡ refused n p
      → ((n ≡ 12) × FirstWrong h cs p) ⊎ (AllAllowed counts h cs × (x ≡ refused n p))
  unfolding counts_in_order
  counts_refused h [] x e = inr (none_allowed h, e)
  counts_refused h (d ∷ cs) x {n} {p} e = one (wrong_out d (counts h) (counts_in_order counts (suc h) cs x) e) (counts_refused (suc h) cs x)
    where
      here : WrongCounts d (counts h) p → FirstWrong h (d ∷ cs) p
      here w = record {
        place = 0;
        chart = d;
        is_nth = refl;
        wrong = λ k q. let e : k ≡ h = omega (arith, q) in rw e w;
        before = λ g k c l q n. absurd (omega arith);
      }

      later : CountsAllowed d (counts h) → FirstWrong (suc h) cs p → FirstWrong h (d ∷ cs) p
      later a f = record {
        place = suc f.place;
        chart = f.chart;
        is_nth = f.is_nth;
        wrong = λ k q. f.wrong k (omega (arith, q));
        before = at;
      }
        where
          at : (g k : ℕ) (c : Chart) → g < suc f.place → k ≡ h + g → get_elem? (d ∷ cs) g ≡ some c → CountsAllowed c (counts k)
          at zero k c l q n = let e : k ≡ h = omega (arith, q) in rw (e, ← some-injective _ _ n) a
          at (suc g) k c l q n = f.before g k c (omega arith) (omega (arith, q)) n

      two : CountsAllowed d (counts h) → ((n ≡ 12) × FirstWrong (suc h) cs p) ⊎ (AllAllowed counts (suc h) cs × (x ≡ refused n p))
          → ((n ≡ 12) × FirstWrong h (d ∷ cs) p) ⊎ (AllAllowed counts h (d ∷ cs) × (x ≡ refused n p))
      two a (inl q) = inl (q.0, later a q.1)
      two a (inr q) = inr (more_allowed h d cs a q.0, q.1)

      one : ((n ≡ 12) × WrongCounts d (counts h) p) ⊎ (CountsAllowed d (counts h) × (counts_in_order counts (suc h) cs x ≡ refused n p))
          → (counts_in_order counts (suc h) cs x ≡ refused n p
          → ((n ≡ 12) × FirstWrong (suc h) cs p) ⊎ (AllAllowed counts (suc h) cs × (x ≡ refused n p)))
          → ((n ≡ 12) × FirstWrong h (d ∷ cs) p) ⊎ (AllAllowed counts h (d ∷ cs) × (x ≡ refused n p))
      one (inl q) ih = inl (q.0, here q.1)
      one (inr q) ih = two q.0 (ih q.1)

  pub wrong_refused : {A : Type 0} (h : ℕ) (cs : List Chart) (x : Answer A) {p : ℕ} (i : ℕ) (c : Chart) → get_elem? cs i ≡ some c
      → WrongCounts c (counts (h + i)) p → ((g : ℕ) (d : Chart) → g < i → get_elem? cs g ≡ some d → CountsAllowed d (counts (h + g)))
      → counts_in_order counts h cs x ≡ refused 12 p
  unfolding counts_in_order
  wrong_refused h [] x i c e w b = absurd (none-ne-some _ e)
  wrong_refused h (d ∷ cs) x {p} zero c e w b =
      let q : h + 0 ≡ h = omega arith in
      wrong_back d (counts h) _ (subst (λ (y : Chart). WrongCounts y (counts h) p) (sym (some-injective _ _ e)) (rw q at w))
  wrong_refused h (d ∷ cs) x {p} (suc i) c e w b =
      let q : h + 0 ≡ h = omega arith in
      counts_pass d (counts h) _ (subst (λ (k : ℕ). CountsAllowed d (counts k)) q (b 0 d (omega arith) refl))
      ∙ wrong_refused (suc h) cs x i c e (subst (λ (k : ℕ). WrongCounts c (counts k) p) (next h i) w)
      (λ g y l n. subst (λ (k : ℕ). CountsAllowed y (counts k)) (next h g) (b (suc g) y (omega arith) n))
    where
      next : (h i : ℕ) → h + suc i ≡ suc h + i
      next h i = omega arith
