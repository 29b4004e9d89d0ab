-- The player's answer is the step list's own answer, except that it is 15 at step n exactly when the steps before n are taken, step n names a
-- transition, and its time is the first over `largest_time`; nothing else is such an answer. Hard: both are stepped at once: up to the first late
-- step they go alike.
use mathlib.Core.Path.{◌≡◌, refl, sym, ap, ◌∙◌, subst}
use mathlib.Core.Logic.{◌⊎◌, inl, inr, ⊎_elim}
use mathlib.Core.Bool.{true≢false}
use mathlib.Core.Option.{Option, none, some, some-injective, none-ne-some}
use mathlib.Core.List.{List, [], ◌∷◌}
use Prim.Native.Nat.{ℕ, zero, suc, ◌+◌, ◌≤◌, ◌<◌}
use native.Mathlib.Omega.{arith}
use lib.Dec.{leb}
use lib.ListN.{get_elem?, take}
use borrow.Author.Tests.{le-leb, lt-leb}
use Rattle.lists.specs.Lists.{memb}
use Rattle.lists.proofs.Bools.{lt_or_le}
use Rattle.model.specs.Answer.{Answer, returned, refused, then, unless}
use Rattle.model.specs.Chart.{Transition, Chart, Nth}
use Rattle.model.specs.Run.{Counts, State, Step, attempt, steps, begin, outcome, every_time, player_time, largest_time}
use Rattle.model.specs.Player.{Arrival, arrival, answer_of}
use Rattle.model.proofs.Answers.{not_result, refused_same}
use Rattle.model.proofs.Steps.{judged_step, attempt_none, attempt_some}
use Rattle.model.proofs.PlayerNumbers.{list_numbers}
pub use Rattle.model.specs.PlayerTerms.{TooLate, LateStep, PlayerAnswer}

module _ {c : Chart} where
  late_here : (e : Step) (es : List Step) {r : Transition} → Nth c e.transition r → largest_time < e.time → TooLate c (e ∷ es) 0
  late_here e es {r} n l = record { step = e; is_step = refl; transition = r; names = n; over = l; first = λ i e k x. absurd (omega arith) }

  late_later : (e : Step) (es : List Step) (n : ℕ) → e.time ≤ largest_time → TooLate c es n → TooLate c (e ∷ es) (suc n)
  late_later e es n l x =
      record { step = x.step; is_step = x.is_step; transition = x.transition; names = x.names; over = x.over; first = before }
    where
      before : (i : ℕ) (d : Step) → i < suc n → get_elem? (e ∷ es) i ≡ some d → d.time ≤ largest_time
      before zero d k h = subst (λ (y : Step). y.time ≤ largest_time) (some-injective _ _ h) l
      before (suc i) d k h = x.first i d (omega arith) h

  late_tail : (e : Step) (es : List Step) (n : ℕ) → TooLate c (e ∷ es) (suc n) → TooLate c es n
  late_tail e es n x = record {
    step = x.step;
    is_step = x.is_step;
    transition = x.transition;
    names = x.names;
    over = x.over;
    first = λ i d k h. x.first (suc i) d (omega arith) h;
  }

-- ---- one step

module _ (c : Chart) (n : ℕ) (s : State) (e : Step) where
  player_some : {r : Transition} → Nth c e.transition r
      → attempt player_time c n s e ≡ unless (leb e.time largest_time) 15 n (judged_step c n r s e.time)
  unfolding player_time
  player_some m = attempt_some player_time c n s e m

  every_some : {r : Transition} → Nth c e.transition r → attempt every_time c n s e ≡ judged_step c n r s e.time
  unfolding every_time
  every_some m = attempt_some every_time c n s e m

  -- a time that the player allows is judged alike
  allowed_alike : e.time ≤ largest_time → attempt player_time c n s e ≡ attempt every_time c n s e
  allowed_alike l = go (get_elem? c.transitions e.transition) refl
    where
      go : (o : Option Transition) → get_elem? c.transitions e.transition ≡ o → attempt player_time c n s e ≡ attempt every_time c n s e
      go none h = attempt_none player_time c n s e h ∙ sym (attempt_none every_time c n s e h)
      go (some r) h = let m : Nth c e.transition r = record { there = h } in
          player_some m ∙ rw (le-leb e.time largest_time l) (sym (every_some m))

  late_refused : {r : Transition} → Nth c e.transition r → largest_time < e.time → attempt player_time c n s e ≡ refused 15 n
  late_refused m l = player_some m ∙ rw (lt-leb e.time largest_time l) refl

-- ---- a list of steps

module _ (c : Chart) where
  abbrev Taken : ℕ → State → List Step → Type 0
  Taken n s es = (t : State) × (steps every_time c n s es ≡ returned t)

  -- the first step that is too late is where the player stops, with 15, if the steps before it are taken
  late_stops : (es : List Step) (n : ℕ) (s : State) (m : ℕ) → TooLate c es m → Taken n s (take m es) → steps player_time c n s es ≡ refused 15 (n + m)
  unfolding steps
  late_stops [] n s m x k = absurd (none-ne-some _ x.is_step)
  late_stops (e ∷ es) n s zero x k =
      let p : e ≡ x.step = some-injective _ _ x.is_step in
      let names = subst (λ (y : Step). Nth c y.transition x.transition) (sym p) x.names in
      rw (late_refused c n s e names (rw p x.over)) (ap (refused 15) (omega arith))
  late_stops (e ∷ es) n s (suc m) x k = rw (allowed_alike c n s e (x.first 0 e (omega arith) refl))
      (go (attempt every_time c n s e) (λ (t : State). late_stops es (suc n) t m (late_tail e es m x)) k)
    where
      go : (y : Answer State) → ((t : State) → Taken (suc n) t (take m es) → steps player_time c (suc n) t es ≡ refused 15 (suc n + m))
          → ((t : State) × (then y (λ t'. steps every_time c (suc n) t' (take m es)) ≡ returned t))
          → then y (λ t. steps player_time c (suc n) t es) ≡ refused 15 (n + suc m)
      go (returned t) f z = f t z ∙ ap (refused 15) (omega arith)
      go (refused i p) f z = absurd (not_result z.1)

  -- and where there is none, it answers as the step list
  abbrev LateOrSame : ℕ → State → List Step → Type 0
  LateOrSame n s es = ((m : ℕ) × TooLate c es m × Taken n s (take m es)) ⊎ (steps player_time c n s es ≡ steps every_time c n s es)

  late_or_same : (es : List Step) (n : ℕ) (s : State) → LateOrSame n s es
  unfolding steps
  late_or_same [] n s = inr refl
  late_or_same (e ∷ es) n s = named (get_elem? c.transitions e.transition) refl (lt_or_le largest_time e.time) (late_or_same es (suc n))
    where
      onward : e.time ≤ largest_time → (t : State) → attempt every_time c n s e ≡ returned t → LateOrSame (suc n) t es → LateOrSame n s (e ∷ es)
      onward l t h (inl x) = inl (suc x.0, late_later e es x.0 l x.1, (x.2.0, rw h x.2.1))
      onward l t h (inr p) = inr (rw (allowed_alike c n s e l, h) p)

      allowed : e.time ≤ largest_time → (y : Answer State) → attempt every_time c n s e ≡ y → ((t : State) → LateOrSame (suc n) t es)
          → LateOrSame n s (e ∷ es)
      allowed l (returned t) h ih = onward l t h (ih t)
      allowed l (refused i p) h ih = inr (rw (allowed_alike c n s e l, h) refl)

      named : (o : Option Transition) → get_elem? c.transitions e.transition ≡ o → (largest_time < e.time) ⊎ (e.time ≤ largest_time)
          → ((t : State) → LateOrSame (suc n) t es) → LateOrSame n s (e ∷ es)
      named none h d ih = inr (rw (attempt_none player_time c n s e h, attempt_none every_time c n s e h) refl)
      named (some r) h (inl l) ih = inl (0, late_here e es (record { there = h }) l, (s, refl))
      named (some r) h (inr l) ih = allowed l (attempt every_time c n s e) refl ih

-- ---- the player's answer

module _ (c : Chart) (v : Counts) (es : List Step) where
  stops : (n : ℕ) → LateStep c v es n → answer_of player_time c v es ≡ refused 15 n
  unfolding answer_of outcome
  stops n x =
      ap (λ (y : Answer State). then y (arrival c)) (late_stops c es 0 (begin c v) n x.too_late (x.taken.0, x.taken.1.ends))
      ∙ ap (refused 15) (omega arith)

  late_or_own : ((n : ℕ) × LateStep c v es n) ⊎ (answer_of player_time c v es ≡ answer_of every_time c v es)
  unfolding answer_of outcome
  late_or_own =
      ⊎_elim (λ x. inl (x.0, record { too_late = x.1; taken = (x.2.0, record { ends = x.2.1 }) }))
      (λ p. inr (ap (λ (y : Answer State). then y (arrival c)) p)) (late_or_same c es 0 (begin c v))

  own_not_late : {n : ℕ} → answer_of every_time c v es ≡ refused 15 n → ⊥
  own_not_late e = true≢false (sym ((list_numbers c v es).only _ _ e) ∙ unfold memb in refl)

  pub player_answer : PlayerAnswer c v es (answer_of player_time c v es)
  player_answer = record {
    late = λ n. (
      λ e. ⊎_elim (λ x. subst (λ (m : ℕ). LateStep c v es m) (refused_same (sym (stops x.0 x.1) ∙ e)).1 x.1)
          (λ p. absurd (own_not_late (sym p ∙ e))) late_or_own,
      stops n,
    );
    other = λ h. ⊎_elim (λ x. absurd (h x.0 x.1)) (λ p. p) late_or_own;
  }

  -- and it is the only such answer
  pub player_answer_only : {a : Answer Arrival} → PlayerAnswer c v es a → a ≡ answer_of player_time c v es
  player_answer_only x =
      ⊎_elim (λ y. (x.late y.0).1 y.1 ∙ sym (stops y.0 y.1)) (λ p. x.other (λ n l. own_not_late (sym p ∙ stops n l)) ∙ sym p) late_or_own
