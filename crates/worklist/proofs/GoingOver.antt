-- Edges gone over: none, one, and some after others; and those that leave a location, each found by the one before. Hard: that these are all: the
-- edges between one and the next leave other locations.
use mathlib.Core.Path.{◌≡◌, refl, sym, ap, ◌∙◌, subst}
use mathlib.Core.Logic.{◌⊎◌, inl, inr}
use mathlib.Core.Bool.{true, not}
use mathlib.Core.List.{List}
use Prim.Native.Nat.{ℕ, suc, ◌≤◌, ◌<◌}
use native.Mathlib.Decide.{ℕ_discrete}
use native.Mathlib.Omega.{arith}
use lib.ListN.{length, get_or, set, length-set}
use lib.Seq.{get_or-set_same, get_or-set_other}
use Rattle.lists.proofs.Bools.{lt_or_le, or_cases, or_left, or_right, and_left, and_right, and_both, not-true}
use Rattle.lists.proofs.Nth.{set_all}
use Rattle.timer_set.specs.Members.{member, joined, minus}
use Rattle.timer_set.proofs.Members.{member_joined, member_minus}
use Rattle.worklist.specs.Worklist.{NextLeaving, Adjacency, JoinedInto}
use Rattle.worklist.specs.GoneOver.{Brought, GoneOver, Leaves}

-- ---- none

pub gone_none : {from into cut : List ℕ} {Gone : ℕ → Type 0} {stood : ℕ → ℕ} {sets idle : List ℕ} → ((j : ℕ) → j < length from → Gone j → ⊥)
    → GoneOver from into cut Gone stood sets idle sets idle
gone_none none = record {
  long = refl;
  kept = λ q b m. m;
  only = λ q b m. inl m;
  brought = λ q b y. absurd (none y.edge y.below y.gone);
  still_idle = λ q f. (f, refl);
}

-- ---- one

module _ (from into cut : List ℕ) (stood : ℕ → ℕ) (i : ℕ) (below : i < length from) {timers : ℕ}
    (is : timers ≡ minus (stood (get_or from i 0)) (get_or cut i 0)) {sets idle after idleAfter : List ℕ} (inside : get_or into i 0 < length sets)
    (idle_inside : get_or into i 0 < length idle) (g : JoinedInto (get_or into i 0) timers sets idle after idleAfter) where
  abbrev target : ℕ
  target = get_or into i 0

  abbrev target_after : ℕ
  target_after = joined (get_or sets target 0) timers

  abbrev One : ℕ → ℕ → Type 0
  One q b = Brought from into cut (λ j. j ≡ i) stood q b

  -- what the edge brings is what is joined
  one_brings : (b : ℕ) → member timers b ≡ true → One target b
  one_brings b m =
      let both = sym (member_minus (stood (get_or from i 0)) (get_or cut i 0) b) ∙ (rw is at m) in
      record {
        edge = i;
        below = below;
        gone = refl;
        leads = refl;
        stands = and_left _ _ both;
        uncut = not-true _ (and_right (member (stood (get_or from i 0)) b) _ both);
      }

  one_only : (b : ℕ) → member target_after b ≡ true → (member (get_or sets target 0) b ≡ true) ⊎ One target b
  one_only b m = go (or_cases (member (get_or sets target 0) b) (sym (member_joined _ timers b) ∙ m))
    where
      go : (member (get_or sets target 0) b ≡ true) ⊎ (member timers b ≡ true) → (member (get_or sets target 0) b ≡ true) ⊎ One target b
      go (inl old) = inl old
      go (inr new) = inr (one_brings b new)

  one_brought : (q b : ℕ) → One q b → member (get_or (set sets target target_after) q 0) b ≡ true
  one_brought q b y =
      let leads : target ≡ q = ap (λ (j : ℕ). get_or into j 0) (sym y.gone) ∙ y.leads in
      let stands = subst (λ (j : ℕ). member (stood (get_or from j 0)) b ≡ true) y.gone y.stands in
      let uncut = ap (λ (j : ℕ). not (member (get_or cut j 0) b)) (sym y.gone) ∙ ap not y.uncut in
      rw (← leads, get_or-set_same sets target target_after 0 inside, member_joined (get_or sets target 0) timers b)
      (or_right (member (get_or sets target 0) b) (rw (is, member_minus) (and_both stands uncut)))

  one_idle : (q : ℕ) → (get_or idleAfter q 0 ≡ 0 → ⊥) → (get_or idle q 0 ≡ 0 → ⊥) × (get_or after q 0 ≡ get_or sets q 0)
  one_idle q f = go g.waits
    where
      go : ((after ≡ sets) × (idleAfter ≡ idle)) ⊎ (idleAfter ≡ set idle target 0) → (get_or idle q 0 ≡ 0 → ⊥) × (get_or after q 0 ≡ get_or sets q 0)
      go (inl y) = ((λ z. f (rw y.1 z)), ap (λ (l : List ℕ). get_or l q 0) y.0)
      go (inr y) = (
        (λ z. f (rw y (get_or-set_other idle target q 0 0 other ∙ z))),
        rw g.grown (get_or-set_other sets target q _ 0 other),
      )
        where
          other : q ≡ target → ⊥
          other e = f (rw (y, e) (get_or-set_same idle target 0 0 idle_inside))

  pub gone_one : GoneOver from into cut (λ j. j ≡ i) stood sets idle after idleAfter
  gone_one = record {
    long = rw g.grown (length-set sets target target_after);
    kept = λ q b. rw g.grown (set_all (λ q v. member (get_or sets q 0) b ≡ true → member v b ≡ true) sets target target_after inside
        (λ m. member_joined _ _ b ∙ or_left _ m) (λ q m. m) q);
    only = λ q b. rw g.grown (set_all (λ q v. member v b ≡ true → (member (get_or sets q 0) b ≡ true) ⊎ One q b) sets target target_after inside
        (one_only b) (λ q m. inl m) q);
    brought = λ q b y. rw g.grown (one_brought q b y);
    still_idle = one_idle;
  }

-- ---- some, and others after them

-- the edge that brings it may be told to be gone over in another way, where the same stood at the location that it leaves
pub brought_as : {from into cut : List ℕ} {G K : ℕ → Type 0} {stood stands : ℕ → ℕ} {q b : ℕ} (y : Brought from into cut G stood q b) → K y.edge
    → stood (get_or from y.edge 0) ≡ stands (get_or from y.edge 0) → Brought from into cut K stands q b
brought_as {b = b} y gone e = record {
  edge = y.edge;
  below = y.below;
  gone = gone;
  leads = y.leads;
  stands = subst (λ (w : ℕ). member w b ≡ true) e y.stands;
  uncut = y.uncut;
}

-- K: those of G, then those of H
module _ {from into cut : List ℕ} {G H K : ℕ → Type 0} {stood : ℕ → ℕ} {sets idle mid idleMid after idleAfter : List ℕ}
    (cases : (j : ℕ) → j < length from → K j → G j ⊎ H j) (before : (j : ℕ) → j < length from → G j → K j)
    (later : (j : ℕ) → j < length from → H j → K j) (x : GoneOver from into cut G stood sets idle mid idleMid)
    (y : GoneOver from into cut H stood mid idleMid after idleAfter) where
  more_only : (q b : ℕ) → member (get_or after q 0) b ≡ true → (member (get_or sets q 0) b ≡ true) ⊎ Brought from into cut K stood q b
  more_only q b m = late (y.only q b m)
    where
      early : (member (get_or sets q 0) b ≡ true) ⊎ Brought from into cut G stood q b
          → (member (get_or sets q 0) b ≡ true) ⊎ Brought from into cut K stood q b
      early (inl old) = inl old
      early (inr new) = inr (brought_as new (before new.edge new.below new.gone) refl)

      late : (member (get_or mid q 0) b ≡ true) ⊎ Brought from into cut H stood q b
          → (member (get_or sets q 0) b ≡ true) ⊎ Brought from into cut K stood q b
      late (inl old) = early (x.only q b old)
      late (inr new) = inr (brought_as new (later new.edge new.below new.gone) refl)

  more_brought : (q b : ℕ) → Brought from into cut K stood q b → member (get_or after q 0) b ≡ true
  more_brought q b z = go (cases z.edge z.below z.gone)
    where
      go : G z.edge ⊎ H z.edge → member (get_or after q 0) b ≡ true
      go (inl g) = y.kept q b (x.brought q b (brought_as z g refl))
      go (inr h) = y.brought q b (brought_as z h refl)

  pub gone_more : GoneOver from into cut K stood sets idle after idleAfter
  gone_more = record {
    long = y.long ∙ x.long;
    kept = λ q b m. y.kept q b (x.kept q b m);
    only = more_only;
    brought = more_brought;
    still_idle = λ q f. let late = y.still_idle q f in let early = x.still_idle q late.0 in (early.0, late.1 ∙ early.1);
  }

-- the same edges, told in another way, and the same stood at the locations that they leave
module _ {from into cut : List ℕ} {G K : ℕ → Type 0} {stood stands : ℕ → ℕ} {sets idle after idleAfter : List ℕ}
    (back : (j : ℕ) → j < length from → K j → G j) (on : (j : ℕ) → j < length from → G j → K j)
    (same : (j : ℕ) → j < length from → G j → stood (get_or from j 0) ≡ stands (get_or from j 0))
    (x : GoneOver from into cut G stood sets idle after idleAfter) where
  pub gone_as : GoneOver from into cut K stands sets idle after idleAfter
  gone_as = record {
    long = x.long;
    kept = x.kept;
    only = λ q b m. only q b (x.only q b m);
    brought = λ q b z.
        let g = back z.edge z.below z.gone in
        x.brought q b (brought_as z g (sym (same z.edge z.below g)));
    still_idle = x.still_idle;
  }
    where
      only : (q b : ℕ) → (member (get_or sets q 0) b ≡ true) ⊎ Brought from into cut G stood q b
          → (member (get_or sets q 0) b ≡ true) ⊎ Brought from into cut K stands q b
      only q b (inl old) = inl old
      only q b (inr y) = inr (brought_as y (on y.edge y.below y.gone) (same y.edge y.below y.gone))

-- ---- those that leave a location, in rising order

-- those before number i have been gone over, and i is the next
pub record GoingOver (from into cut : List ℕ) (here stood i : ℕ) (sets idle after idleAfter : List ℕ) : Type 0 where
  pub leaves : i < length from → get_or from i 0 ≡ here
  pub over : GoneOver from into cut (λ j. Leaves from here j × (j < i)) (λ q. stood) sets idle after idleAfter

module _ {locations : ℕ} {from into cut first next : List ℕ} (k : Adjacency locations from into cut first next) where
  module _ (here : ℕ) (inside : here < locations) where
    starts : NextLeaving from here 0 (get_or first here 0)
    starts = k.firsts.each here (omega (arith, inside, k.room))

    pub going_none : {stood : ℕ} {sets idle : List ℕ} → GoingOver from into cut here stood (get_or first here 0) sets idle sets idle
    going_none = record {
      leaves = starts.leaves;
      over = gone_none (λ j l g. starts.none_before j (omega arith) g.1 l g.0);
    }

  module _ {here stood i : ℕ} {sets idle mid idleMid : List ℕ} (x : GoingOver from into cut here stood i sets idle mid idleMid)
      (below : i < length from) where
    step : NextLeaving from here (suc i) (get_or next i 0)
    step = subst (λ (q : ℕ). NextLeaving from q (suc i) (get_or next i 0)) (x.leaves below) (k.nexts.each i below)

    pub next_later : i < get_or next i 0
    next_later = omega (arith, step.later)

    pub going_more : {timers : ℕ} {after idleAfter : List ℕ} → timers ≡ minus stood (get_or cut i 0) → length mid ≡ locations
        → locations ≤ length idleMid → JoinedInto (get_or into i 0) timers mid idleMid after idleAfter
        → GoingOver from into cut here stood (get_or next i 0) sets idle after idleAfter
    going_more is long idles g = record {
      leaves = step.leaves;
      over = gone_more cases (λ j l p. (p.0, omega (arith, p.1, next_later)))
          (λ j l e. (ap (λ (i : ℕ). get_or from i 0) e ∙ x.leaves below, omega (arith, e, next_later))) x.over
          (gone_one from into cut (λ q. stood) i below is (omega (arith, target, long)) (omega (arith, target, idles)) g);
    }
      where
        target : get_or into i 0 < locations
        target = k.into_below i (omega (arith, below, k.intos))

        cases : (j : ℕ) → j < length from → Leaves from here j × (j < get_or next i 0) → (Leaves from here j × (j < i)) ⊎ (j ≡ i)
        cases j l p = go (lt_or_le j i) (ℕ_discrete j i)
          where
            go : (j < i) ⊎ (i ≤ j) → Dec (j ≡ i) → (Leaves from here j × (j < i)) ⊎ (j ≡ i)
            go (inl b) d = inl (p.0, b)
            go (inr b) (yes e) = inr e
            go (inr b) (no ne) = absurd (step.none_before j (omega (arith, b, ne)) p.1 l p.0)

-- the last of them has been gone over
pub going_end : {from into cut : List ℕ} {here stood i : ℕ} {sets idle after idleAfter : List ℕ}
    → GoingOver from into cut here stood i sets idle after idleAfter → length from ≤ i
    → GoneOver from into cut (Leaves from here) (λ q. stood) sets idle after idleAfter
going_end x end = gone_as (λ j l e. (e, omega (arith, l, end))) (λ j l p. p.0) (λ j l p. refl) x.over
