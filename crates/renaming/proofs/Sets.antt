-- The renamed sets are those that the transitions of the rewritten chart start. The code takes the timers of a set one by one, the definition the
-- numbers: both are compared by their members.
use mathlib.Core.Path.{◌≡◌, refl, sym, ap, ◌∙◌}
use mathlib.Core.Logic.{◌⊎◌, inl, inr, ⊎_elim}
use mathlib.Core.Bool.{Bool, true, false, not}
use mathlib.Core.List.{List, map, map-map}
use Prim.Native.Nat.{ℕ, ◌+◌, ◌*◌, ◌^◌, ◌≤◌, ◌<◌}
use native.Mathlib.Omega.{arith}
use lib.Dec.{ltb, eqb}
use lib.ListN.{length, take, set}
use lib.Seq.{take-length, length-take-le}
use lib.Pow.{pow_pos}
use borrow.Author.Tests.{ltb-true, lt-ltb, le-ltb}
use Rattle.lists.specs.Lists.{memb}
use Rattle.lists.proofs.Bools.{yes_or_no, or_cases, or_left, or_right, and_left, and_both, same_bool, same_number, eqb_self, not_both}
use Rattle.lists.proofs.Gather.{rising_below}
use Rattle.lists.proofs.Nth.{below_nth}
use Rattle.timer_set.specs.Members.{member, added, removed}
use Rattle.timer_set.proofs.Members.{member_added, member_removed, member_empty, added_lt, set_of_lt, member_ext}
use Rattle.model.specs.Chart.{Transition, Chart, Nth}
use Rattle.model.specs.Valid.{Valid, ValidTransition}
use Rattle.model.specs.Live.{starts_set}
use Rattle.model.specs.Rewrite.{Numbering, new_starts, new_transition, rewritten_by}
use Rattle.model.specs.Plan.{Has}
use Rattle.model.proofs.Rewritten.{starts_in, starts_out, starts_below}
use Rattle.model.proofs.Transitions.{nth_valid}
use Rattle.model.proofs.TransitionSets.{member_starts}
use Rattle.chart_lists.specs.Lists.{lists_of, put}
use Rattle.chart_lists.proofs.Put.{put_next}
use Rattle.chart_lists.proofs.Begins.{begins_room, begins_get_d}
use Rattle.chart_lists.proofs.InTurn.{take_next}
use Rattle.allocation.specs.Cells.{cell}
use Rattle.allocation.proofs.CellList.{cells_length, cells_at, cell_some}
use Rattle.renaming.specs.Renaming.{cell_at, with_number, NumberOf, RenamedTo, CellsOf}

-- ---- one number more

module _ (w x : ℕ) where
  pub with_yes : x < 64 → with_number w x ≡ added w x
  unfolding with_number
  with_yes h = rw (lt-ltb x 64 h, with_number)

  pub with_no : 64 ≤ x → with_number w x ≡ w
  unfolding with_number
  with_no h = rw (le-ltb x 64 h, with_number)

  pub with_lt : w < 2 ^ 64 → with_number w x < 2 ^ 64
  unfolding with_number
  with_lt h = go (ltb x 64) refl
    where
      go : (b : Bool) → ltb x 64 ≡ b → with_number w x < 2 ^ 64
      go true e = rw (e, with_number) (added_lt 64 w x h (ltb-true x 64 e))
      go false e = rw (e, with_number) h

  pub with_old : (k : ℕ) → member w k ≡ true → member (with_number w x) k ≡ true
  unfolding with_number
  with_old k m = go (ltb x 64) refl
    where
      go : (b : Bool) → ltb x 64 ≡ b → member (with_number w x) k ≡ true
      go true e = rw (e, with_number) (member_added w x k ∙ or_left (eqb k x) m)
      go false e = rw (e, with_number) m

  pub with_new : x < 64 → member (with_number w x) x ≡ true
  with_new h = rw (with_yes h) (member_added w x x ∙ or_right (member w x) (eqb_self x))

  pub with_out : (k : ℕ) → member (with_number w x) k ≡ true → (member w k ≡ true) ⊎ ((x ≡ k) × (k < 64))
  unfolding with_number
  with_out k m = go (ltb x 64) refl
    where
      last : x < 64 → (member w k ≡ true) ⊎ (eqb k x ≡ true) → (member w k ≡ true) ⊎ ((x ≡ k) × (k < 64))
      last h (inl a) = inl a
      last h (inr e) = let p : k ≡ x = same_number e in inr (sym p, omega arith)

      go : (b : Bool) → ltb x 64 ≡ b → (member w k ≡ true) ⊎ ((x ≡ k) × (k < 64))
      go true e = last (ltb-true x 64 e) (or_cases (member w k) (sym (member_added w x k) ∙ rw (e, with_number) at m))
      go false e = inl (rw (e, with_number) at m)

-- ---- the timers of a set, taken one by one

module _ (cells : List ℕ) (q w : ℕ) where
  pub renamed_none : RenamedTo cells q w w 0
  renamed_none = record { word = pow_pos 64; sound = λ k. ⊎_elim (λ m. absurd (not_both m (member_empty k))) (λ x. x); complete = λ k x. inr x }

  pub renamed_more : (left i r : ℕ) → i < 64 → member left i ≡ true → RenamedTo cells q w left r
      → RenamedTo cells q w (removed left i) (with_number r (cell_at cells q i))
  renamed_more left i r h m s = record {
    word = with_lt r (cell_at cells q i) s.word;
    sound = λ k x. s.sound k (⊎_elim (λ a. taken k (with_out r (cell_at cells q i) k a)) (λ y. inr (still k y)) x);
    complete = λ k x. ⊎_elim (λ a. inl (with_old r (cell_at cells q i) k a)) (λ y. later k y (yes_or_no (eqb y.timer i))) (s.complete k x);
  }
    where
      among : {v u : ℕ} (k : ℕ) → (y : NumberOf cells q v k) → member u y.timer ≡ true → NumberOf cells q u k
      among k y a = record { timer = y.timer; below = y.below; present = a; cell_is = y.cell_is; small = y.small }

      taken : (k : ℕ) → (member r k ≡ true) ⊎ ((cell_at cells q i ≡ k) × (k < 64)) → (member r k ≡ true) ⊎ NumberOf cells q left k
      taken k (inl a) = inl a
      taken k (inr p) = inr (record { timer = i; below = h; present = m; cell_is = p.0; small = p.1 })

      still : (k : ℕ) → NumberOf cells q (removed left i) k → NumberOf cells q left k
      still k y = among k y (and_left _ _ (sym (member_removed left i y.timer) ∙ y.present))

      later : (k : ℕ) → (y : NumberOf cells q left k) → (eqb y.timer i ≡ true) ⊎ (eqb y.timer i ≡ false)
          → (member (with_number r (cell_at cells q i)) k ≡ true) ⊎ NumberOf cells q (removed left i) k
      later k y (inl e) =
          let same : cell_at cells q i ≡ k = ap (cell_at cells q) (sym (same_number e)) ∙ y.cell_is in
          inl (rw same (with_new r k y.small))
      later k y (inr e) = inr (among k y (member_removed left i y.timer ∙ and_both y.present (ap not e)))

-- ---- of a chart's transitions

-- the sets that the first i transitions of the rewritten chart start
abbrev pub starts_to : Chart → Numbering → ℕ → List ℕ
starts_to c N i = map (λ (r : Transition). starts_set (new_transition N r)) (take i c.transitions)

pub starts_all : (c : Chart) (N : Numbering) {i : ℕ} → i ≡ length c.transitions → starts_to c N i ≡ (lists_of (rewritten_by N c)).starts
unfolding lists_of rewritten_by
starts_all c N e = rw (e, take-length, map-map)

module _ {W : ℕ} {c : Chart} (valid : Valid W c) {N : Numbering} {cells : List ℕ} (cs : CellsOf c N cells) where
  -- each location has its row of cells
  pub row_room : (q : ℕ) → q < c.locations → 64 * q + 64 ≤ length cells
  row_room q h = omega (arith, begins_room cs.cells_are, cells_length N c.locations)

  -- a cell is the number of its pair
  pub cell_number : (q j : ℕ) → q < c.locations → j < 64 → cell_at cells q j ≡ cell (N.number q j)
  cell_number q j h l =
      begins_get_d cs.cells_are (64 * q + j) 0 (omega (arith, cells_length N c.locations)) ∙ cells_at N c.locations q j h l

  pub number_small : (q j k : ℕ) → Has N q j k → k < 64
  number_small q j k e = omega (arith, cs.below q j k e, cs.few)

  module _ {i : ℕ} {r : Transition} (n : Nth c i r) where
    own : ValidTransition W c.locations c.timers r
    own = nth_valid valid n

    renamed_starts : {v : ℕ} → RenamedTo cells r.target (starts_set r) 0 v → v ≡ starts_set (new_transition N r)
    unfolding starts_set new_transition
    renamed_starts {v} s = member_ext 64 v (starts_set (new_transition N r)) s.word
        (set_of_lt 64 (new_starts N r) (λ k m. omega (arith, starts_below N r k m, cs.few)))
        (λ k h. same_bool _ _
        (λ m. member_starts (new_transition N r) k ∙ there k (s.sound k (inl m)))
        (λ m. ⊎_elim (λ a. a) (λ x. absurd (none k x)) (s.complete k (back k (sym (member_starts (new_transition N r) k) ∙ m)))))
      where
        none : (k : ℕ) → NumberOf cells r.target 0 k → ⊥
        none k x = not_both x.present (member_empty x.timer)

        there : (k : ℕ) → NumberOf cells r.target (starts_set r) k → memb k (new_starts N r) ≡ true
        there k x =
            let e : Has N r.target x.timer k =
            cell_some _ k (omega (arith, x.small)) (sym (cell_number r.target x.timer own.target x.below) ∙ x.cell_is) in
            starts_in N r x.timer k (sym (member_starts r x.timer) ∙ x.present) e (cs.below r.target x.timer k e)

        back : (k : ℕ) → memb k (new_starts N r) ≡ true → NumberOf cells r.target (starts_set r) k
        back k m =
            let x = starts_out N r k m in
            let b : x.0 < 64 = omega (arith, valid.few_timers, (rising_below c.timers 0 r.starts own.starts x.0 x.1).1) in
            record {
              timer = x.0;
              below = b;
              present = member_starts r x.0 ∙ x.1;
              cell_is = cell_number r.target x.0 own.target b ∙ ap cell x.2;
              small = number_small r.target x.0 k x.2;
            }

    -- the next transition's set is stored behind the others
    pub starts_more : (l : List ℕ) {out : List ℕ} {v : ℕ} → i < length l → out ≡ put (starts_to c N i) l
        → RenamedTo cells r.target (starts_set r) 0 v → set out i v ≡ put (starts_to c N (i + 1)) l
    starts_more l {out} h o s =
        let below = below_nth c.transitions i n.there in
        rw (renamed_starts s, take_next n)
        (put_next (λ (s : Transition). starts_set (new_transition N s)) (take i c.transitions) r l h
        (length-take-le i c.transitions (omega arith)) o)
