-- The locations in turn: the timers whose families begin at one, how these propagate, and the pairs that are placed then. What is hard: the timers
-- that begin at a location are its live timers that no earlier family has.
use mathlib.Core.Path.{◌≡◌, sym, ap, ◌∙◌, subst}
use mathlib.Core.Logic.{◌⊎◌, inl, inr}
use mathlib.Core.Bool.{true, false, not, ◌&&◌, ◌||◌}
use mathlib.Core.List.{List}
use Prim.Native.Nat.{ℕ, zero, suc, ◌+◌, ◌*◌, ◌/◌, ◌%◌, ◌≤◌, ◌<◌}
use native.Mathlib.Decide.{ℕ_discrete}
use native.Mathlib.Omega.{arith}
use lib.ListN.{length, get_or, get_or-eq_default}
use borrow.Author.Tests.{eq-eqb}
use Rattle.lists.specs.Lists.{memb}
use Rattle.lists.proofs.Bools.{same_bool, not_both, is_no, or_cases, or_left, or_right, and_left, and_right, and_both, not-true, lt_or_le}
use Rattle.timer_set.specs.Members.{member, joined, minus}
use Rattle.timer_set.proofs.Members.{member_empty, member_joined, member_minus}
use Rattle.model.specs.Family.{Pairs, is_pair, Joined, Family, family_of, WellFormed}
use Rattle.model.proofs.Joined.{joined_refl, joined_sym, joined_pair}
use Rattle.model.proofs.Families.{family_has, first_least, first_joined, family_same}
use Rattle.model.specs.Rewrite.{numbering}
use Rattle.families.specs.declared.links.Link.{Link}
use Rattle.families.specs.Propagation.{Propagated, EmptyFrom}
use Rattle.allocation.specs.Cells.{cell}
use Rattle.allocation.specs.Rows.{in_family, Lengths, WordsAgree, Within, Unnumbered, Ready}
use Rattle.allocation.specs.Turns.{is_root, NumberedTo, Roots, Described, PlacedTo}
use Rattle.allocation.proofs.CellList.{cells_at}
use Rattle.allocation.proofs.Placing.{numbered_no, not_yet}
use Rattle.allocation.proofs.InTurn.{root_at}

pub placed_none : {p : Pairs} {placed : List ℕ} → ((s : ℕ) → get_or placed s 0 ≡ 0) → PlacedTo p 0 placed
placed_none e = record {
  has = λ s j h l. absurd (omega arith);
  only = λ s j m. absurd (not_both m (ap (λ (w : ℕ). member w j) (e s) ∙ member_empty j));
}

module _ {p : Pairs} {live : List ℕ} {links : List Link} (d : Described p live links) (q : ℕ) (here : q < length live) {placed : List ℕ}
    (so : PlacedTo p q placed) (roots : ℕ) (is : roots ≡ minus (get_or live q 0) (get_or placed q 0)) where
  formed : WellFormed p
  formed = d.formed

  member_roots : (j : ℕ) → member roots j ≡ (is_pair p q j && not (member (get_or placed q 0) j))
  unfolding is_pair
  member_roots j = ap (λ (w : ℕ). member w j) is ∙ member_minus (get_or live q 0) (get_or placed q 0) j
      ∙ ap (λ (l : List ℕ). member (get_or l q 0) j && not (member (get_or placed q 0) j)) (sym d.sets_are)

  -- the timers that begin are those whose lowest location is q
  root_first : (j : ℕ) → member roots j ≡ true → (is_pair p q j ≡ true) × ((family_of p q j).first ≡ q)
  root_first j m =
      let both = sym (member_roots j) ∙ m in
      let pair = and_left (is_pair p q j) _ both in
      let low : (family_of p q j).first ≤ q = first_least formed q j pair q (joined_refl q) in
      (pair, go pair low (not-true _ (and_right (is_pair p q j) _ both)) (lt_or_le (family_of p q j).first q))
    where
      go : is_pair p q j ≡ true → (family_of p q j).first ≤ q → member (get_or placed q 0) j ≡ false
          → ((family_of p q j).first < q) ⊎ (q ≤ (family_of p q j).first)
          → (family_of p q j).first ≡ q
      go pair low out (inl l) = absurd (not_both (so.has q j pair l) out)
      go pair low out (inr l) = omega arith

  first_root : (j : ℕ) → is_pair p q j ≡ true → (family_of p q j).first ≡ q → member roots j ≡ true
  first_root j pair e = member_roots j ∙ and_both pair (ap not (is_no _ (λ m. omega (arith, e, (so.only q j m).1))))

  root_few : (j : ℕ) → member roots j ≡ true → j < 64
  root_few j m = omega (arith, formed.timer q j (root_first j m).0, formed.few_timers)

  root_here : (j : ℕ) → j < 64 → is_pair p q j ≡ true → (family_of p q j).first ≡ q → is_root p (64 * q + j) ≡ true
  unfolding is_root
  root_here j h pair e =
      let d : (64 * q + j) / 64 ≡ q = omega arith in
      let r : (64 * q + j) % 64 ≡ j = omega arith in
      rw (d, r) (and_both pair (eq-eqb _ q e))

  root_same : (j : ℕ) → j < 64 → member roots j ≡ is_root p (64 * q + j)
  root_same j h = same_bool _ _
      (λ m. let b = root_first j m in root_here j h b.0 b.1)
      (λ e. let b = root_at formed q j h e in first_root j b.0 b.1)

  -- the pairs of the families that begin here
  first_here : (s j : ℕ) → is_pair p s j ≡ true → (family_of p s j).first ≡ q → (member roots j ≡ true) × Joined p j q s
  first_here s j pair e =
      let way : Joined p j s q = subst (λ (x : ℕ). Joined p j s x) e (first_joined formed s j pair) in
      (first_root j (joined_pair formed way pair) (ap (λ (f : Family). f.first) (sym (family_same formed pair way)) ∙ e), joined_sym way)

  -- ---- none begins

  module _ (empty : roots ≡ 0) where
    no_root : (j : ℕ) → member roots j ≡ false
    no_root j = ap (λ (w : ℕ). member w j) empty ∙ member_empty j

    pub numbered_skip : (cells at : List ℕ) (used count : ℕ) → NumberedTo p (64 * q) cells at used count
        → NumberedTo p (64 * (q + 1)) cells at used count
    numbered_skip cells at used count n = subst To (omega arith) (go 64 (omega arith))
      where
        To : ℕ → Type 0
        To x = NumberedTo p x cells at used count

        go : (i : ℕ) → i ≤ 64 → To (64 * q + i)
        go zero h = subst To (omega arith) n
        go (suc i) h = subst To (omega arith)
            (numbered_no formed (64 * q + i) cells at used count (go i (omega arith)) (sym (root_same i (omega arith)) ∙ no_root i))

    pub placed_skip : PlacedTo p (q + 1) placed
    placed_skip = record {
      has = λ s j pair l. go s j pair l (ℕ_discrete (family_of p s j).first q);
      only = λ s j m. let x = so.only s j m in (x.0, omega (arith, x.1));
    }
      where
        go : (s j : ℕ) → is_pair p s j ≡ true → (family_of p s j).first < q + 1 → Dec ((family_of p s j).first ≡ q)
            → member (get_or placed s 0) j ≡ true
        go s j pair l (no n) = so.has s j pair (omega arith)
        go s j pair l (yes e) = absurd (not_both (first_here s j pair e).0 (no_root j))

  -- ---- those that begin have propagated

  module _ (sets : List ℕ) (long : length sets ≡ length live) (found : Propagated p q roots sets) where
    pub roots_here : Roots p q roots sets
    roots_here = record {
      formed = formed;
      locations_are = d.locations_are ∙ sym long;
      here = omega (arith, d.locations_are);
      timers = root_same;
      families = λ j s m. let pair = (root_first j m).0 in same_bool _ _
          (λ t. (family_has formed q j pair s).1 (found.from s j t).1)
          (λ t. found.has s j m ((family_has formed q j pair s).0 t));
    }

    root_within : (end : ℕ) → end ≤ length sets → ((s : ℕ) → end ≤ s → get_or sets s 0 ≡ 0) → (j : ℕ) → member roots j ≡ true → Within sets j q end
    root_within end inside rest j m = record {
      low = λ s t. let b = root_first j m in omega (arith, b.1, first_least formed q j b.0 s (found.from s j t).1);
      high = high;
      ordered = let l = high q (found.has q j m (joined_refl q)) in omega arith;
      inside = inside;
    }
      where
        high : (s : ℕ) → in_family sets j s ≡ true → s < end
        high s t = go (lt_or_le s end)
          where
            go : (s < end) ⊎ (end ≤ s) → s < end
            go (inl l) = l
            go (inr l) = absurd (not_both t (ap (λ (w : ℕ). member w j) (rest s l) ∙ member_empty j))

    root_unnumbered : {cells at : List ℕ} {used count : ℕ} → NumberedTo p (64 * q) cells at used count → (j : ℕ) → member roots j ≡ true
        → Unnumbered sets j cells
    unfolding Unnumbered numbering
    root_unnumbered n j m s h t =
        let few = root_few j m in
        let b = root_first j m in
        let r : (64 * q + j) % 64 ≡ j = omega arith in
        let v : (64 * q + j) / 64 ≡ q = omega arith in
        let in_it : memb s (family_of p q j).locations ≡ true = (family_has formed q j b.0 s).1 (found.from s j t).1 in
        ap (λ (l : List ℕ). get_or l (64 * s + j) 0) n.cells_are ∙ cells_at _ p.locations s j (omega (arith, d.locations_are)) few
        ∙ ap cell (rw r at (not_yet formed (64 * q) (64 * q + j) (omega arith) (root_here j few b.0 b.1) s (rw (v, r) in_it)))

    pub roots_ready : (cells held : List ℕ) (end : ℕ) {at : List ℕ} {used count : ℕ} → NumberedTo p (64 * q) cells at used count
        → Lengths sets cells held → WordsAgree cells held (length sets) → EmptyFrom end sets → Ready sets roots q end cells held
    roots_ready cells held end n lengths words_agree e =
        let within = root_within end e.inside e.empty in
        record { lengths = lengths; words_agree = words_agree; within = within; unnumbered = root_unnumbered n }

    pub placed_more : (after : List ℕ) → length after ≡ length live
        → ((s : ℕ) → s < length sets → get_or after s 0 ≡ joined (get_or placed s 0) (get_or sets s 0)) → PlacedTo p (q + 1) after
    placed_more after wide both = record {
      has = λ s j pair l. let h = formed.location s j pair in
          member_after s j (omega (arith, d.locations_are)) ∙ now s j pair l (ℕ_discrete (family_of p s j).first q);
      only = λ s j m. let h = inside s j m in old s j (or_cases (member (get_or placed s 0) j) (sym (member_after s j (omega (arith, h))) ∙ m));
    }
      where
        member_after : (s j : ℕ) → s < length sets → member (get_or after s 0) j ≡ (member (get_or placed s 0) j || member (get_or sets s 0) j)
        member_after s j h = ap (λ (w : ℕ). member w j) (both s h) ∙ member_joined (get_or placed s 0) (get_or sets s 0) j

        now : (s j : ℕ) → is_pair p s j ≡ true → (family_of p s j).first < q + 1 → Dec ((family_of p s j).first ≡ q)
            → (member (get_or placed s 0) j || member (get_or sets s 0) j) ≡ true
        now s j pair l (yes e) = let x = first_here s j pair e in or_right (member (get_or placed s 0) j) (found.has s j x.0 x.1)
        now s j pair l (no n) = or_left (member (get_or sets s 0) j) (so.has s j pair (omega arith))

        inside : (s j : ℕ) → member (get_or after s 0) j ≡ true → s < length live
        inside s j m = go (lt_or_le s (length live))
          where
            go : (s < length live) ⊎ (length live ≤ s) → s < length live
            go (inl l) = l
            go (inr l) = absurd (not_both m (ap (λ (w : ℕ). member w j) (get_or-eq_default after 0 {n = s} (omega arith)) ∙ member_empty j))

        old : (s j : ℕ) → (member (get_or placed s 0) j ≡ true) ⊎ (member (get_or sets s 0) j ≡ true)
            → (is_pair p s j ≡ true) × ((family_of p s j).first < q + 1)
        old s j (inl m) = let x = so.only s j m in (x.0, omega (arith, x.1))
        old s j (inr m) =
            let x = found.from s j m in
            let b = root_first j x.0 in
            let same = ap (λ (f : Family). f.first) (family_same formed b.0 x.1) in
            (joined_pair formed x.1 b.0, omega (arith, same, b.1))
