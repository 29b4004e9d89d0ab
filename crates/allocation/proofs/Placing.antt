-- The families in turn: the cells have the numbers of those placed so far, and the numbers in the rows of the next one's locations are those held by
-- the families that it meets. What is hard: no two families have a common pair, so that a cell shows one number.
use mathlib.Core.Path.{◌≡◌, refl, sym, ap, ap₂, ◌∙◌, subst}
use mathlib.Core.Bool.{Bool, true, false, not, ◌&&◌}
use mathlib.Core.Option.{Option, none, some, none-ne-some, some-injective}
use mathlib.Core.List.{List, [], ◌∷◌, ◌++◌, append-nil}
use Prim.Native.Nat.{ℕ, zero, suc, ◌+◌, ◌*◌, ◌/◌, ◌%◌, ◌≤◌, ◌<◌, max}
use native.Mathlib.Numerals.{add-one}
use native.Mathlib.Omega.{arith}
use lib.Dec.{eqb}
use lib.ListN.{length, get_or, get_elem?, length-append}
use borrow.Author.Tests.{eq-eqb}
use Rattle.lists.specs.Lists.{memb, gather, lowest, top}
use Rattle.lists.proofs.Bools.{same_bool, same_number, not_both, is_no, and_left, and_right, and_both}
use Rattle.lists.proofs.Membership.{any_memb_in, any_memb_out}
use Rattle.lists.proofs.Lowest.{lowest_is}
use Rattle.model.specs.Floor.{most_searched}
use Rattle.model.specs.Family.{Pairs, is_pair, Joined, Family, family_of, family_from, meets, WellFormed}
use Rattle.model.specs.FirstFit.{Placed, held, free, place, used_by, number_at}
use Rattle.model.specs.Rewrite.{numbering}
use Rattle.model.proofs.Joined.{joined_sym, joined_trans, joined_pair}
use Rattle.model.proofs.Families.{family_timer, family_has, family_same}
use Rattle.model.proofs.FirstFit.{free_not_held, free_least, held_in, held_out}
use Rattle.model.proofs.NumberAt.{has, has_timer, has_location, has_pair, number_out}
use Rattle.allocation.specs.Cells.{cell, cells_of, no_number, most_cells}
use Rattle.allocation.specs.Rows.{in_family, in_row, taken, changed, given, marked}
use Rattle.allocation.specs.Turns.{is_root, families_to, NumberedTo, placed_below}
use Rattle.allocation.proofs.Below.{below_in, below_out, some_in_lem, some_out}
use Rattle.timer_set.specs.Members.{member}
use Rattle.allocation.proofs.FamiliesAt.{at_none, at_more}
use Rattle.allocation.proofs.CellList.{cells_at, cells_is, cells_none, cell_some, used_more, free_used, place_append}

pub numbered_none : (p : Pairs) (cells at : List ℕ) → length cells ≡ 64 * p.locations
    → ((x : ℕ) → x < 64 * p.locations → get_or cells x 0 ≡ no_number) → ((s : ℕ) → get_or at s 0 ≡ 0) → NumberedTo p 0 cells at 0 0
unfolding families_to gather place used_by top
numbered_none p cells at long clear empty = record {
  cells_are = cells_none p.locations cells long clear;
  used_is = refl;
  count_is = refl;
  at_are = at_none empty;
}

module _ {p : Pairs} (formed : WellFormed p) where
  -- the families of the pairs below x, placed
  abbrev placed_to : ℕ → List Placed
  placed_to x = placed_below p x

  abbrev family_on : ℕ → Family
  family_on x = family_of p (x / 64) (x % 64)

  abbrev next : ℕ → Placed
  next x = record { family = family_on x; number = free (held (family_on x) (placed_to x)) }

  pub root_pair : (x : ℕ) → is_root p x ≡ true → (is_pair p (x / 64) (x % 64) ≡ true) × ((family_on x).first ≡ x / 64)
  unfolding is_root
  root_pair x e = (and_left (is_pair p (x / 64) (x % 64)) _ e, same_number (and_right (is_pair p (x / 64) (x % 64)) _ e))

  family_yes : (x : ℕ) → is_root p x ≡ true → family_from p (x / 64) (x % 64) ≡ family_on x ∷ []
  unfolding family_from
  family_yes x e = let b = root_pair x e in rw (b.0, family_from) (rw (eq-eqb _ (x / 64) b.1) refl)

  family_no : (x : ℕ) → is_root p x ≡ false → family_from p (x / 64) (x % 64) ≡ []
  unfolding family_from is_root
  family_no x e = go (is_pair p (x / 64) (x % 64)) refl
    where
      go : (b : Bool) → is_pair p (x / 64) (x % 64) ≡ b
          → ◌≡◌ {A = List Family} (elim b [ false ↦ [] | true ↦ elim (eqb (family_on x).first (x / 64)) [ true ↦ family_on x ∷ [] | false ↦ [] ] ]) []
      go true b = rw (is_no (eqb (family_on x).first (x / 64)) (λ h. not_both (and_both b h) e)) refl
      go false b = refl

  families_yes : (x : ℕ) → is_root p x ≡ true → families_to p (suc x) ≡ families_to p x ++ (family_on x ∷ [])
  unfolding families_to gather
  families_yes x e = ap (λ (l : List Family). families_to p x ++ l) (family_yes x e)

  families_no : (x : ℕ) → is_root p x ≡ false → families_to p (suc x) ≡ families_to p x
  unfolding families_to gather
  families_no x e = ap (λ (l : List Family). families_to p x ++ l) (family_no x e) ∙ append-nil (families_to p x)

  -- at most one at each pair
  pub families_few : (x : ℕ) → length (families_to p x) ≤ x
  families_few zero = unfold families_to gather in omega arith
  families_few (suc x) = go (is_root p x) refl (families_few x)
    where
      go : (b : Bool) → is_root p x ≡ b → length (families_to p x) ≤ x → length (families_to p (suc x)) ≤ suc x
      go true e h = rw (families_yes x e, length-append) (omega arith)
      go false e h = rw (families_no x e) (omega arith)

  step_yes : (x : ℕ) → is_root p x ≡ true → placed_to (suc x) ≡ next x ∷ placed_to x
  unfolding place
  step_yes x e = ap (λ (fs : List Family). place fs []) (families_yes x e) ∙ place_append (families_to p x) (family_on x ∷ []) []

  step_no : (x : ℕ) → is_root p x ≡ false → placed_to (suc x) ≡ placed_to x
  step_no x e = ap (λ (fs : List Family). place fs []) (families_no x e)

  -- what every step keeps, all of them keep
  steps : (P : ℕ → List Placed → Type 0) → P 0 (placed_to 0) → ((x : ℕ) → is_root p x ≡ true → P x (placed_to x) → P (suc x) (next x ∷ placed_to x))
      → ((x : ℕ) → P x (placed_to x) → P (suc x) (placed_to x))
      → (x : ℕ) → P x (placed_to x)
  steps P start yes' no' zero = start
  steps P start yes' no' (suc x) = go (is_root p x) refl (steps P start yes' no' x)
    where
      go : (b : Bool) → is_root p x ≡ b → P x (placed_to x) → P (suc x) (placed_to (suc x))
      go true e h = rw (step_yes x e) (yes' x e h)
      go false e h = rw (step_no x e) (no' x h)

  used_few : (x : ℕ) → used_by (placed_to x) ≤ x
  used_few = steps (λ x ps. used_by ps ≤ x) base (λ x e h. more x h) (λ x h. omega arith)
    where
      base : used_by (placed_to 0) ≤ 0
      base = unfold families_to gather place used_by top in omega arith

      more : (x : ℕ) → used_by (placed_to x) ≤ x → used_by (next x ∷ placed_to x) ≤ suc x
      more x h = rw used_more (omega (arith, free_used (family_on x) (placed_to x)))

  -- ---- each pair of a placed family shows its number

  -- a family placed below x
  record Earlier (x : ℕ) (ps : List Placed) (g : Placed) : Type 0 where
    pub number : ℕ
    pub below : number < x
    pub root : is_root p number ≡ true
    pub family : g.family ≡ family_on number
    pub shown : (s : ℕ) → memb s g.family.locations ≡ true → number_at ps s g.family.timer ≡ some g.number

  abbrev AllEarlier : ℕ → List Placed → Type 0
  AllEarlier x ps = (i : ℕ) (g : Placed) → get_elem? ps i ≡ some g → Earlier x ps g

  -- the locations of a family that begins at x are joined to its first
  locations_joined : (x : ℕ) → is_root p x ≡ true → (s : ℕ) → memb s (family_on x).locations ≡ true → Joined p (x % 64) (x / 64) s
  locations_joined x e s m = (family_has formed (x / 64) (x % 64) (root_pair x e).0 s).0 m

  -- families that begin at different pairs have no common pair
  apart : (x y : ℕ) → is_root p x ≡ true → is_root p y ≡ true → x % 64 ≡ y % 64 → (s : ℕ) → memb s (family_on x).locations ≡ true
      → memb s (family_on y).locations ≡ true → x / 64 ≡ y / 64
  apart x y bx by t s mx my =
      let a = locations_joined x bx s mx in
      let b : Joined p (x % 64) (y / 64) s = subst (λ (j : ℕ). Joined p j (y / 64) s) (sym t) (locations_joined y by s my) in
      let same = family_same formed (root_pair x bx).0 (joined_trans a (joined_sym b)) in
      sym (root_pair x bx).1 ∙ ap (λ (f : Family). f.first) (same ∙ ap (family_of p (y / 64)) t) ∙ (root_pair y by).1

  -- no earlier family has a pair of the next one
  earlier_apart : (x : ℕ) → is_root p x ≡ true → {ps : List Placed} {g : Placed} → Earlier x ps g → (s : ℕ) → memb s g.family.locations ≡ true
      → has (family_on x) s g.family.timer ≡ false
  earlier_apart x e {ps} {g} y s m = is_no _ (λ h.
      let t : x % 64 ≡ y.number % 64 =
      sym (family_timer p (x / 64) (x % 64)) ∙ has_timer (family_on x) s g.family.timer h ∙ ap (λ (f : Family). f.timer) y.family
      ∙ family_timer p (y.number / 64) (y.number % 64) in
      let d = apart x y.number e y.root t s (has_location (family_on x) s g.family.timer h)
      (ap (λ (f : Family). memb s f.locations) (sym y.family) ∙ m) in
      omega (arith, y.below))

  all_earlier : (x : ℕ) → AllEarlier x (placed_to x)
  unfolding number_at families_to gather place
  all_earlier = steps AllEarlier (λ i g e. absurd (none-ne-some _ e)) more (λ x h i g e. later x (h i g e))
    where
      later : (x : ℕ) {ps : List Placed} {g : Placed} → Earlier x ps g → Earlier (suc x) ps g
      later x y = record { number = y.number; below = omega (arith, y.below); root = y.root; family = y.family; shown = y.shown }

      more : (x : ℕ) → is_root p x ≡ true → AllEarlier x (placed_to x) → AllEarlier (suc x) (next x ∷ placed_to x)
      more x b h zero g e = let same : next x ≡ g = some-injective _ _ e in record {
        number = x;
        below = omega arith;
        root = b;
        family = ap (λ (p : Placed). p.family) (sym same);
        shown = λ s m.
            rw (ap (λ (p : Placed). has p.family s g.family.timer) same ∙ has_pair g.family s g.family.timer refl m, number_at)
            (ap (λ (p : Placed). some p.number) same);
      }
      more x b h (suc i) g e = let y = h i g e in record {
        number = y.number;
        below = omega (arith, y.below);
        root = y.root;
        family = y.family;
        shown = λ s m. rw (earlier_apart x b y s m, number_at) (y.shown s m);
      }

  -- a pair of a family that begins at or above x has no number yet
  pub not_yet : (x y : ℕ) → x ≤ y → is_root p y ≡ true → (s : ℕ) → memb s (family_on y).locations ≡ true → number_at (placed_to x) s (y % 64) ≡ none
  not_yet x y h e s m = go (number_at (placed_to x) s (y % 64)) refl
    where
      go : (o : Option ℕ) → number_at (placed_to x) s (y % 64) ≡ o → o ≡ none
      go none _ = refl
      go (some k) q =
          let n = number_out s (y % 64) (placed_to x) k q in
          let z = all_earlier x n.place n.placed n.is_nth in
          let t : z.number % 64 ≡ y % 64 =
          sym (family_timer p (z.number / 64) (z.number % 64)) ∙ ap (λ (f : Family). f.timer) (sym z.family)
          ∙ has_timer n.placed.family s (y % 64) n.holds in
          let d = apart z.number y z.root e t s
          (ap (λ (f : Family). memb s f.locations) (sym z.family) ∙ has_location n.placed.family s (y % 64) n.holds) m in
          absurd (omega (arith, z.below))

  -- ---- the family that begins at (q, j), and a set at each location that has j where it is of the family

  module _ (q j : ℕ) (small : j < 64) (pair : is_pair p q j ≡ true) (sets : List ℕ) (long : p.locations ≡ length sets)
      (its : (s : ℕ) → in_family sets j s ≡ memb s (family_of p q j).locations) where
    abbrev family : Family
    family = family_of p q j

    inside : (s : ℕ) → memb s family.locations ≡ true → s < p.locations
    inside s m = formed.location s j (joined_pair formed ((family_has formed q j pair s).0 m) pair)

    -- the numbers in the rows of its locations are those held by the families that it meets
    module _ (ps : List Placed) (x : ℕ) (earlier : AllEarlier x ps) (cells : List ℕ) (are : cells ≡ cells_of (numbering ps) p.locations) (k : ℕ)
        (few : k < no_number) where
      taken_held : taken sets cells j k ≡ memb k (held family ps)
      unfolding taken in_row meets numbering
      taken_held = same_bool _ _ there back
        where
          there : taken sets cells j k ≡ true → memb k (held family ps) ≡ true
          there h =
              let s = some_out sets j _ (length sets) h in
              let i = below_out _ 64 s.3 in
              let at = sym (cells_at (numbering ps) p.locations s.0 i.0 (omega (arith, s.1, long)) i.1)
              ∙ ap (λ (l : List ℕ). get_or l (64 * s.0 + i.0) 0) (sym are) ∙ same_number i.2 in
              let n = number_out s.0 i.0 ps k (cell_some _ k few at) in
              subst (λ (y : ℕ). memb y (held family ps) ≡ true) n.number
              (held_in family ps n.place n.placed n.is_nth
              (any_memb_in (λ y. memb y n.placed.family.locations) s.0 family.locations (sym (its s.0) ∙ s.2)
              (has_location n.placed.family s.0 i.0 n.holds)))

          back : memb k (held family ps) ≡ true → taken sets cells j k ≡ true
          back m =
              let b = held_out family k ps m in
              let g = b.holder in
              let s = any_memb_out (λ y. memb y g.family.locations) family.locations b.met in
              let h = inside s.0 s.1 in
              let y = earlier b.place g b.is_nth in
              let t : g.family.timer < 64 =
              rw (ap (λ (f : Family). f.timer) y.family ∙ family_timer p (y.number / 64) (y.number % 64)) (omega arith) in
              let e : get_or cells (64 * s.0 + g.family.timer) 0 ≡ k =
              ap (λ (l : List ℕ). get_or l (64 * s.0 + g.family.timer) 0) are
              ∙ cells_at (numbering ps) p.locations s.0 g.family.timer h t ∙ ap cell (y.shown s.0 s.2) ∙ b.number in
              some_in_lem sets j _ (length sets) s.0 (omega (arith, h, long)) (its s.0 ∙ s.1) (below_in _ 64 g.family.timer t (eq-eqb _ k e))

    -- ---- a turn of the loop

    abbrev x : ℕ
    x = 64 * q + j

    on : family_on x ≡ family
    on = let d : x / 64 ≡ q = omega arith in let r : x % 64 ≡ j = omega arith in rw (d, r) refl

    module _ (cells at : List ℕ) (used count : ℕ) (so : NumberedTo p x cells at used count) (few : x ≤ most_cells) where
      number_is : lowest (λ k. not (taken sets cells j k)) most_cells ≡ (next x).number
      number_is =
          let l = held family (placed_to x) in
          let b : free l ≤ most_cells = omega (arith, free_used family (placed_to x), used_few x) in
          lowest_is _ most_cells (free l) b (λ h. ap not (same (free l) (omega arith) ∙ free_not_held l))
          (λ k h. ap not (same k (omega arith) ∙ free_least l k h))
          ∙ ap (λ (f : Family). free (held f (placed_to x))) (sym on)
        where
          same : (k : ℕ) → k < no_number → taken sets cells j k ≡ memb k (held family (placed_to x))
          same k h = taken_held (placed_to x) x (all_earlier x) cells so.cells_are k h

      module _ (number : ℕ) (is : number ≡ lowest (λ k. not (taken sets cells j k)) most_cells) (after : List ℕ)
          (wide : length after ≡ 64 * p.locations)
          (gave : (s i : ℕ) → s < length sets → i < 64 → get_or after (64 * s + i) 0 ≡ given sets j number cells s i) where
        given_cells : after ≡ cells_of (numbering (next x ∷ placed_to x)) p.locations
        unfolding given changed numbering number_at
        given_cells =
            cells_is (numbering (next x ∷ placed_to x)) p.locations after wide (λ s i h k. gave s i (omega (arith, h, long)) k ∙ one s i h k)
          where
            pick_cell : (b : Bool) (s i : ℕ) → s < p.locations → i < 64
                → elim b [ true ↦ number | false ↦ get_or cells (64 * s + i) 0 ]
                ≡ cell (elim b [ true ↦ some (next x).number | false ↦ number_at (placed_to x) s i ])
            pick_cell true s i h k = is ∙ number_is
            pick_cell false s i h k = ap (λ (l : List ℕ). get_or l (64 * s + i) 0) so.cells_are
                ∙ cells_at (numbering (placed_to x)) p.locations s i h k

            has_here : (s i : ℕ) → (eqb j i && in_family sets j s) ≡ has (family_on x) s i
            has_here s i = ap₂ (λ (t : ℕ) (b : Bool). eqb t i && b) (sym (family_timer p q j)) (its s) ∙ ap (λ (f : Family). has f s i) (sym on)

            one : (s i : ℕ) → s < p.locations → i < 64
                → elim (eqb j i && in_family sets j s) [ true ↦ number | false ↦ get_or cells (64 * s + i) 0 ]
                ≡ cell (number_at (next x ∷ placed_to x) s i)
            one s i h k =
                pick_cell (eqb j i && in_family sets j s) s i h k
                ∙ ap (λ (b : Bool). cell (elim b [ true ↦ some (next x).number | false ↦ number_at (placed_to x) s i ])) (has_here s i)

        pub numbered_yes : is_root p x ≡ true → length at ≡ length sets → (words : List ℕ) → length words ≡ length sets
            → ((s i : ℕ) → s < length sets → i < most_searched → member (get_or words s 0) i ≡ marked sets j count at s i)
            → NumberedTo p (x + 1) after words (max used (number + 1)) (count + 1)
        numbered_yes e at_long words words_long marks = rw add-one (record {
          cells_are = rw (step_yes x e) given_cells;
          used_is = rw (step_yes x e, used_more) (omega (arith, so.used_is, is ∙ number_is));
          count_is = rw (families_yes x e, length-append) (omega (arith, so.count_is));
          at_are = rw (families_yes x e, on) (at_more so.at_are sets at_long family j its so.count_is words words_long marks);
        })

  pub numbered_no : (x : ℕ) (cells at : List ℕ) (used count : ℕ) → NumberedTo p x cells at used count → is_root p x ≡ false
      → NumberedTo p (x + 1) cells at used count
  numbered_no x cells at used count so e = rw add-one (record {
    cells_are = rw (step_no x e) so.cells_are;
    used_is = rw (step_no x e) so.used_is;
    count_is = rw (families_no x e) so.count_is;
    at_are = rw (families_no x e) so.at_are;
  })
