-- The number of a pair among any placed families: whose it is, that first fit gives two timers of a location two numbers, and that it is below the
-- number of numbers used. Hard: two timers of one location, whose families meet there, so the later one avoids the number of the earlier.
use mathlib.Core.Path.{◌≡◌, refl, sym, ap, ◌∙◌}
use mathlib.Core.Logic.{◌⊎◌, inl, inr}
use mathlib.Core.Bool.{Bool, true, false}
use mathlib.Core.Option.{some, none-ne-some, some-injective}
use mathlib.Core.List.{List, [], ◌∷◌}
use Prim.Native.Nat.{ℕ, zero, suc, ◌<◌}
use lib.Dec.{eqb}
use lib.ListN.{get_elem?}
use borrow.Author.Tests.{eq-eqb}
use Rattle.lists.specs.Lists.{memb}
use Rattle.lists.proofs.Bools.{not_both, and_left, and_right, and_both, same_number}
use Rattle.lists.proofs.Membership.{any_memb_in}
use Rattle.model.specs.Family.{Family, meets}
use Rattle.model.specs.FirstFit.{Placed, held, free, place, used_by, number_at}
use Rattle.model.proofs.FirstFit.{Fitted, free_not_held, held_in, used_above}
pub use Rattle.model.specs.Family.{has}

pub has_timer : (f : Family) (q j : ℕ) → has f q j ≡ true → f.timer ≡ j
has_timer f q j h = same_number (and_left (eqb f.timer j) (memb q f.locations) h)

pub has_location : (f : Family) (q j : ℕ) → has f q j ≡ true → memb q f.locations ≡ true
has_location f q j h = and_right (eqb f.timer j) (memb q f.locations) h

pub has_pair : (f : Family) (q j : ℕ) → f.timer ≡ j → memb q f.locations ≡ true → has f q j ≡ true
has_pair f q j e m = and_both (eq-eqb f.timer j e) m

-- two families of one location meet
pub has_meet : (f g : Family) (q j k : ℕ) → has f q j ≡ true → has g q k ≡ true → meets f g ≡ true
unfolding meets
has_meet f g q j k a b = any_memb_in (λ x. memb x g.locations) q f.locations (has_location f q j a) (has_location g q k b)

-- a family of the list has the pair (q, j), and the number k
pub record NumberedBy (ps : List Placed) (q j k : ℕ) : Type 0 where
  pub place : ℕ
  pub placed : Placed
  pub is_nth : get_elem? ps place ≡ some placed
  pub holds : has placed.family q j ≡ true
  pub number : placed.number ≡ k

module _ (q j : ℕ) where
  pub number_out : (ps : List Placed) (k : ℕ) → number_at ps q j ≡ some k → NumberedBy ps q j k
  unfolding number_at
  number_out [] k e = absurd (none-ne-some _ e)
  number_out (g ∷ ps) k e = go (has g.family q j) refl (number_out ps k)
    where
      more : NumberedBy ps q j k → NumberedBy (g ∷ ps) q j k
      more b = record { place = suc b.place; placed = b.placed; is_nth = b.is_nth; holds = b.holds; number = b.number }

      go : (b : Bool) → has g.family q j ≡ b → (number_at ps q j ≡ some k → NumberedBy ps q j k) → NumberedBy (g ∷ ps) q j k
      go true t ih = record { place = 0; placed = g; is_nth = refl; holds = t; number = some-injective _ _ (rw (t, number_at) at e) }
      go false t ih = more (ih (rw (t, number_at) at e))

  pub number_in : (ps : List Placed) (i : ℕ) (g : Placed) → get_elem? ps i ≡ some g → has g.family q j ≡ true → (k : ℕ) × (number_at ps q j ≡ some k)
  unfolding number_at
  number_in [] i g e h = absurd (none-ne-some _ e)
  number_in (x ∷ ps) zero g e h = (x.number, rw (ap (λ (y : Placed). has y.family q j) (some-injective _ _ e) ∙ h, number_at))
  number_in (x ∷ ps) (suc i) g e h = go (has x.family q j) refl (number_in ps i g e h)
    where
      go : (b : Bool) → has x.family q j ≡ b → (k : ℕ) × (number_at ps q j ≡ some k) → (k : ℕ) × (number_at (x ∷ ps) q j ≡ some k)
      go true t ih = (x.number, rw (t, number_at))
      go false t ih = (ih.0, rw (t, number_at) ih.1)

-- every number given is below the number of numbers used
pub number_below : (ps : List Placed) (q j k : ℕ) → number_at ps q j ≡ some k → k < used_by ps
number_below ps q j k e = let n = number_out q j ps k e in rw n.number at (used_above ps n.place n.placed n.is_nth)

-- pairs that are of the same families have the same number
pub number_same : (ps : List Placed) (q s j : ℕ) → ((i : ℕ) (g : Placed) → get_elem? ps i ≡ some g → has g.family q j ≡ has g.family s j)
    → number_at ps q j ≡ number_at ps s j
unfolding number_at
number_same [] q s j e = refl
number_same (g ∷ ps) q s j e = go (has g.family q j) refl (number_same ps q s j (λ i. e (suc i)))
  where
    go : (b : Bool) → has g.family q j ≡ b → number_at ps q j ≡ number_at ps s j → number_at (g ∷ ps) q j ≡ number_at (g ∷ ps) s j
    go true t ih = rw (t, number_at) (rw (sym (e 0 g refl) ∙ t, number_at) refl)
    go false t ih = rw (t, number_at) (rw (sym (e 0 g refl) ∙ t, number_at) ih)

-- two timers of a location have two numbers
module _ (q j j' k : ℕ) where
  pub number_apart : (ps : List Placed) → Fitted ps → number_at ps q j ≡ some k → number_at ps q j' ≡ some k → j ≡ j'
  unfolding number_at
  number_apart [] a e e' = absurd (none-ne-some _ e)
  number_apart (g ∷ ps) a e e' = go (has g.family q j) refl (has g.family q j') refl (number_apart ps a.1)
    where
      differ : (i m : ℕ) → has g.family q i ≡ true → g.number ≡ k → number_at ps q m ≡ some k → ⊥
      differ i m h s n =
          let y = number_out q m ps k n in
          not_both (held_in g.family ps y.place y.placed y.is_nth (has_meet g.family y.placed.family q i m h y.holds))
          (ap (λ (x : ℕ). memb x (held g.family ps)) (y.number ∙ sym s ∙ a.0) ∙ free_not_held (held g.family ps))

      go : (b : Bool) → has g.family q j ≡ b → (b' : Bool) → has g.family q j' ≡ b'
          → (number_at ps q j ≡ some k → number_at ps q j' ≡ some k → j ≡ j') → j ≡ j'
      go true t true t' ih = sym (has_timer g.family q j t) ∙ has_timer g.family q j' t'
      go true t false t' ih = absurd (differ j j' t (some-injective _ _ (rw (t, number_at) at e)) (rw (t', number_at) at e'))
      go false t true t' ih = absurd (differ j' j t' (some-injective _ _ (rw (t', number_at) at e')) (rw (t, number_at) at e))
      go false t false t' ih = ih (rw (t, number_at) at e) (rw (t', number_at) at e')

-- ---- the families placed are those of the list

pub record PlacedIn (ps : List Placed) (f : Family) : Type 0 where
  pub place : ℕ
  pub placed : Placed
  pub is_nth : get_elem? ps place ≡ some placed
  pub family : placed.family ≡ f

-- f with the number that it is given after ps
abbrev fitting : Family → List Placed → Placed
fitting f ps = record { family = f; number = free (held f ps) }

place_keeps : (fs : List Family) (ps : List Placed) (f : Family) → PlacedIn ps f → PlacedIn (place fs ps) f
unfolding place
place_keeps [] ps f h = h
place_keeps (x ∷ fs) ps f h = place_keeps fs (fitting x ps ∷ ps) f
    (record { place = suc h.place; placed = h.placed; is_nth = h.is_nth; family = h.family })

pub place_in : (fs : List Family) (ps : List Placed) (i : ℕ) (f : Family) → get_elem? fs i ≡ some f → PlacedIn (place fs ps) f
unfolding place
place_in [] ps i f e = absurd (none-ne-some _ e)
place_in (x ∷ fs) ps zero f e = place_keeps fs (fitting x ps ∷ ps) f
    (record { place = 0; placed = fitting x ps; is_nth = refl; family = some-injective _ _ e })
place_in (x ∷ fs) ps (suc i) f e = place_in fs (fitting x ps ∷ ps) i f e

pub place_out : (fs : List Family) (ps : List Placed) (n : ℕ) (g : Placed) → get_elem? (place fs ps) n ≡ some g
    → ((i : ℕ) × (get_elem? fs i ≡ some g.family)) ⊎ ((i : ℕ) × (get_elem? ps i ≡ some g))
unfolding place
place_out [] ps n g e = inr (n, e)
place_out (x ∷ fs) ps n g e = go (place_out fs (fitting x ps ∷ ps) n g e)
  where
    last : (i : ℕ) → get_elem? (fitting x ps ∷ ps) i ≡ some g
        → ((i : ℕ) × (get_elem? (x ∷ fs) i ≡ some g.family)) ⊎ ((i : ℕ) × (get_elem? ps i ≡ some g))
    last zero e = inl (0, ap (λ (y : Placed). some y.family) (some-injective _ _ e))
    last (suc i) e = inr (i, e)

    go : ((i : ℕ) × (get_elem? fs i ≡ some g.family)) ⊎ ((i : ℕ) × (get_elem? (fitting x ps ∷ ps) i ≡ some g))
        → ((i : ℕ) × (get_elem? (x ∷ fs) i ≡ some g.family)) ⊎ ((i : ℕ) × (get_elem? ps i ≡ some g))
    go (inl y) = inl (suc y.0, y.1)
    go (inr y) = last y.0 y.1
