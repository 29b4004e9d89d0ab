-- Elements by their places, in lists by numbers and in mapped lists; lists related place by place, and which lists these determine; and a list that a
-- loop writes from the front. Hard: that a list by numbers is a mapped one, since the one grows at its end and the other at its front: they are
-- compared place by place.
use mathlib.Core.Path.{◌≡◌, refl, sym, ap, ap₂, subst, subst₂, ◌∙◌}
use mathlib.Core.Option.{none, some, some-injective, none-ne-some}
use mathlib.Core.List.{List, [], ◌∷◌, map}
use Prim.Native.Nat.{ℕ, zero, suc, ◌+◌, ◌≤◌, ◌<◌}
use native.Mathlib.Decide.{ℕ_discrete}
use native.Mathlib.Omega.{arith}
use lib.ListN.{length, get_or, get_elem?, set, length-map}
use lib.Seq.{ext_get_or, get_or-set_same, get_or-set_other}
use Rattle.lists.specs.Lists.{up_to}
use Rattle.lists.specs.Elements.{PlaceByPlace}
use Rattle.lists.proofs.Gather.{length_up_to, get_d_up_to}
use Rattle.lists.proofs.Membership.{nth_map}

module _ {A : Type 0} where
  pub nth_below : (l : List A) (i : ℕ) → i < length l → (a : A) × (get_elem? l i ≡ some a)
  nth_below [] i h = absurd (omega arith)
  nth_below (x ∷ l) zero h = (x, refl)
  nth_below (x ∷ l) (suc i) h = nth_below l i (omega arith)

  pub below_nth : (l : List A) (i : ℕ) {a : A} → get_elem? l i ≡ some a → i < length l
  below_nth [] i e = absurd (none-ne-some _ e)
  below_nth (x ∷ l) zero e = omega arith
  below_nth (x ∷ l) (suc i) e = omega (arith, below_nth l i e)

  pub nth_past : (l : List A) (i : ℕ) → length l ≤ i → get_elem? l i ≡ none
  nth_past [] i h = refl
  nth_past (x ∷ l) zero h = absurd (omega arith)
  nth_past (x ∷ l) (suc i) h = nth_past l i (omega arith)

  pub get_d_nth : (l : List A) (i : ℕ) {a : A} (d : A) → get_elem? l i ≡ some a → get_or l i d ≡ a
  get_d_nth [] i d e = absurd (none-ne-some _ e)
  get_d_nth (x ∷ l) zero d e = some-injective _ _ e
  get_d_nth (x ∷ l) (suc i) d e = get_d_nth l i d e

-- the elements of a list by numbers
module _ {A : Type 0} (f : ℕ → A) (n : ℕ) where
  pub up_to_nth : (i : ℕ) {a : A} → get_elem? (up_to f n) i ≡ some a → (i < n) × (f i ≡ a)
  up_to_nth i {a} e =
      let b : i < n = omega (arith, below_nth (up_to f n) i e, length_up_to f n) in
      (b, sym (get_d_up_to f n i a b) ∙ get_d_nth (up_to f n) i a e)

  pub nth_up_to : (i : ℕ) → i < n → get_elem? (up_to f n) i ≡ some (f i)
  nth_up_to i b =
      let x = nth_below (up_to f n) i (omega (arith, length_up_to f n)) in
      x.1 ∙ ap some (sym (up_to_nth i x.1).1)

module _ {A : Type 0} where
  pub get_d_map : (f : A → ℕ) (l : List A) (i : ℕ) {a : A} → get_elem? l i ≡ some a → get_or (map f l) i 0 ≡ f a
  get_d_map f l i e = get_d_nth (map f l) i 0 (nth_map f l i e)

  -- a function that changes no element changes nothing
  pub map_unchanged : (f : A → A) (l : List A) → ((i : ℕ) (a : A) → get_elem? l i ≡ some a → f a ≡ a) → map f l ≡ l
  map_unchanged f [] h = refl
  map_unchanged f (x ∷ l) h = ap₂ ◌∷◌ (h 0 x refl) (map_unchanged f l (λ i. h (suc i)))

  -- a list by numbers is a mapped list, if each element is what its place gives
  pub up_to_map : {B : Type 0} (d : B) (f : ℕ → B) (g : A → B) (l : List A) (n : ℕ) → n ≡ length l
      → ((i : ℕ) (a : A) → get_elem? l i ≡ some a → f i ≡ g a) → up_to f n ≡ map g l
  up_to_map d f g l n e each = ext_get_or d (up_to f n) (map g l) (length_up_to f n ∙ e ∙ sym (length-map l g)) (λ i h.
      let b : i < n = omega (arith, length_up_to f n) in
      let x = nth_below l i (omega arith) in
      get_d_up_to f n i d b ∙ each i x.0 x.1 ∙ sym (get_d_nth (map g l) i d (nth_map g l i x.1)))

module _ {A B : Type 0} {R : A → B → Type 0} where
  pub place_by_place_cons : {x : A} {y : B} {xs : List A} {ys : List B} → R x y → PlaceByPlace R xs ys → PlaceByPlace R (x ∷ xs) (y ∷ ys)
  place_by_place_cons {x} {y} {xs} {ys} r p = record { same_length = ap suc p.same_length; related = go }
    where
      go : (k : ℕ) (a : A) (b : B) → get_elem? (x ∷ xs) k ≡ some a → get_elem? (y ∷ ys) k ≡ some b → R a b
      go zero a b e f = subst₂ R (some-injective _ _ e) (some-injective _ _ f) r
      go (suc k) a b e f = p.related k a b e f

  -- a list and what each of its elements is mapped to
  pub place_by_place_map : (f : A → B) (l : List A) → ((i : ℕ) (a : A) → get_elem? l i ≡ some a → R a (f a)) → PlaceByPlace R l (map f l)
  place_by_place_map f l h = record {
    same_length = sym (length-map l f);
    related = λ k x y e g. subst (R x) (some-injective _ _ (sym (nth_map f l k e) ∙ g)) (h k x e);
  }

-- lists that have the same elements in the same places are equal
pub place_by_place_equal : {A : Type 0} (xs ys : List A) → PlaceByPlace (λ (x y : A). x ≡ y) xs ys → xs ≡ ys
place_by_place_equal [] [] p = refl
place_by_place_equal [] (y ∷ ys) p = absurd (omega (arith, p.same_length))
place_by_place_equal (x ∷ xs) [] p = absurd (omega (arith, p.same_length))
place_by_place_equal (x ∷ xs) (y ∷ ys) p =
    ap₂ ◌∷◌ (p.related 0 x y refl refl)
    (place_by_place_equal xs ys (record { same_length = omega (arith, p.same_length); related = λ k. p.related (suc k) }))

-- two lists that are related to one list are equal, if the elements of each place are
pub place_by_place_only : {A B : Type 0} {R : A → B → Type 0} (xs : List A) (ys zs : List B) → PlaceByPlace R xs ys → PlaceByPlace R xs zs
    → ((k : ℕ) (x : A) (y z : B) → get_elem? ys k ≡ some y → get_elem? zs k ≡ some z → R x y → R x z → y ≡ z) → ys ≡ zs
place_by_place_only xs ys zs p q h = place_by_place_equal ys zs (record {
  same_length = sym p.same_length ∙ q.same_length;
  related = λ k y z e f.
      let x = nth_below xs k (omega (arith, below_nth ys k e, p.same_length)) in
      h k x.0 y z e f (p.related k x.0 y x.1 e) (q.related k x.0 z x.1 f);
})

-- an entry more
pub filled_more : (f : ℕ → ℕ) (l : List ℕ) (x : ℕ) → x < length l → ((k : ℕ) → k < x → get_or l k 0 ≡ f k)
    → (k : ℕ) → k < x + 1 → get_or (set l x (f x)) k 0 ≡ f k
filled_more f l x h below k lt = go (ℕ_discrete k x)
  where
    go : Dec (k ≡ x) → get_or (set l x (f x)) k 0 ≡ f k
    go (yes e) = rw e (get_or-set_same l x (f x) 0 h)
    go (no ne) = get_or-set_other l x k (f x) 0 ne ∙ below k (omega arith)

-- what holds of the new entry, and of the others before, holds of all
pub set_all : (P : ℕ → ℕ → Type 0) (l : List ℕ) (t v : ℕ) → t < length l → P t v → ((q : ℕ) → P q (get_or l q 0)) → (q : ℕ)
    → P q (get_or (set l t v) q 0)
set_all P l t v h here rest q = go (ℕ_discrete q t)
  where
    go : Dec (q ≡ t) → P q (get_or (set l t v) q 0)
    go (yes e) = rw (e, get_or-set_same l t v 0 h) here
    go (no ne) = rw (get_or-set_other l t q v 0 ne) (rest q)

-- entries of a mapped list, also beyond its end if 0 is mapped to 0
pub get_d_map_all : (f : ℕ → ℕ) → f 0 ≡ 0 → (l : List ℕ) (i : ℕ) → get_or (map f l) i 0 ≡ f (get_or l i 0)
get_d_map_all f e [] i = sym e
get_d_map_all f e (x ∷ l) zero = refl
get_d_map_all f e (x ∷ l) (suc i) = get_d_map_all f e l i
