-- The image of a set under a function: its members, and that they are small.
use mathlib.Core.Path.{◌≡◌, refl, sym, ap, ◌∙◌}
use mathlib.Core.Bool.{true}
use mathlib.Core.List.{List, [], ◌∷◌, map}
use Prim.Native.Nat.{ℕ, ◌^◌, ◌<◌}
use lib.Pow.{pow_pos}
use Rattle.lists.specs.Lists.{memb}
use Rattle.lists.proofs.Bools.{not_both, is_no}
use Rattle.lists.proofs.Membership.{memb_head, memb_tail, memb_map_in, memb_map_out}
use Rattle.timer_set.specs.Members.{member, set_of, members, image}
use Rattle.timer_set.proofs.Members.{member_empty, none_empty, member_set_of, set_of_lt, memb_members}

module _ (f : ℕ → ℕ) (w : ℕ) (word : w < 2 ^ 64) where
  pub image_in : (j : ℕ) → member w j ≡ true → member (image f w) (f j) ≡ true
  unfolding image
  image_in j m = member_set_of (map f (members w)) (f j) ∙ memb_map_in f (members w) j (memb_members w j word ∙ m)

  pub image_out : (m : ℕ) → member (image f w) m ≡ true → (j : ℕ) × (member w j ≡ true) × (f j ≡ m)
  unfolding image
  image_out m h =
      let x = memb_map_out f (members w) m (sym (member_set_of (map f (members w)) m) ∙ h) in
      (x.0, sym (memb_members w x.0 word) ∙ x.1, x.2)

  pub image_lt : (k : ℕ) → ((j : ℕ) → member w j ≡ true → f j < k) → image f w < 2 ^ k
  unfolding image
  image_lt k below = set_of_lt k (map f (members w)) (λ m h.
      let x = memb_map_out f (members w) m h in
      rw (← x.2) (below x.0 (sym (memb_members w x.0 word) ∙ x.1)))

  -- functions that agree on the set have the same image
  pub image_same : (g : ℕ → ℕ) → ((j : ℕ) → member w j ≡ true → f j ≡ g j) → image f w ≡ image g w
  unfolding image
  image_same g same = ap set_of (go (members w) (λ j m. same j (sym (memb_members w j word) ∙ m)))
    where
      go : (l : List ℕ) → ((j : ℕ) → memb j l ≡ true → f j ≡ g j) → map f l ≡ map g l
      go [] same = refl
      go (x ∷ l) same = λ i. same x (memb_head x x l refl) i ∷ go l (λ j m. same j (memb_tail j x l m)) i

pub image_empty : (f : ℕ → ℕ) → image f 0 ≡ 0
image_empty f = none_empty 64 (image f 0) (image_lt f 0 word 64 (λ j m. absurd (none j m)))
    (λ k h. is_no (member (image f 0) k) (λ m. let x = image_out f 0 word k m in none x.0 x.1))
  where
    word : 0 < 2 ^ 64
    word = pow_pos 64

    none : (j : ℕ) → member 0 j ≡ true → ⊥
    none j m = not_both m (member_empty j)
