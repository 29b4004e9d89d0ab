-- The sets that joins along links make of one set at one location: the families that begin there, once all links agree.
use mathlib.Core.Path.{◌≡◌, refl, sym, ap, ◌∙◌, subst}
use mathlib.Core.Logic.{◌⊎◌, inl, inr}
use mathlib.Core.Bool.{true}
use mathlib.Core.List.{List}
use Prim.Native.Nat.{ℕ, ◌^◌, ◌<◌}
use native.Mathlib.Decide.{ℕ_discrete}
use lib.ListN.{length, get_or, set, replicate}
use lib.Pow.{pow_pos}
use lib.Seq.{get_or-set_same, get_or-set_other}
use Rattle.lists.proofs.Zeros.{get_d_zeros}
use Rattle.lists.proofs.Bools.{not_both, or_cases, or_left}
use Rattle.timer_set.specs.Members.{member, joined}
use Rattle.timer_set.proofs.Members.{member_empty, member_joined}
use Rattle.model.specs.Chain.{Between}
use Rattle.model.specs.Family.{Link, Pairs, Linked, Joined}
use Rattle.model.proofs.Joined.{linked_sym, joined_refl, joined_one, joined_trans, joined_carries}
use Rattle.families.specs.Propagation.{one_on, other_on, timers_on, link_on, LinkLists, Ends, Propagated, EndsAgree, Joins}
use Rattle.families.specs.declared.links.Link.{Link as StoredLink}
use Rattle.families.proofs.Growth.{either, either_in}
use Rattle.families.proofs.Sweeps.{joins_all}

-- a list filled with 0
pub zeros : {l : List ℕ} (n : ℕ) → l ≡ replicate n 0 → (s : ℕ) → get_or l s 0 ≡ 0
zeros n e s = rw e (get_d_zeros n s)

-- ---- one set at q, and none elsewhere

module _ (l : List ℕ) (q roots : ℕ) (inside : q < length l) (empty : (s : ℕ) → get_or l s 0 ≡ 0) where
  one_all : (P : ℕ → ℕ → Type 0) → P q roots → ((s : ℕ) → (s ≡ q → ⊥) → P s 0) → (s : ℕ) → P s (get_or (set l q roots) s 0)
  one_all P here rest s = go (ℕ_discrete s q)
    where
      go : Dec (s ≡ q) → P s (get_or (set l q roots) s 0)
      go (yes e) = rw (e, get_or-set_same l q roots 0 inside) here
      go (no n) = rw (get_or-set_other l q s roots 0 n ∙ empty s) (rest s n)

  pub one_small : roots < 2 ^ 64 → (s : ℕ) → get_or (set l q roots) s 0 < 2 ^ 64
  one_small b = one_all (λ s v. v < 2 ^ 64) b (λ s n. pow_pos 64)

  -- ---- what joins along the links of p make of it

  module _ {links : List StoredLink} (ends : Ends (length (set l q roots)) links) (p : Pairs) (listed : LinkLists p links)
      (m : List ℕ) (joins : Joins links (set l q roots) m) where
    kept : (j : ℕ) → member roots j ≡ true → member (get_or m q 0) j ≡ true
    kept j b = joins_all _ ends (λ s v. s ≡ q → member v j ≡ true) (record {
      at_one = λ k h x y f g e. member_joined x _ j ∙ or_left _ (f e);
      at_other = λ k h x y f g e. member_joined y _ j ∙ or_left _ (g e);
    }) joins (one_all (λ s v. s ≡ q → member v j ≡ true) (λ _. b) (λ s n e. absurd (n e))) q refl

    -- the timers at a location are of the set, and their families have the location
    abbrev Sound : ℕ → ℕ → Type 0
    Sound s w = (j : ℕ) → member w j ≡ true → (member roots j ≡ true) × Joined p j q s

    link : (k : ℕ) → k < length links → (j : ℕ) → member (timers_on links k) j ≡ true → Linked p j (one_on links k) (other_on links k)
    unfolding link_on
    link k h j m = let e = listed.each k h in
        record { number = e.place; link = link_on links k; is_nth = e.is_nth; holds = m; ends = inl (refl, refl) }

    module _ (k : ℕ) (h : k < length links) (a b : ℕ) (f : Sound (one_on links k) a) (g : Sound (other_on links k) b) where
      either_one : Sound (one_on links k) (either a b (timers_on links k))
      either_one j m = let x = either_in a b (timers_on links k) j m in go x.0 (link k h j x.1)
        where
          go : (member a j ≡ true) ⊎ (member b j ≡ true) → Linked p j (one_on links k) (other_on links k)
              → (member roots j ≡ true) × Joined p j q (one_on links k)
          go (inl n) l = f j n
          go (inr n) l = let y = g j n in (y.0, joined_trans y.1 (joined_one (linked_sym l)))

      either_other : Sound (other_on links k) (either a b (timers_on links k))
      either_other j m = let x = either_one j m in (x.0, joined_trans x.1 (joined_one (link k h j (either_in a b (timers_on links k) j m).1)))

    joined_sound : (s a w : ℕ) → Sound s a → Sound s w → Sound s (joined a w)
    joined_sound s a w f g j m = go (or_cases (member a j) (sym (member_joined a w j) ∙ m))
      where
        go : (member a j ≡ true) ⊎ (member w j ≡ true) → (member roots j ≡ true) × Joined p j q s
        go (inl n) = f j n
        go (inr n) = g j n

    sound : (s : ℕ) → Sound s (get_or m s 0)
    sound = joins_all _ ends Sound (record {
      at_one = λ k h a b f g. joined_sound _ a _ f (either_one k h a b f g);
      at_other = λ k h a b f g. joined_sound _ b _ g (either_other k h a b f g);
    }) joins (one_all Sound (λ j b. (b, joined_refl q)) (λ s n j b. absurd (not_both b (member_empty j))))

    -- links that agree hand on every timer
    module _ (agree : (k : ℕ) → k < length links → EndsAgree m (one_on links k) (other_on links k) (timers_on links k)) where
      over : (j s t : ℕ) → Linked p j s t → member (get_or m s 0) j ≡ true → member (get_or m t 0) j ≡ true
      unfolding link_on
      over j s t x b = go (listed.all x.number x.link x.is_nth)
        where
          ends' : member (get_or m x.link.one 0) j ≡ member (get_or m x.link.other 0) j
              → Between x.link.one x.link.other s t → member (get_or m t 0) j ≡ true
          ends' e (inl y) = sym (rw (y.0, y.1) at e) ∙ b
          ends' e (inr y) = (rw (y.0, y.1) at e) ∙ b

          go : (x.link.timers ≡ 0) ⊎ ((k : ℕ) × (k < length links) × (link_on links k ≡ x.link)) → member (get_or m t 0) j ≡ true
          go (inl e) = absurd (not_both x.holds (ap (λ (w : ℕ). member w j) e ∙ member_empty j))
          go (inr e) = ends' (subst (λ (n : Link). member n.timers j ≡ true → member (get_or m n.one 0) j ≡ member (get_or m n.other 0) j) e.2
              ((agree e.0 e.1).at j) x.holds) x.ends

      pub propagated_over : Propagated p q roots m
      propagated_over = record { has = λ s j b x. joined_carries (λ t. member (get_or m t 0) j ≡ true) (over j) x (kept j b); from = sound }
