-- Pairs that are well formed, and chains of links between them: of one family is an equivalence, and stays among the pairs. Hard: a chain read
-- backwards, by induction along it.
use mathlib.Core.Path.{◌≡◌, refl, sym, subst}
use mathlib.Core.Logic.{inl, inr}
use mathlib.Core.Bool.{true}
use mathlib.Core.List.{List, [], ◌∷◌, ◌++◌}
use Prim.Native.Nat.{ℕ}
use Rattle.model.specs.Chain.{Chain, Between}
use Rattle.model.specs.Family.{Pairs, is_pair, Linked, Joined, WellFormed, WellFormedLink}

module _ (R : ℕ → ℕ → Type 0) where
  chain_append : (v w : List ℕ) (q s t : ℕ) → Chain R q v s → Chain R s w t → Chain R q (v ++ w) t
  chain_append [] w q s t a b = subst (λ (x : ℕ). Chain R x w t) (sym a) b
  chain_append (x ∷ v) w q s t a b = (a.0, chain_append v w x s t a.1 b)

  -- a chain over one relation is a chain over a wider one
  pub chain_wider : (S : ℕ → ℕ → Type 0) → ((x y : ℕ) → R x y → S x y) → (w : List ℕ) (q s : ℕ) → Chain R q w s → Chain S q w s
  chain_wider S f [] q s a = a
  chain_wider S f (x ∷ w) q s a = (f q x a.0, chain_wider S f w x s a.1)

module _ {p : Pairs} {j : ℕ} where
  pub linked_sym : {q s : ℕ} → Linked p j q s → Linked p j s q
  linked_sym {q} {s} l = record { number = l.number; link = l.link; is_nth = l.is_nth; holds = l.holds; ends = turn l.ends }
    where
      turn : Between l.link.one l.link.other q s → Between l.link.one l.link.other s q
      turn (inl e) = inr e
      turn (inr e) = inl e

  pub joined_refl : (q : ℕ) → Joined p j q q
  joined_refl q = record { way = []; chain = refl }

  pub joined_one : {q s : ℕ} → Linked p j q s → Joined p j q s
  joined_one {s = s} l = record { way = s ∷ []; chain = (l, refl) }

  pub joined_trans : {q s t : ℕ} → Joined p j q s → Joined p j s t → Joined p j q t
  joined_trans {q} {s} {t} a b = record { way = a.way ++ b.way; chain = chain_append (Linked p j) a.way b.way q s t a.chain b.chain }

  pub joined_sym : {q s : ℕ} → Joined p j q s → Joined p j s q
  joined_sym {q} {s} a = go a.way q a.chain
    where
      go : (w : List ℕ) (x : ℕ) → Chain (Linked p j) x w s → Joined p j s x
      go [] x e = subst (λ (y : ℕ). Joined p j y x) e (joined_refl x)
      go (y ∷ w) x c = joined_trans (go w y c.1) (joined_one (linked_sym c.0))

  -- what goes over every link goes along a chain
  pub joined_carries : (L : ℕ → Type 0) → ((q s : ℕ) → Linked p j q s → L q → L s) → {q s : ℕ} → Joined p j q s → L q → L s
  joined_carries L step {q} {s} a l = go a.way q a.chain l
    where
      go : (w : List ℕ) (x : ℕ) → Chain (Linked p j) x w s → L x → L s
      go [] x e l = subst L e l
      go (y ∷ w) x c l = go w y c.1 (step x y c.0 l)

module _ {p : Pairs} (formed : WellFormed p) {j : ℕ} where
  pub linked_pair : {q s : ℕ} → Linked p j q s → is_pair p s j ≡ true
  linked_pair {q} {s} l = go l.ends
    where
      w : WellFormedLink p l.link
      w = formed.link l.number l.link l.is_nth

      go : Between l.link.one l.link.other q s → is_pair p s j ≡ true
      go (inl e) = subst (λ (x : ℕ). is_pair p x j ≡ true) e.1 (w.pair_other j l.holds)
      go (inr e) = subst (λ (x : ℕ). is_pair p x j ≡ true) e.0 (w.pair_one j l.holds)

  pub joined_pair : {q s : ℕ} → Joined p j q s → is_pair p q j ≡ true → is_pair p s j ≡ true
  joined_pair a h = joined_carries (λ (x : ℕ). is_pair p x j ≡ true) (λ q s l h. linked_pair l) a h
