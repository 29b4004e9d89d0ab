-- Whether a location accepts: whether it is in the list of the accepting ones, and which part of a lent list these are.
use mathlib.Core.Path.{◌≡◌, refl, sym, ap₂, ◌∙◌}
use mathlib.Core.Bool.{Bool, true, false, ◌||◌}
use mathlib.Core.List.{List, [], ◌∷◌}
use Prim.Native.Nat.{ℕ}
use lib.Dec.{eqb}
use lib.ListN.{length, take}
use borrow.Author.Tests.{eqb-true, eq-eqb, ne_eqb}
use Rattle.std.specs.List.{list_any}
use Rattle.lists.proofs.Bools.{not_both}
use Rattle.lists.specs.Lists.{memb}
use Rattle.model.specs.Chart.{Chart}
use Rattle.model.specs.Run.{accepts}
use Rattle.chart_lists.specs.Lists.{Lists, lists_of}
use Rattle.chart_lists.specs.Holds.{Holds}
use Rattle.chart_lists.specs.declared.Header.{Header}
use Rattle.chart_lists.specs.Header.{header_of}
use Rattle.chart_lists.proofs.Begins.{begins_take, begins_part}
use Rattle.chart_lists.proofs.Fronts.{accepting_are}

-- what the library's `contains` answers
pub memb_contains : (q : ℕ) (l : List ℕ) → list_any (λ y. eqb y q) l ≡ memb q l
unfolding memb
memb_contains q [] = refl
memb_contains q (x ∷ l) = ap₂ (λ (a b : Bool). a || b) (same x) (memb_contains q l)
  where
    same : (x : ℕ) → eqb x q ≡ eqb q x
    same x = go (eqb x q) refl
      where
        go : (b : Bool) → eqb x q ≡ b → b ≡ eqb q x
        go true e = sym (eq-eqb q x (sym (eqb-true x q e)))
        go false e = sym (ne_eqb q x (λ p. not_both (eq-eqb x q (sym p)) e))

module _ (c : Chart) where
  -- the location p of the code is the definition's q
  pub accepts_at : (l : List ℕ) {p q : ℕ} {b : Bool} → b ≡ memb p l → l ≡ c.accepting → p ≡ q → b ≡ accepts c q
  unfolding accepts
  accepts_at l e f h = e ∙ ap₂ memb h f

  -- the accepting locations are the front of their list
  module _ {h : Header} {l : Lists} (e : h ≡ header_of c) (held : Holds c l) where
    pub accepting_front : take h.accepting l.accepting ≡ c.accepting
    unfolding lists_of
    accepting_front = begins_take held.accepting (accepting_are c e)

    pub accepting_long : h.accepting ≡ length (take h.accepting l.accepting)
    unfolding lists_of
    accepting_long = sym (begins_part held.accepting (accepting_are c e))
