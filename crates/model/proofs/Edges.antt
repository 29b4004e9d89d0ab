-- What a round makes of the sets before it, edge by edge, as a loop over the edges goes. Hard: the definition takes location by location, the loop
-- edge by edge: the sets after the first i edges are compared place by place.
use mathlib.Core.Path.{◌≡◌, refl, sym, ap, ◌∙◌}
use mathlib.Core.Bool.{Bool, true, false}
use mathlib.Core.Option.{some, some-injective, none-ne-some}
use mathlib.Core.List.{List, [], ◌∷◌, ◌++◌, foldl, foldl-append}
use Prim.Native.Nat.{ℕ, zero, suc, ◌<◌}
use native.Mathlib.Decide.{ℕ_discrete}
use native.Mathlib.Omega.{arith}
use lib.Dec.{eqb}
use lib.ListN.{length, get_or, get_elem?, set, take, length-set}
use lib.Seq.{ext_get_or, get_or-set_same, get_or-set_other, take-length}
use borrow.Author.Tests.{eq-eqb, ne_eqb}
use Rattle.timer_set.specs.Members.{joined}
use Rattle.lists.specs.Lists.{up_to}
use Rattle.lists.proofs.Gather.{length_up_to, get_d_up_to}
use Rattle.model.specs.Flow.{Edge, Flow, brings, made, round}

-- the set w of q, and then with one edge more
abbrev pub with_edge : List ℕ → ℕ → ℕ → Edge → ℕ
with_edge before q w e = elim (eqb e.into q) [ true ↦ joined w (brings before e) | false ↦ w ]

abbrev pub with_edges : List ℕ → ℕ → ℕ → List Edge → ℕ
with_edges before q w es = foldl (with_edge before q) w es

module _ (before : List ℕ) (q w : ℕ) (e : Edge) where
  pub edge_here : e.into ≡ q → with_edge before q w e ≡ joined w (brings before e)
  edge_here p = ap {B = ℕ} (λ (b : Bool). elim b [ true ↦ joined w (brings before e) | false ↦ w ]) (eq-eqb e.into q p)

  pub edge_elsewhere : (e.into ≡ q → ⊥) → with_edge before q w e ≡ w
  edge_elsewhere ne = ap {B = ℕ} (λ (b : Bool). elim b [ true ↦ joined w (brings before e) | false ↦ w ]) (ne_eqb e.into q ne)

pub take_nth : {A : Type 0} (l : List A) (i : ℕ) (a : A) → get_elem? l i ≡ some a → take (suc i) l ≡ take i l ++ (a ∷ [])
take_nth [] i a e = absurd (none-ne-some _ e)
take_nth (x ∷ l) zero a e = ap (λ y. y ∷ []) (some-injective _ _ e)
take_nth (x ∷ l) (suc i) a e = ap (λ t. x ∷ t) (take_nth l i a e)

-- the sets that a round has made after its first i edges
unfoldable pub round_to : Flow → List ℕ → ℕ → List ℕ
round_to f before i = up_to (λ q. with_edges before q (f.own q) (take i f.edges)) f.locations

module _ (f : Flow) (before : List ℕ) where
  pub made_as_loop : (q i : ℕ) (e : Edge) → get_elem? f.edges i ≡ some e
      → with_edges before q (f.own q) (take (suc i) f.edges) ≡ with_edge before q (with_edges before q (f.own q) (take i f.edges)) e
  made_as_loop q i e n =
      ap (with_edges before q (f.own q)) (take_nth f.edges i e n) ∙ foldl-append (with_edge before q) (f.own q) (take i f.edges) (e ∷ [])

  length_round_to : (i : ℕ) → length (round_to f before i) ≡ f.locations
  unfolding round_to
  length_round_to i = length_up_to _ f.locations

  get_d_round_to : (i q : ℕ) → q < f.locations → get_or (round_to f before i) q 0 ≡ with_edges before q (f.own q) (take i f.edges)
  unfolding round_to
  get_d_round_to i q h = get_d_up_to _ f.locations q 0 h

  pub round_to_start : round_to f before 0 ≡ up_to f.own f.locations
  unfolding round_to
  round_to_start = refl

  -- the next edge joins what it brings to the set that it leads into
  pub round_to_step : (i : ℕ) (e : Edge) → get_elem? f.edges i ≡ some e
      → round_to f before (suc i) ≡ set (round_to f before i) e.into (joined (get_or (round_to f before i) e.into 0) (brings before e))
  round_to_step i e n =
      ext_get_or 0 (round_to f before (suc i)) _ (length_round_to (suc i) ∙ sym (length-set (round_to f before i) _ _ ∙ length_round_to i))
      (λ q h.
      let l : q < f.locations = omega (arith, length_round_to (suc i)) in
      get_d_round_to (suc i) q l ∙ made_as_loop q i e n ∙ at q l (ℕ_discrete q e.into))
    where
      at : (q : ℕ) → q < f.locations → Dec (q ≡ e.into)
          → with_edge before q (with_edges before q (f.own q) (take i f.edges)) e
          ≡ get_or (set (round_to f before i) e.into (joined (get_or (round_to f before i) e.into 0) (brings before e))) q 0
      at q l (yes p) =
          edge_here before q _ e (sym p) ∙ rw (
            ← p,
            get_or-set_same (round_to f before i) q _ 0 (omega (arith, length_round_to i)),
            get_d_round_to i q l,
          )
      at q l (no ne) =
          edge_elsewhere before q _ e (λ p. ne (sym p)) ∙ sym (get_or-set_other (round_to f before i) e.into q _ 0 ne ∙ get_d_round_to i q l)

  pub round_to_end : round_to f before (length f.edges) ≡ round f before
  unfolding round_to round made
  round_to_end = rw take-length
