-- What a round makes of the sets before it, by members, and how a timer comes to a location by rounds. Hard: the round folds over all edges, and only
-- those into the location count: it is read as "some edge brings the timer".
use mathlib.Core.Path.{◌≡◌, refl, ap, ◌∙◌}
use mathlib.Core.Logic.{◌⊎◌, inl, inr}
use mathlib.Core.Bool.{Bool, true, false, ◌||◌, ◌&&◌, not}
use mathlib.Core.List.{List, [], ◌∷◌}
use Prim.Native.Nat.{ℕ}
use lib.Dec.{eqb}
use lib.ListN.{get_or}
use borrow.Author.Tests.{not-true}
use Rattle.timer_set.specs.Members.{member, joined, minus}
use Rattle.model.specs.Comes.{EdgeInto}
use Rattle.timer_set.proofs.Members.{member_joined, member_minus}
use Rattle.lists.specs.Lists.{any_of}
use Rattle.lists.proofs.Bools.{or_cases, or_left, or_right, and_left, and_right, and_both, same_number, eqb_self}
use Rattle.lists.proofs.Membership.{any_in, any_out}
use Rattle.model.specs.Flow.{Edge, Flow, brings, made}
use Rattle.model.proofs.Edges.{with_edge, with_edges}

-- how j comes to q in one round, where P says where it stands before
pub data Way (f : Flow) (j : ℕ) (P : ℕ → Type 0) (q : ℕ) : Type 0 where
  by_own : member (f.own q) j ≡ true → Way f j P q
  by_gain : {e : Edge} → EdgeInto f q e → member e.gain j ≡ true → Way f j P q
  by_edge : {e : Edge} → EdgeInto f q e → member e.cut j ≡ false → P e.from → Way f j P q

-- the same way, where P implies P'
pub way_as : {f : Flow} {j q : ℕ} {P P' : ℕ → Type 0} → ((s : ℕ) → P s → P' s) → Way f j P q → Way f j P' q
way_as u (by_own o) = by_own o
way_as u (by_gain i g) = by_gain i g
way_as u (by_edge {e} i n s) = by_edge i n (u e.from s)

or_none : (b : Bool) → b ≡ (b || false)
or_none true = refl
or_none false = refl

module _ (before : List ℕ) (q j : ℕ) where
  -- e leads into q and brings j
  abbrev brings_to : Edge → Bool
  brings_to e = eqb e.into q && member (brings before e) j

  member_with_edge : (w : ℕ) (e : Edge) → member (with_edge before q w e) j ≡ (member w j || brings_to e)
  member_with_edge w e = go (eqb e.into q)
    where
      go : (b : Bool) → member (elim b [ true ↦ joined w (brings before e) | false ↦ w ]) j ≡ (member w j || (b && member (brings before e) j))
      go true = member_joined w (brings before e) j
      go false = or_none (member w j)

  member_with_edges : (es : List Edge) (w : ℕ) → member (with_edges before q w es) j ≡ (member w j || any_of brings_to es)
  unfolding any_of
  member_with_edges [] w = or_none (member w j)
  member_with_edges (e ∷ es) w =
      member_with_edges es (with_edge before q w e) ∙ ap (λ (b : Bool). b || any_of brings_to es) (member_with_edge w e)
      ∙ assoc (member w j) (brings_to e) (any_of brings_to es)
    where
      assoc : (a b c : Bool) → ((a || b) || c) ≡ (a || (b || c))
      assoc true b c = refl
      assoc false b c = refl

member_brings : (before : List ℕ) (e : Edge) (j : ℕ)
    → member (brings before e) j ≡ (member e.gain j || (member (get_or before e.from 0) j && not (member e.cut j)))
unfolding brings
member_brings before e j =
    let kept = member_minus (get_or before e.from 0) e.cut j in
    member_joined e.gain (minus (get_or before e.from 0) e.cut) j ∙ ap (λ (b : Bool). member e.gain j || b) kept

module _ (f : Flow) (before : List ℕ) (q j : ℕ) where
  -- j stands at s before the round
  abbrev Stood : ℕ → Type 0
  Stood s = member (get_or before s 0) j ≡ true

  -- e brings j from where it stands before
  abbrev carries : Edge → Bool
  carries e = member (get_or before e.from 0) j && not (member e.cut j)

  member_made : member (made f before q) j ≡ (member (f.own q) j || any_of (brings_to before q j) f.edges)
  unfolding made
  member_made = member_with_edges before q j f.edges (f.own q)

  pub made_out : member (made f before q) j ≡ true → Way f j (λ s. member (get_or before s 0) j ≡ true) q
  made_out h = go (or_cases (member (f.own q) j) (rw member_made at h))
    where
      edge : (e : Edge) → EdgeInto f q e → (member e.gain j ≡ true) ⊎ (carries e ≡ true) → Way f j Stood q
      edge e i (inl g) = by_gain i g
      edge e i (inr b) = by_edge i (not-true (member e.cut j) (and_right (member (get_or before e.from 0) j) _ b)) (and_left _ _ b)

      go : (member (f.own q) j ≡ true) ⊎ (any_of (brings_to before q j) f.edges ≡ true) → Way f j Stood q
      go (inl o) = by_own o
      go (inr a) =
          let x = any_out (brings_to before q j) f.edges a in
          let e = x.1 in
          edge e (record { number = x.0; is_nth = x.2; leads = same_number (and_left (eqb e.into q) (member (brings before e) j) x.3) })
          (or_cases (member e.gain j) (rw member_brings at (and_right (eqb e.into q) (member (brings before e) j) x.3)))

  pub made_in : Way f j (λ s. member (get_or before s 0) j ≡ true) q → member (made f before q) j ≡ true
  made_in w = rw member_made (go w)
    where
      edge : (e : Edge) → EdgeInto f q e → (member e.gain j || carries e) ≡ true
          → (member (f.own q) j || any_of (brings_to before q j) f.edges) ≡ true
      edge e i b =
          let into : eqb e.into q ≡ true = ap (λ (x : ℕ). eqb x q) i.leads ∙ eqb_self q in
          or_right (member (f.own q) j)
          (any_in (brings_to before q j) f.edges i.number i.is_nth (and_both into (member_brings before e j ∙ b)))

      go : Way f j Stood q → (member (f.own q) j || any_of (brings_to before q j) f.edges) ≡ true
      go (by_own o) = or_left _ o
      go (by_gain {e} i g) = edge e i (or_left _ g)
      go (by_edge {e} i n s) = edge e i (or_right (member e.gain j) (and_both s (ap not n)))
