-- The pairs and links that safe lists describe are well formed, and their links are those of the transitions.
use mathlib.Core.Path.{◌≡◌, refl, sym, ap, ◌∙◌, subst}
use mathlib.Core.Logic.{◌⊎◌, inl, inr}
use mathlib.Core.Bool.{true}
use mathlib.Core.Option.{some, none-ne-some, some-injective}
use mathlib.Core.List.{List, [], ◌∷◌}
use Prim.Native.Nat.{ℕ, zero, suc, ◌≤◌, ◌<◌}
use lib.ListN.{length, get_or, get_elem?, get_or-eq_default}
use Rattle.lists.specs.Elements.{Element}
use Rattle.lists.proofs.Bools.{not_both, and_left, and_right, lt_or_le}
use Rattle.lists.proofs.Elements.{gather_in, gather_out}
use Rattle.timer_set.specs.Members.{member, common, minus}
use Rattle.timer_set.proofs.Members.{member_empty, member_high, member_minus, member_common}
use Rattle.model.specs.Family.{Link, Pairs, is_pair, WellFormed, WellFormedLink}
use Rattle.families.specs.Pairs.{link_at, pairs_of, SafeTransitions}

-- a timer of a link is live at both ends
linked_both : (a b s j : ℕ) → member (minus (common a b) s) j ≡ true → (member a j ≡ true) × (member b j ≡ true)
linked_both a b s j h =
    let both = sym (member_common a b j) ∙ and_left (member (common a b) j) _ (sym (member_minus (common a b) s j) ∙ h) in
    (and_left (member a j) (member b j) both, and_right (member a j) (member b j) both)

module _ {sources targets starts live : List ℕ} {timers : ℕ} (fit : SafeTransitions sources targets starts live timers) where
  abbrev p : Pairs
  p = pairs_of sources targets starts live timers

  abbrev link : ℕ → Link
  link = link_at sources targets starts live

  pub link_in : (i : ℕ) → i < length sources → Element p.links (link i)
  unfolding pairs_of Rattle.lists.specs.Lists.up_to
  link_in i h = gather_in (λ i. link i ∷ []) (length sources) i h (record { place = 0; is_nth = refl })

  pub link_out : (n : ℕ) (k : Link) → get_elem? p.links n ≡ some k → (i : ℕ) × (i < length sources) × (link i ≡ k)
  unfolding pairs_of Rattle.lists.specs.Lists.up_to
  link_out n k e =
      let x = gather_out (λ i. link i ∷ []) (length sources) n e in
      (x.number, x.below, one x.number x.element.place x.element.is_nth)
    where
      one : (i m : ℕ) → get_elem? (link i ∷ []) m ≡ some k → link i ≡ k
      one i zero e = some-injective _ _ e
      one i (suc m) e = absurd (none-ne-some _ e)

  pub pair_inside : (q j : ℕ) → is_pair p q j ≡ true → (q < length live) × (j < timers)
  unfolding is_pair pairs_of
  pair_inside q j h = (location (lt_or_le q (length live)), timer (lt_or_le j timers))
    where
      location : (q < length live) ⊎ (length live ≤ q) → q < length live
      location (inl l) = l
      location (inr l) = absurd (not_both h (ap (λ (w : ℕ). member w j) (get_or-eq_default live 0 {n = q} l) ∙ member_empty j))

      timer : (j < timers) ⊎ (timers ≤ j) → j < timers
      timer (inl l) = l
      timer (inr l) = absurd (not_both h (member_high timers (get_or live q 0) j (fit.live_below q) l))

  pub formed : WellFormed p
  unfolding is_pair pairs_of link_at
  formed = record {
    few_timers = fit.few_timers;
    location = λ q j h. (pair_inside q j h).0;
    timer = λ q j h. (pair_inside q j h).1;
    link = λ n k e. let x = link_out n k e in subst (λ (k : Link). WellFormedLink p k) x.2 (one x.0 x.1);
  }
    where
      one : (i : ℕ) → i < length sources → WellFormedLink p (link i)
      one i h = record {
        one = fit.source_below i h;
        other = fit.target_below i h;
        pair_one = λ j m. (linked_both (get_or live (get_or sources i 0) 0) _ _ j m).0;
        pair_other = λ j m. (linked_both _ (get_or live (get_or targets i 0) 0) _ j m).1;
      }
