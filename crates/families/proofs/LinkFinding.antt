-- The links with timers that a loop over the transitions stores, one after another.
use mathlib.Core.Path.{◌≡◌, refl, sym, ap, ◌∙◌, subst}
use mathlib.Core.Logic.{◌⊎◌, inl, inr}
use mathlib.Core.List.{List, [], ◌∷◌, ◌++◌}
use Prim.Native.Nat.{ℕ, ◌+◌, ◌≤◌, ◌<◌}
use native.Mathlib.Decide.{ℕ_discrete}
use native.Mathlib.Omega.{arith}
use lib.ListN.{length, get_or, length-append, get_or-append}
use lib.Seq.{get_or-append_seam}
use Rattle.timer_set.specs.Members.{common, minus}
use Rattle.model.specs.Family.{Link}
use Rattle.families.specs.Pairs.{link_at, pairs_of, SafeTransitions}
use Rattle.families.specs.Propagation.{no_link, link_on, LinkLists, Ends}
use Rattle.families.specs.declared.links.Link.{Link as StoredLink}
use Rattle.lists.specs.Elements.{Element}
use Rattle.families.proofs.CodePairs.{link_in, link_out}

-- ---- links by numbers

-- the link has no timers, or is one of the first on the lists
abbrev Stored : (on : ℕ → Link) (count : ℕ) → Link → Type 0
Stored on count l = (l.timers ≡ 0) ⊎ ((k : ℕ) × (k < count) × (on k ≡ l))

stored_more : (on on' : ℕ → Link) (count count' : ℕ) (l : Link) → count ≤ count' → ((k : ℕ) → k < count → on' k ≡ on k)
    → Stored on count l → Stored on' count' l
stored_more on on' count count' l h same (inl e) = inl e
stored_more on on' count count' l h same (inr y) = inr (y.0, omega (arith, h, y.1), same y.0 y.1 ∙ y.2)

-- the first links on the lists are those of the first i transitions that have timers
pub record Found (link on : ℕ → Link) (i count : ℕ) : Type 0 where
  pub few : count ≤ i
  pub each : (k : ℕ) → k < count → (m : ℕ) × (m < i) × (on k ≡ link m)
  pub all : (m : ℕ) → m < i → Stored on count (link m)

pub found_none : (link on : ℕ → Link) → Found link on 0 0
found_none link on = record { few = omega arith; each = λ k h. absurd (omega arith); all = λ m h. absurd (omega arith) }

module _ {link on : ℕ → Link} {i count : ℕ} (x : Found link on i count) where
  -- one transition more is looked at
  found_next : (on' : ℕ → Link) (count' : ℕ) → count' ≤ i + 1 → ((k : ℕ) → k < count' → (m : ℕ) × (m < i + 1) × (on' k ≡ link m)) → count ≤ count'
      → ((k : ℕ) → k < count → on' k ≡ on k) → Stored on' count' (link i) → Found link on' (i + 1) count'
  found_next on' count' few each h same last = record { few = few; each = each; all = λ m l. go m l (ℕ_discrete m i) }
    where
      go : (m : ℕ) → m < i + 1 → Dec (m ≡ i) → Stored on' count' (link m)
      go m l (yes e) = subst (λ (n : ℕ). Stored on' count' (link n)) (sym e) last
      go m l (no n) = stored_more on on' count count' (link m) h same (x.all m (omega arith))

  earlier : (on' : ℕ → Link) (k : ℕ) → k < count → on' k ≡ on k → (m : ℕ) × (m < i + 1) × (on' k ≡ link m)
  earlier on' k h e = let y = x.each k h in (y.0, omega (arith, y.1), e ∙ y.2)

  found_skip : (link i).timers ≡ 0 → Found link on (i + 1) count
  found_skip e = found_next on count (omega (arith, x.few)) (λ k h. earlier on k h refl) (omega arith) (λ k h. refl) (inl e)

  -- its link is put at the end
  found_more : (on' : ℕ → Link) → ((k : ℕ) → k < count → on' k ≡ on k) → on' count ≡ link i → Found link on' (i + 1) (count + 1)
  found_more on' same here =
      found_next on' (count + 1) (omega (arith, x.few)) (λ k h. go k h (ℕ_discrete k count)) (omega arith) same (inr (count, omega arith, here))
    where
      go : (k : ℕ) → k < count + 1 → Dec (k ≡ count) → (m : ℕ) × (m < i + 1) × (on' k ≡ link m)
      go k h (yes e) = (i, omega arith, ap on' e ∙ here)
      go k h (no n) = let b : k < count = omega arith in earlier on' k b (same k b)

-- ---- links on a list

module _ (sources targets starts live : List ℕ) (links : List StoredLink) {i : ℕ}
    (x : Found (link_at sources targets starts live) (link_on links) i (length links)) (link : StoredLink)
    (one_is : link.one ≡ get_or sources i 0) (other_is : link.other ≡ get_or targets i 0)
    (timers_are : link.timers.bits
    ≡ minus (common (get_or live (get_or sources i 0) 0) (get_or live (get_or targets i 0) 0)) (get_or starts i 0)) where
  pub list_skip : link.timers.bits ≡ 0 → Found (link_at sources targets starts live) (link_on links) (i + 1) (length links)
  unfolding link_at
  list_skip e = found_skip x (sym timers_are ∙ e)

  pub list_more : Found (link_at sources targets starts live) (link_on (links ++ link ∷ [])) (i + 1) (length (links ++ link ∷ []))
  unfolding link_on link_at
  list_more = rw (length-append links (link ∷ [])) (found_more x (link_on (links ++ link ∷ []))
      (λ k h. ap as_link (get_or-append links (link ∷ []) no_link k h))
      (ap as_link (get_or-append_seam links link [] no_link) ∙ λ n. record { one = one_is n; other = other_is n; timers = timers_are n }))
    where
      as_link : StoredLink → Link
      as_link l = record { one = l.one; other = l.other; timers = l.timers.bits }

-- ---- all transitions are looked at

module _ {sources targets starts live : List ℕ} {timers : ℕ} (fit : SafeTransitions sources targets starts live timers) (links : List StoredLink)
    (x : Found (link_at sources targets starts live) (link_on links) (length sources) (length links)) where
  pub found_links : LinkLists (pairs_of sources targets starts live timers) links
  found_links = record {
    each = λ k h. let y = x.each k h in
        subst (λ (l : Link). Element (pairs_of sources targets starts live timers).links l) (sym y.2) (link_in fit y.0 y.1);
    all = λ n l e. let y = link_out fit n l e in subst (Stored (link_on links) (length links)) y.2 (x.all y.0 y.1);
  }

  pub found_ends : Ends (length live) links
  unfolding link_on link_at
  found_ends = record {
    few_locations = fit.few_locations;
    one_below = λ k h. let y = x.each k h in rw (ap (λ (l : Link). l.one) y.2) (fit.source_below y.0 y.1);
    other_below = λ k h. let y = x.each k h in rw (ap (λ (l : Link). l.other) y.2) (fit.target_below y.0 y.1);
  }
