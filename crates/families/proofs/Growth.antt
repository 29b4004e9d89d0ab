-- A join along a link keeps what stands at each location, and makes the sum larger or shows that both ends agree.
use mathlib.Core.Path.{◌≡◌, refl, sym, ap, ap₂, ◌∙◌}
use mathlib.Core.Logic.{◌⊎◌, inl, inr}
use mathlib.Core.Bool.{Bool, true, false, ◌&&◌, ◌||◌, not, true≢false}
use mathlib.Core.List.{List}
use Prim.Native.Nat.{ℕ, ◌≤◌, ◌<◌}
use native.Mathlib.Nat.{le_refl}
use native.Mathlib.Decide.{ℕ_discrete}
use native.Mathlib.Omega.{arith}
use lib.ListN.{length, get_or, set, length-set}
use lib.Seq.{get_or-set_same, get_or-set_other}
use Rattle.lists.proofs.Bools.{same_bool, not_both, is_no, or_cases, or_left, or_right, and_left, and_right, and_both, not-true, not-false}
use Rattle.lists.specs.Lists.{sum_of}
use Rattle.lists.proofs.Sums.{sum_less}
use Rattle.timer_set.specs.Members.{member, joined, common, minus}
use Rattle.timer_set.proofs.Digits.{below_power}
use Rattle.timer_set.proofs.Members.{member_empty, member_joined, member_common, member_minus, none_empty, joined_more}
use Rattle.families.specs.Propagation.{join_along, JoinedEnds}

-- ---- sets by members

-- a set without members is empty
no_members : (w : ℕ) → ((j : ℕ) → member w j ≡ false) → w ≡ 0
no_members w h = none_empty w w (below_power w) (λ j l. h j)

module _ (a b timers : ℕ) where
  -- the link's timers that either end has, and those that one of the ends lacks
  abbrev pub either : ℕ
  either = common (joined a b) timers

  abbrev pub lacked : ℕ
  lacked = minus either (common a b)

  pub lacked_is : {x y z w : ℕ} → x ≡ joined a b → y ≡ common x timers → z ≡ common a b → w ≡ minus y z → w ≡ lacked
  lacked_is e f g h = h ∙ ap₂ minus (f ∙ ap (λ (v : ℕ). common v timers) e) g

  pub either_in : (j : ℕ) → member either j ≡ true → ((member a j ≡ true) ⊎ (member b j ≡ true)) × (member timers j ≡ true)
  either_in j h =
      let m = sym (member_common (joined a b) timers j) ∙ h in
      (or_cases (member a j) (sym (member_joined a b j) ∙ and_left (member (joined a b) j) _ m), and_right (member (joined a b) j) _ m)

  in_either : (j : ℕ) → (member a j ≡ true) ⊎ (member b j ≡ true) → member timers j ≡ true → member either j ≡ true
  in_either j h t = member_common (joined a b) timers j ∙ and_both (member_joined a b j ∙ go h) t
    where
      go : (member a j ≡ true) ⊎ (member b j ≡ true) → (member a j || member b j) ≡ true
      go (inl m) = or_left (member b j) m
      go (inr m) = or_right (member a j) m

  -- no end lacks any
  lacked_none : lacked ≡ 0 → (j : ℕ) → member timers j ≡ true → member a j ≡ member b j
  lacked_none e j t = same_bool _ _ (λ m. and_right (member a j) (member b j) (both (inl m))) (λ m. and_left (member a j) (member b j) (both (inr m)))
    where
      gone : member either j ≡ true → not (member (common a b) j) ≡ false
      gone m = sym (ap (λ (x : Bool). x && not (member (common a b) j)) m) ∙ sym (member_minus either (common a b) j) ∙ ap (λ (w : ℕ). member w j) e
          ∙ member_empty j

      both : (member a j ≡ true) ⊎ (member b j ≡ true) → (member a j && member b j) ≡ true
      both h = sym (member_common a b j) ∙ not-false (member (common a b) j) (gone (in_either j h t))

  -- if what either has adds nothing to both, none is lacked
  adds_nothing : joined a either ≡ a → joined b either ≡ b → lacked ≡ 0
  adds_nothing ea eb = no_members lacked (λ j. is_no (member lacked j) (λ m.
      let n = sym (member_minus either (common a b) j) ∙ m in
      let h = and_left (member either j) _ n in
      not_both (member_common a b j ∙ and_both (had a ea j h) (had b eb j h)) (not-true (member (common a b) j) (and_right (member either j) _ n))))
    where
      had : (c : ℕ) → joined c either ≡ c → (j : ℕ) → member either j ≡ true → member c j ≡ true
      had c e j h = sym (ap (λ (w : ℕ). member w j) e) ∙ member_joined c either j ∙ or_right (member c j) h

-- ---- a join along a link

module _ (sets : List ℕ) (one other timers : ℕ) where
  abbrev a : ℕ
  a = get_or sets one 0

  abbrev b : ℕ
  b = get_or sets other 0

  abbrev w : ℕ
  w = either a b timers

  pub join_long : length (join_along sets one other timers) ≡ length sets
  unfolding join_along
  join_long = simp length-set

  pub ends_same : lacked a b timers ≡ 0 → JoinedEnds sets one other timers sets false
  ends_same e = record { same = λ _. (refl, record { at = lacked_none a b timers e }); grew = λ t. absurd (true≢false (sym t)) }

  module _ (ha : one < length sets) (hb : other < length sets) where
    at_other : get_or (join_along sets one other timers) other 0 ≡ joined b w
    unfolding join_along
    at_other = get_or-set_same (set sets one (joined a w)) other (joined b w) 0 (omega (arith, length-set sets one (joined a w)))

    at_one : get_or (join_along sets one other timers) one 0 ≡ joined a w
    unfolding join_along
    at_one = go (ℕ_discrete one other)
      where
        go : Dec (one ≡ other) → get_or (set (set sets one (joined a w)) other (joined b w)) one 0 ≡ joined a w
        go (yes e) = ap (λ (n : ℕ). get_or (set (set sets one (joined a w)) other (joined b w)) n 0) e ∙ at_other
            ∙ ap (λ (n : ℕ). joined (get_or sets n 0) w) (sym e)
        go (no ne) = get_or-set_other (set sets one (joined a w)) other one (joined b w) 0 ne ∙ get_or-set_same sets one (joined a w) 0 ha

    -- what holds at both ends, and of the rest, holds everywhere
    pub join_all : (P : ℕ → ℕ → Type 0) → P one (joined a w) → P other (joined b w) → ((x : ℕ) → P x (get_or sets x 0))
        → (x : ℕ) → P x (get_or (join_along sets one other timers) x 0)
    unfolding join_along
    join_all P pa pb rest x = go (ℕ_discrete x one) (ℕ_discrete x other)
      where
        elsewhere : (x ≡ one → ⊥) → (x ≡ other → ⊥) → get_or (join_along sets one other timers) x 0 ≡ get_or sets x 0
        elsewhere n m = get_or-set_other (set sets one (joined a w)) other x (joined b w) 0 m ∙ get_or-set_other sets one x (joined a w) 0 n

        go : Dec (x ≡ one) → Dec (x ≡ other) → P x (get_or (join_along sets one other timers) x 0)
        go (yes e) d = rw (e, at_one) pa
        go (no n) (yes e) = rw (e, at_other) pb
        go (no n) (no m) = rw (elsewhere n m) (rest x)

    pub ends_grew : (lacked a b timers ≡ 0 → ⊥) → JoinedEnds sets one other timers (join_along sets one other timers) true
    ends_grew ne = record {
      same = λ t. absurd (true≢false t);
      grew = λ _. (
        refl,
        go (sum_less sets (join_along sets one other timers) (sym join_long)
            (join_all (λ x v. get_or sets x 0 ≤ v) (joined_more a w) (joined_more b w) (λ x. le_refl _))),
      );
    }
      where
        at : sets ≡ join_along sets one other timers → (x : ℕ) → get_or (join_along sets one other timers) x 0 ≡ get_or sets x 0
        at e x = ap (λ (l : List ℕ). get_or l x 0) (sym e)

        go : (sets ≡ join_along sets one other timers) ⊎ (sum_of sets < sum_of (join_along sets one other timers))
            → sum_of sets < sum_of (join_along sets one other timers)
        go (inl e) = absurd (ne (adds_nothing a b timers (sym at_one ∙ at e one) (sym at_other ∙ at e other)))
        go (inr h) = h
