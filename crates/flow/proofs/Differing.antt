-- The locations at which two lists of sets differ wait: where none waits the lists are equal, the last that waits is taken over, and of empty sets
-- one location after another is looked at.
use mathlib.Core.Path.{◌≡◌, sym, ◌∙◌}
use mathlib.Core.List.{List}
use Prim.Native.Nat.{ℕ, ◌+◌, ◌≤◌, ◌<◌}
use native.Mathlib.Decide.{ℕ_discrete}
use native.Mathlib.Omega.{arith}
use lib.ListN.{length, get_or, set, length-set}
use lib.Seq.{ext_get_or, get_or-set_same, get_or-set_other}
use Rattle.worklist.proofs.Waiting.{last_below, pop}
use Rattle.flow.specs.Rounds.{Differing}

module _ {before after idle waiting : List ℕ} {depth : ℕ} (d : Differing before after idle waiting depth) where
  pub none_differs : depth ≡ 0 → before ≡ after
  none_differs e =
      sym (ext_get_or 0 after before d.long (λ q l. d.unchanged q l (λ z. omega (arith, e, (d.worklist.listed q l z).below))))

  module _ (k : ℕ) (e : depth ≡ k + 1) where
    abbrev last : ℕ
    last = get_or waiting k 0

    pub taken_over : Differing (set before last (get_or after last 0)) after (set idle last 1) waiting k
    taken_over = record {
      long = d.long ∙ sym (length-set before last (get_or after last 0));
      worklist = pop d.worklist k e;
      unchanged = λ q l f. go q l f (ℕ_discrete q last);
    }
      where
        go : (q : ℕ) → q < length after → (get_or (set idle last 1) q 0 ≡ 0 → ⊥) → Dec (q ≡ last)
            → get_or after q 0 ≡ get_or (set before last (get_or after last 0)) q 0
        go q l f (yes p) = rw (p, get_or-set_same before last (get_or after last 0) 0 (omega (arith, last_below d.worklist k e, d.long)))
        go q l f (no ne) =
            rw (get_or-set_other before last q (get_or after last 0) 0 ne) (d.unchanged q l (λ z. f (get_or-set_other idle last q 1 0 ne ∙ z)))

-- the list of the changed locations, filled from its end
pub filled_back : (changed waiting : List ℕ) (k depth : ℕ) → k < length changed
    → ((i : ℕ) → k + 1 ≤ i → i < depth → get_or changed i 0 ≡ get_or waiting i 0)
    → (i : ℕ) → k ≤ i → i < depth → get_or (set changed k (get_or waiting k 0)) i 0 ≡ get_or waiting i 0
filled_back changed waiting k depth h rest i l b = go (ℕ_discrete i k)
  where
    go : Dec (i ≡ k) → get_or (set changed k (get_or waiting k 0)) i 0 ≡ get_or waiting i 0
    go (yes e) = rw (e, get_or-set_same changed k (get_or waiting k 0) 0 h)
    go (no ne) = get_or-set_other changed k i (get_or waiting k 0) 0 ne ∙ rest i (omega arith) b

-- each location before i whose set is not empty waits
abbrev pub Passed : (sets idle : List ℕ) → ℕ → Type 0
Passed sets idle i = (q : ℕ) → q < i → (get_or idle q 0 ≡ 0 → ⊥) → get_or sets q 0 ≡ 0

pub passed_more : (sets idle after : List ℕ) (i : ℕ) → i < length idle → after ≡ set idle i 0 → Passed sets idle i → Passed sets after (i + 1)
passed_more sets idle after i h is p q l f = go (ℕ_discrete q i)
  where
    go : Dec (q ≡ i) → get_or sets q 0 ≡ 0
    go (yes e) = absurd (f (rw (is, e) (get_or-set_same idle i 0 0 h)))
    go (no ne) = p q (omega (arith, l, ne)) (λ z. f (rw is (get_or-set_other idle i q 0 0 ne ∙ z)))
