-- Lists that hold a part for each head, one after another; answers that are asked for one after another; and lists that are written in the middle.
use Rattle.std.specs.Prelude.{Bool, not, List, [], ◌∷◌, ◌++◌, ℕ, leb, get_or, take, drop}
use Rattle.lists.specs.Lists.{lowest, sum_of}
use Rattle.model.specs.Answer.{Answer, returned, then}
use Rattle.chart_lists.specs.Lists.{put}

-- n entries of the list from o on; they are cut where the list ends
unfoldable pub stretch : {A : Type 0} → (o n : ℕ) → List A → List A
stretch o n l = take n (drop o l)

-- where part h begins: parts of these lengths lie end to end
unfoldable pub offset : (lengths : List ℕ) → (h : ℕ) → ℕ
offset lengths h = sum_of (take h lengths)

-- part h of the list
unfoldable pub part_of : {A : Type 0} → (lengths : List ℕ) → (h : ℕ) → List A → List A
part_of lengths h l = stretch (offset lengths h) (get_or lengths h 0) l

-- all results, or the first refusal
unfoldable pub in_order : {A : Type 0} → List (Answer A) → Answer (List A)
in_order [] = returned []
in_order (x ∷ xs) = then x (λ a. then (in_order xs) (λ ys. returned (a ∷ ys)))

-- every number below n passes
unfoldable pub every_below : (ℕ → Bool) → (n : ℕ) → Bool
every_below f n = leb n (lowest (λ i. not (f i)) n)

-- xs over the entries of the list from o on; what is before and behind them stays
unfoldable pub written : (o : ℕ) → (xs : List ℕ) → List ℕ → List ℕ
written o xs l = take o l ++ put xs (drop o l)
