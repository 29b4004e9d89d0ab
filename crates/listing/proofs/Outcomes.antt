-- The four outcomes of an input of 1 to 65,536 bytes: a refusal of the judgement, 11, 20, or the chart's text.
use mathlib.Core.Path.{◌≡◌, refl, ◌∙◌}
use mathlib.Core.Logic.{◌⊎◌, inl, inr}
use mathlib.Core.List.{List}
use Prim.Native.Nat.{ℕ, ◌≤◌, ◌<◌}
use Rattle.lists.proofs.Bools.{lt_or_le}
use Rattle.model.specs.Answer.{Answer, returned, refused, nowhere}
use Rattle.model.specs.Chart.{Chart}
use Rattle.model.specs.Spare.{reached_part}
use Rattle.model.specs.FirstFit.{used}
use Rattle.judgement.specs.Judging.{judged_in}
use Rattle.listing.specs.Listing.{accepted}
use Rattle.listing.proofs.Accepted.{listed_11, listed_20, listed_text, accepted_refused, accepted_judged}

pub data Outcome (K : ℕ) (file : List ℕ) : Type 0 where
  is_refused : {n p : ℕ} → judged_in file ≡ refused n p → accepted K file ≡ refused n p → Outcome K file
  is_limit : {c : Chart} → judged_in file ≡ returned c → 64 < K → accepted K file ≡ refused 11 nowhere → Outcome K file
  is_used : {c : Chart} → judged_in file ≡ returned c → K ≤ 64 → K < used (reached_part c) → accepted K file ≡ refused 20 nowhere → Outcome K file
  is_text : {c : Chart} → judged_in file ≡ returned c → K ≤ 64 → used (reached_part c) ≤ K → accepted K file ≡ returned c → Outcome K file

pub outcome : (K : ℕ) (file : List ℕ) → Outcome K file
outcome K file = go (judged_in file) refl
  where
    enough : {c : Chart} → judged_in file ≡ returned c → K ≤ 64 → (K < used (reached_part c)) ⊎ (used (reached_part c) ≤ K) → Outcome K file
    enough {c} e h (inl l) = is_used e h l (accepted_judged K file e ∙ listed_20 K c h l)
    enough {c} e h (inr l) = is_text e h l (accepted_judged K file e ∙ listed_text K c h l)

    small : {c : Chart} → judged_in file ≡ returned c → (64 < K) ⊎ (K ≤ 64) → Outcome K file
    small {c} e (inl l) = is_limit e l (accepted_judged K file e ∙ listed_11 K c l)
    small {c} e (inr l) = enough e l (lt_or_le K (used (reached_part c)))

    go : (y : Answer Chart) → judged_in file ≡ y → Outcome K file
    go (returned c) e = small e (lt_or_le 64 K)
    go (refused n p) e = is_refused e (accepted_refused K file e)
