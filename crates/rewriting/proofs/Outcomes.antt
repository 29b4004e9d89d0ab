-- The outcomes of the rewriting, with what each says: a refusal of the judgement; 11, 20 or 21; or the rewritten chart.
use mathlib.Core.Path.{◌≡◌, refl, sym, ap, ◌∙◌}
use mathlib.Core.Logic.{◌⊎◌, inl, inr}
use mathlib.Core.Bool.{true, false}
use mathlib.Core.List.{List}
use Prim.Native.Nat.{ℕ, ◌≤◌, ◌<◌}
use lib.Dec.{leb}
use lib.ListN.{length}
use borrow.Author.Tests.{le-leb, lt-leb}
use Rattle.lists.proofs.Bools.{lt_or_le}
use Rattle.model.specs.Answer.{Answer, returned, refused, nowhere}
use Rattle.model.specs.Chart.{Chart}
use Rattle.model.specs.Spare.{reached_part}
use Rattle.model.specs.FirstFit.{used}
use Rattle.model.specs.Rewrite.{rewritten}
use Rattle.model.specs.Judge.{Rewriting}
use Rattle.file_format.specs.File.{file_of}
use Rattle.judgement.specs.Judging.{judged_in}
use Rattle.numbering.proofs.Limits.{too_large_lem, too_small, enough}
use Rattle.rewriting.specs.Rewriting.{rewrite_into}
use Rattle.rewriting.specs.Parts.{fitted_into}
use Rattle.rewriting.proofs.Order.{fitted_into_lem, into_refused, into_accepted}
use Rattle.rewriting.proofs.Written.{made}

-- what a chart that is judged can be refused for: the board's limit, the timers used, the room in the buffer
pub data Stop : Type 0 where
  at_limit : Stop
  at_used : Stop
  at_room : Stop

abbrev pub number_of : Stop → ℕ
number_of at_limit = 11
number_of at_used = 20
number_of at_room = 21

-- each where those before it are not
abbrev pub Stops : (K room : ℕ) → Stop → Chart → Type 0
Stops K room at_limit c = 64 < K
Stops K room at_used c = (K ≤ 64) × (K < used (reached_part c))
Stops K room at_room c = (K ≤ 64) × (used (reached_part c) ≤ K) × (room < length (file_of (rewritten c)))

-- the numbers tell them apart
stop_of : ℕ → Stop
stop_of n = elim (leb n 11) [ true ↦ at_limit | false ↦ elim (leb n 20) [ true ↦ at_used | false ↦ at_room ] ]

stop_is : (s : Stop) → stop_of (number_of s) ≡ s
unfolding stop_of
stop_is at_limit = refl
stop_is at_used = refl
stop_is at_room = refl

pub same_stop : (s t : Stop) → number_of s ≡ number_of t → s ≡ t
same_stop s t e = sym (stop_is s) ∙ ap stop_of e ∙ stop_is t

-- ---- of a chart that is judged

module _ (K room : ℕ) (c : Chart) where
  pub stopped : (s : Stop) → Stops K room s c → fitted_into K room c ≡ refused (number_of s) nowhere
  stopped at_limit h = fitted_into_lem K room c ((too_large_lem K (used (reached_part c)) h).answer c refl)
  stopped at_used h = fitted_into_lem K room c ((too_small K (used (reached_part c)) h.0 h.1).answer c refl)
  stopped at_room h =
      fitted_into_lem K room c ((enough K (used (reached_part c)) h.0 h.1).answer c refl) ∙ rw (lt-leb (length (file_of (rewritten c))) room h.2)

  holds : K ≤ 64 → used (reached_part c) ≤ K → length (file_of (rewritten c)) ≤ room → fitted_into K room c ≡ returned (made c)
  holds h l r = fitted_into_lem K room c ((enough K (used (reached_part c)) h l).answer c refl) ∙ rw (le-leb (length (file_of (rewritten c))) room r)

-- ---- of a file

pub data Outcome (K room : ℕ) (bs : List ℕ) : Type 0 where
  is_refused : (n p : ℕ) → judged_in bs ≡ refused n p → rewrite_into K room bs ≡ refused n p → Outcome K room bs
  is_stopped : (c : Chart) (s : Stop) → judged_in bs ≡ returned c → Stops K room s c → rewrite_into K room bs ≡ refused (number_of s) nowhere
      → Outcome K room bs
  is_returned : (x : Rewriting) → rewrite_into K room bs ≡ returned x → Outcome K room bs

module _ (K room : ℕ) (bs : List ℕ) where
  pub into_stopped : (c : Chart) (s : Stop) → judged_in bs ≡ returned c → Stops K room s c → rewrite_into K room bs ≡ refused (number_of s) nowhere
  into_stopped c s e h = into_accepted K room bs e ∙ stopped K room c s h

  pub outcome : Outcome K room bs
  outcome = go (judged_in bs) refl
    where
      stop : (c : Chart) (s : Stop) → judged_in bs ≡ returned c → Stops K room s c → Outcome K room bs
      stop c s e h = is_stopped c s e h (into_stopped c s e h)

      of : (c : Chart) → judged_in bs ≡ returned c → (64 < K) ⊎ (K ≤ 64) → (K < used (reached_part c)) ⊎ (used (reached_part c) ≤ K)
          → (room < length (file_of (rewritten c))) ⊎ (length (file_of (rewritten c)) ≤ room) → Outcome K room bs
      of c e (inl h) l r = stop c at_limit e h
      of c e (inr h) (inl l) r = stop c at_used e (h, l)
      of c e (inr h) (inr l) (inl r) = stop c at_room e (h, l, r)
      of c e (inr h) (inr l) (inr r) = is_returned (made c) (into_accepted K room bs e ∙ holds K room c h l r)

      go : (y : Answer Chart) → judged_in bs ≡ y → Outcome K room bs
      go (returned c) e = of c e (lt_or_le 64 K) (lt_or_le K (used (reached_part c))) (lt_or_le room (length (file_of (rewritten c))))
      go (refused n p) e = is_refused n p e (into_refused K room bs e)
