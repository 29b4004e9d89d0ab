-- What `get` finds of a list is its entry.
use Rattle.std.specs.Prelude.{◌≡◌, List, ℕ, ◌≤◌, ◌<◌, length, get_or, Option, Some, None}
use Rattle.std.specs.Borrow.{Bor}
use Rattle.std.specs.Option.{IfSome, MatchOption, option_copied, ok_or}
use mathlib.Core.Path.{sym, ap, ◌∙◌}
use Rattle.lists.proofs.Nth.{nth_past}
use Rattle.model.specs.Answer.{returned, nowhere}
use Rattle.refusal.specs.declared.TheConstants.{CUT_OFF}
use Rattle.refusal.specs.Refused.{answer_as}
use Rattle.list_judging.specs.FromLists.{or_refused, entry_at}
use Rattle.list_judging.proofs.ListEntries.{nth_in}

pub got_entry : {A : Type 0} (P : Bor A → Type 0) (l : List A) (k : ℕ) (o : Option (Bor A)) → IfSome o (λ x. x.now ≡ get_or l k x.now)
    → MatchOption o (length l ≤ k) (λ x. (k < length l) × P x) → answer_as (ok_or (option_copied o) CUT_OFF) ≡ entry_at l k
unfolding entry_at
got_entry P l k None h m = sym (ap (or_refused 3 nowhere) (nth_past l k m))
got_entry P l k (Some x) h m = ap returned h ∙ sym (ap (or_refused 3 nowhere) (nth_in l k x.now m.0))
