-- What the writer answers of the renamed lists is what the rewriting answers. The renamed lists hold the rewritten chart, which is valid.
use mathlib.Core.Path.{◌≡◌, refl, ap}
use mathlib.Core.Bool.{Bool, true, false}
use mathlib.Core.List.{List}
use Prim.Native.Nat.{ℕ}
use lib.Dec.{leb}
use lib.ListN.{length}
use Rattle.model.specs.Answer.{Answer, returned, then, unless, nowhere}
use Rattle.model.specs.Chart.{Transition, Chart, Nth}
use Rattle.model.specs.Valid.{Storable}
use Rattle.model.specs.Spare.{reached_part, spare_cleared}
use Rattle.model.specs.FirstFit.{used}
use Rattle.model.specs.Rewrite.{Numbering, rewritten_by, rewritten, board_numbering}
use Rattle.model.specs.Plan.{Numbered}
use Rattle.model.specs.Judge.{Rewriting, fitted}
use Rattle.file_format.specs.File.{file_of}
use Rattle.chart_lists.specs.Lists.{Lists, lists_of, put, overwritten}
use Rattle.chart_lists.specs.Holds.{Holds}
use Rattle.chart_lists.specs.declared.Header.{Header}
use Rattle.chart_lists.specs.Header.{header_of}
use Rattle.chart_lists.proofs.Begins.{begins_put}
use Rattle.list_judging.specs.FromLists.{chart_from}
use Rattle.list_judging.proofs.ValidFrom.{valid_from}
use Rattle.writer.specs.Writing.{write_into, write_answer}
use Rattle.rewriting.specs.Rewriting.{new_file, values_of}
use Rattle.rewriting.specs.Parts.{into_room, fitted_into}
use Rattle.rewriting.proofs.RewrittenLists.{with_names, with_timers, holds_rewritten, header_rewritten}
use Rattle.rewriting.proofs.Order.{fitted_into_lem}

-- ---- the writer, called on the renamed lists

module _ (N : Numbering) (c : Chart) (numbered : (i : ℕ) (r : Transition) → Nth c i r → Numbered N r.source r.tests)
    (storable : Storable (rewritten_by N c)) {m : Header} (is : m ≡ header_of c) {l : Lists} (held : Holds c l) {count : ℕ} (u : count ≡ N.used)
    (x y : List ℕ) {starts timers : List ℕ} (w : starts ≡ put (lists_of (rewritten_by N c)).starts x)
    (j : timers ≡ put (lists_of (rewritten_by N c)).timers y) where
  chart_from_lem : chart_from (with_timers m count) (with_names l starts timers) ≡ returned (rewritten_by N c)
  chart_from_lem =
      let h = holds_rewritten N c numbered storable.valid held (begins_put _ x w) (begins_put _ y j) in
      rw (header_rewritten N c is u) (valid_from (rewritten_by N c) storable (with_names l starts timers) h)

  pub write_into_lem : (room : ℕ) → write_into room (with_timers m count) (with_names l starts timers) ≡ into_room room (rewritten_by N c)
  unfolding write_into into_room
  write_into_lem room = rw chart_from_lem

  pub write_answer_lem : (room : ℕ) → write_answer room (with_timers m count) (with_names l starts timers)
      ≡ then (into_room room (rewritten_by N c)) (λ d. returned (length (file_of d)))
  unfolding write_answer
  write_answer_lem room = ap (λ (y : Answer Chart). then y (λ d. returned (length (file_of d)))) (write_into_lem room)

-- ---- what the writer answers of the rewritten chart is what the rewriting answers

-- the rewritten chart, with the timers that it uses
abbrev pub made : Chart → Rewriting
made c = record { used = used (reached_part c); chart = rewritten c }

module _ (K room : ℕ) (c : Chart) (e : returned (made c) ≡ fitted K c) where
  -- the timers used beside the length
  pub values_written : {w : Answer ℕ} {count : ℕ} → count ≡ used (reached_part c)
      → w ≡ then (into_room room (rewritten_by (board_numbering (reached_part c)) (spare_cleared c))) (λ d. returned (length (file_of d)))
      → then w (λ n. returned (record { used = count; length = n })) ≡ then (fitted_into K room c) (λ y. returned (values_of y))
  unfolding values_of into_room rewritten
  values_written u f = rw (u, f, fitted_into_lem K room c e) (go (leb (length (file_of (rewritten c))) room))
    where
      go : (b : Bool)
          → then (then (unless b 21 nowhere (returned (rewritten c))) (λ (d : Chart). returned (length (file_of d))))
          (λ (n : ℕ). returned (record { used = used (reached_part c); length = n }))
          ≡ then (unless b 21 nowhere (returned (made c))) (λ (y : Rewriting). returned (values_of y))
      go true = refl
      go false = refl

  pub buffer_written : (out : List ℕ)
      → overwritten file_of (into_room room (rewritten_by (board_numbering (reached_part c)) (spare_cleared c))) out
      ≡ overwritten new_file (fitted_into K room c) out
  unfolding into_room rewritten
  buffer_written out = rw (fitted_into_lem K room c e) (go (leb (length (file_of (rewritten c))) room))
    where
      go : (b : Bool)
          → overwritten file_of (unless b 21 nowhere (returned (rewritten c))) out
          ≡ overwritten new_file (unless b 21 nowhere (returned (made c))) out
      go true = refl
      go false = refl
