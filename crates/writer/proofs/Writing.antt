-- What the writer answers, and what it leaves in the buffer, by what the judgement of the chart gives.
use mathlib.Core.Path.{◌≡◌, sym, ap}
use mathlib.Core.List.{List}
use Prim.Native.Nat.{ℕ, ◌≤◌, ◌<◌}
use lib.ListN.{length}
use borrow.Author.Tests.{le-leb, lt-leb}
use Rattle.model.specs.Answer.{returned, refused, nowhere}
use Rattle.model.specs.Chart.{Chart}
use Rattle.file_format.specs.File.{file_of}
use Rattle.chart_lists.specs.Lists.{Lists, overwritten}
use Rattle.chart_lists.specs.declared.Header.{Header}
use Rattle.list_judging.specs.FromLists.{chart_from}
use Rattle.list_judging.specs.Parts.{check_chart}
use Rattle.model.proofs.Answers.{kept_result, kept_refused}
use Rattle.writer.specs.Bytes.{Writable}
use Rattle.writer.specs.Writing.{write_into, write_answer}

module _ (room : ℕ) (m : Header) (l : Lists) (out : List ℕ) where
  pub write_refused : {n p : ℕ} → check_chart m l ≡ refused n p
      → (write_answer room m l ≡ refused n p) × (overwritten file_of (write_into room m l) out ≡ out)
  unfolding check_chart write_answer write_into
  write_refused e = let h = kept_refused (chart_from m l) _ e in (rw h, rw h)

  module _ {n : ℕ} (e : check_chart m l ≡ returned n) where
    judged : (c : Chart) × (chart_from m l ≡ returned c) × (length (file_of c) ≡ n)
    unfolding check_chart
    judged = kept_result (chart_from m l) _ e

    pub write_short : room < n → (write_answer room m l ≡ refused 21 nowhere) × (overwritten file_of (write_into room m l) out ≡ out)
    unfolding write_answer write_into
    write_short h =
        let c = judged in
        let t = lt-leb (length (file_of c.0)) room (rw c.2 h) in
        (rw (c.1, t), rw (c.1, t))

    module _ (h : n ≤ room) where
      pub write_writable : Writable m l n room
      write_writable = record { chart = judged.0; is = judged.1; size = sym judged.2; fits = h }

      pub write_done : (write_answer room m l ≡ returned n)
          × (overwritten file_of (write_into room m l) out ≡ overwritten file_of (chart_from m l) out)
      unfolding write_answer write_into
      write_done =
          let c = judged in
          let t = le-leb (length (file_of c.0)) room (rw c.2 h) in
          (rw (c.1, t) (ap returned c.2), rw (c.1, t))
