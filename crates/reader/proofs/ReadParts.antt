-- What the reader answers and leaves in the lent lists, from what its parts answer and leave.
use mathlib.Core.Path.{◌≡◌, sym, ap, ◌∙◌}
use mathlib.Core.Bool.{Bool, true, false}
use mathlib.Core.List.{List}
use Prim.Native.Nat.{ℕ}
use lib.ListN.{length}
use Rattle.model.specs.Answer.{Answer, returned, refused, nowhere}
use Rattle.model.specs.Chart.{Chart}
use Rattle.chart_lists.specs.declared.Header.{Header}
use Rattle.chart_lists.specs.Header.{header_of}
use Rattle.chart_lists.specs.Lists.{Lists, lists_of, put_lists, room_for}
use Rattle.file_format.specs.File.{chart_in}
use Rattle.file_judging.specs.Meaning.{ChartIs}
use Rattle.filling.specs.Filling.{header_read, RoomToFill}
use Rattle.filling.specs.Filling.RoomToFill.{for_this}
use Rattle.reader.specs.Reading.{read_into, read_answer, lists_after}
use Rattle.reader.specs.Parts.{enough}
use Rattle.reader.proofs.Lengths.{room_is}

module _ (s : List ℕ) (l : Lists) where
  -- the answer, and the lists afterwards
  abbrev pub Outcome : Answer Header → Lists → Type 0
  Outcome x after = (x ≡ read_answer l s) × (after ≡ lists_after (read_into l s) l)

  -- the lists have room
  abbrev pub enough_for : (a n g : ℕ) → Bool
  enough_for a n g =
      enough a n g (length l.accepting) (length l.sources) (length l.targets) (length l.events) (length l.starts)
      (length l.test_counts) (length l.timers) (length l.codes) (length l.constants)

  pub refused_file : {n p : ℕ} → chart_in s ≡ refused n p → Outcome (refused n p) l
  unfolding read_answer read_into
  refused_file e = (rw e, rw e)

  module _ {m : Header} {tests : ℕ} (h : ChartIs s m tests) where
    same_room : enough_for m.accepting m.transitions tests ≡ room_for (lists_of h.chart) l
    unfolding header_of
    same_room =
        let e₁ : m.accepting ≡ length h.chart.accepting = ap (λ (y : Header). y.accepting) h.header_is in
        let e₂ : m.transitions ≡ length h.chart.transitions = ap (λ (y : Header). y.transitions) h.header_is in
        rw (e₁, e₂, h.number_of_tests) (room_is h.chart l)

    pub refused_room : enough_for m.accepting m.transitions tests ≡ false → Outcome (refused 21 nowhere) l
    unfolding read_answer read_into
    refused_room e = let r = sym same_room ∙ e in (rw (h.is, r), rw (h.is, r))

    module _ (e : enough_for m.accepting m.transitions tests ≡ true) where
      pub room : RoomToFill s l
      room = for_this h.chart h.is (sym same_room ∙ e)

      pub read_done : {a : Answer Header} {after : Lists} → a ≡ header_read s
          → ((c : Chart) → chart_in s ≡ returned c → after ≡ put_lists (lists_of c) l) → Outcome a after
      unfolding header_read read_answer read_into
      read_done f g =
          let r = sym same_room ∙ e in
          let k = g h.chart h.is in
          (rw (h.is, r) (rw h.is at f), rw (h.is, r) k)
