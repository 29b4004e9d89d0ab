-- The reader refuses with 1 to 8, at the places that these have, and with 21 at no place; with nothing else.
use mathlib.Core.Path.{◌≡◌, refl}
use mathlib.Core.Logic.{inl, inr}
use mathlib.Core.List.{List}
use Prim.Native.Nat.{ℕ, ◌≤◌}
use native.Mathlib.Omega.{arith}
use Rattle.model.specs.Answer.{returned, refused, nowhere}
use Rattle.chart_lists.specs.Header.{header_of}
use Rattle.chart_lists.specs.Lists.{Lists, lists_of, room_for}
use Rattle.file_format.specs.File.{chart_in}
use Rattle.model.specs.Refusals.{Refuses}
use Rattle.model.proofs.Answers.{refuses_result, refuses_unless, refuses_then}
use Rattle.file_format.proofs.Refusals.{refusals_of_chart_in}
use Rattle.reader.specs.Reading.{read_into, read_answer}
use Rattle.reader.specs.Refusals.{RefusalOfReading}

into_refuses : (l : Lists) (bs : List ℕ) → Refuses RefusalOfReading (read_into l bs)
unfolding read_into
into_refuses l bs =
    refuses_then (chart_in bs) _ (record { only = λ n p e. inl (refusals_of_chart_in bs n p e) }) (λ c e.
    refuses_unless (room_for (lists_of c) l) 21 nowhere (returned c) (λ e. inr (refl, refl)) (λ e. refuses_result c))

module _ (l : Lists) (bs : List ℕ) (n p : ℕ) where
  pub refusals_of_reading : read_answer l bs ≡ refused n p → RefusalOfReading n p
  unfolding read_answer
  refusals_of_reading = (refuses_then (read_into l bs) _ (into_refuses l bs) (λ c e. refuses_result (header_of c))).only n p

-- 17 is the writer's, 18 the counter board's
pub never_17_or_18 : (l : Lists) (bs : List ℕ) (n p : ℕ) → 17 ≤ n → n ≤ 18 → read_answer l bs ≡ refused n p → ⊥
never_17_or_18 l bs n p lo hi e = go (refusals_of_reading l bs n p e)
  where
    go : RefusalOfReading n p → ⊥
    go (inl r) = omega (arith, r.last_number)
    go (inr h) = omega (arith, h.0)
