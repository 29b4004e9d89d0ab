-- Without the number of rounds the analysis' answer is formed as before. Nothing is hard: by the two answers there are. Assumes nothing.
use mathlib.Core.Path.{◌≡◌, refl}
use mathlib.Core.List.{List}
use Prim.Native.Nat.{ℕ}
use Rattle.model.specs.Answer.{Answer, returned, refused, then}
use Rattle.model.specs.Chart.{Chart}
use Rattle.model.specs.Spare.{reached_part}
use Rattle.model.specs.FirstFit.{used}
use Rattle.model.specs.Floor.{floor, searched}
use Rattle.analysis.specs.Analysing.{values_of, analysed_in, analyse_answer}
use Rattle.analysis.specs.Before.{answer_before, without_rounds}

pub answers_as_before : (room : ℕ) (bs : List ℕ) → then (analyse_answer room bs) (λ f. returned (without_rounds f)) ≡ answer_before room bs
unfolding analyse_answer answer_before values_of without_rounds
answers_as_before room bs = go (analysed_in room bs)
  where
    go : (x : Answer Chart) → then (then x (λ c. returned (values_of c))) (λ f. returned (without_rounds f))
        ≡ then x (λ c. let part = reached_part c in returned (record { used = used part; floor = floor part; searched = searched part }))
    go (returned c) = refl
    go (refused n p) = refl
