-- What the analysis answers and leaves of a file, on plain values: by the judgement's answer, and by the room that is lent. By cases.
use mathlib.Core.Path.{◌≡◌}
use mathlib.Core.Bool.{Bool}
use mathlib.Core.List.{List, ◌++◌}
use Prim.Native.Nat.{ℕ, ◌≤◌, ◌<◌}
use lib.ListN.{length, drop}
use borrow.Author.Tests.{le-leb, lt-leb}
use Rattle.model.specs.Answer.{returned, refused, nowhere}
use Rattle.model.specs.Chart.{Chart}
use Rattle.model.specs.Live.{live_sets, live_rounds}
use Rattle.model.specs.Spare.{reached_part}
use Rattle.model.specs.FirstFit.{used}
use Rattle.model.specs.Floor.{floor, searched}
use Rattle.chart_lists.specs.Lists.{put, overwritten}
use Rattle.judgement.specs.Judging.{judged_in}
use Rattle.analysis.specs.Analysing.{values_of, analysed_sets, analysed_chart, analysed_in, analyse_answer}

module _ (c : Chart) (room : ℕ) where
  pub short : room < c.locations → analysed_chart room c ≡ refused 21 nowhere
  unfolding analysed_chart
  short h = rw (lt-leb c.locations room h)

  pub long_enough_lem : c.locations ≤ room → analysed_chart room c ≡ returned c
  unfolding analysed_chart
  long_enough_lem h = rw (le-leb c.locations room h)

-- sets that are copied to the front of the lent list stand over it
pub copied : {sets front : List ℕ} (live : List ℕ) {m : ℕ} → length sets ≡ m → front ≡ sets → front ++ drop m live ≡ put sets live
unfolding put
copied live l e = rw (e, l)

module _ (bs before : List ℕ) where
  -- a refusal of the judgement stands
  module _ {n p : ℕ} (e : judged_in bs ≡ refused n p) where
    pub refused_answer : refused n p ≡ analyse_answer (length before) bs
    unfolding analyse_answer analysed_in
    refused_answer = rw e

    pub refused_list : before ≡ overwritten analysed_sets (analysed_in (length before) bs) before
    unfolding analysed_in
    refused_list = rw e

  module _ {c : Chart} (e : judged_in bs ≡ returned c) where
    -- 21
    module _ (h : length before < c.locations) where
      pub short_answer : refused 21 nowhere ≡ analyse_answer (length before) bs
      unfolding analyse_answer analysed_in
      short_answer = rw (e, short c (length before) h)

      pub short_list : before ≡ overwritten analysed_sets (analysed_in (length before) bs) before
      unfolding analysed_in
      short_list = rw (e, short c (length before) h)

    -- the values of the part that counts, and its live sets over the front
    module _ (h : c.locations ≤ length before) where
      pub found_answer : {u f n : ℕ} {s : Bool} → u ≡ used (reached_part c) → f ≡ floor (reached_part c) → s ≡ searched (reached_part c)
          → n ≡ live_rounds (reached_part c)
          → returned (record { used = u; floor = f; searched = s; rounds = n }) ≡ analyse_answer (length before) bs
      unfolding analyse_answer analysed_in values_of
      found_answer x y z n = rw (e, long_enough_lem c (length before) h, x, y, z, n)

      pub found_list : {after sets : List ℕ} → sets ≡ live_sets (reached_part c) → after ≡ put sets before
          → after ≡ overwritten analysed_sets (analysed_in (length before) bs) before
      unfolding analysed_in analysed_sets
      found_list l x = rw (e, long_enough_lem c (length before) h, x, l)
