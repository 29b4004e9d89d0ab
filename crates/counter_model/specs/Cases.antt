-- Calls to try, on files, with the replies that document 02, P5 and P7, gives. That the definitions give these replies is one statement, `cases_hold`
-- in proofs/Cases.
use Rattle.std.specs.Prelude.{Bool, true, false, List, [], ◌∷◌, ℕ}
use Rattle.comparison.specs.declared.Comparison.TheVariants.{AtMost, Below, AtLeast, Above, Equal}
use Rattle.model.specs.Answer.{Answer, returned, refused, nowhere}
use Rattle.model.specs.Chart.{Chart}
use Rattle.model.specs.Version.{in_version}
use Rattle.model.specs.Cases.{arrow, test, drawn, B, never_started, restart, spare_unstarted}
use Rattle.file_format.specs.File.{file_of}
use Rattle.counter_model.specs.CounterPlayer.{CounterArrival, counter_answer}

-- what is handed in
pub record Question : Type 0 where
  pub file : List ℕ
  pub counts : List ℕ
  pub transitions : List ℕ
  pub first : ℕ
  pub readings : List ℕ

unfoldable pub ask : Question → Answer CounterArrival
ask q = counter_answer q.file q.counts q.transitions q.first q.readings

pub record Case : Type 0 where
  pub question : Question
  pub reply : Answer CounterArrival

-- the file of a chart, starting counts, transitions, the reading at tick 0, the readings at the steps; and the reply
unfoldable pub case : Chart → (counts transitions : List ℕ) → (first : ℕ) → (readings : List ℕ) → Answer CounterArrival → Case
case c v is first rs a = record {
  question = record { file = file_of c; counts = v; transitions = is; first = first; readings = rs };
  reply = a;
}

unfoldable pub arrived : (location : ℕ) → (accepting : Bool) → Answer CounterArrival
arrived q b = returned (record { location = q; accepting = b })

-- ---- charts

-- 0→1 starts 0; 1→2; 2→3 three times: it tests 0 above the constant, equal to it, at most it
unfoldable pub three_tests : (version constant : ℕ) → Chart
three_tests version k = in_version version (drawn 4 3 1 (
    arrow 0 1 (0 ∷ []) []
    ∷ arrow 1 2 [] []
    ∷ arrow 2 3 [] (test 0 Above k ∷ [])
    ∷ arrow 2 3 [] (test 0 Equal k ∷ [])
    ∷ arrow 2 3 [] (test 0 AtMost k ∷ [])
    ∷ []))

-- of version 2: 0→1 starts 0; 1→2; 1→2 tests 0 below 0, which no count is, and at most 65,536
unfoldable pub large_unmet : Chart
large_unmet = in_version 2 (drawn 3 2 1 (
    arrow 0 1 (0 ∷ []) []
    ∷ arrow 1 2 [] []
    ∷ arrow 1 2 [] (test 0 Below 0 ∷ test 0 AtMost 65536 ∷ [])
    ∷ []))

-- of version 3: no path reaches location 2, and the test on the transition that leaves it has the only constant over 65,535
unfoldable pub large_spare : Chart
large_spare = in_version 3 (drawn 3 1 1 (arrow 0 1 [] [] ∷ arrow 2 1 [] (test 0 AtLeast 65536 ∷ []) ∷ []))

-- ---- the calls

-- the ticks passed
unfoldable pub passed : List Case
passed =
    -- 5, 2 and 1 ticks pass; the counter wraps between the first two steps
    case B (7 ∷ 7 ∷ []) (0 ∷ 1 ∷ 2 ∷ []) 65530 (65535 ∷ 1 ∷ 2 ∷ []) (arrived 3 true)
    -- 3 ticks are too many for transition 1
    ∷ case B (7 ∷ 7 ∷ []) (0 ∷ 1 ∷ []) 0 (5 ∷ 8 ∷ []) (refused 24 1)
    -- a reading one lower than the last: 65,535 ticks pass, and nothing is refused 23
    ∷ case B (7 ∷ 7 ∷ []) (0 ∷ 1 ∷ []) 0 (5 ∷ 4 ∷ []) (refused 24 1)
    -- no steps
    ∷ case B (7 ∷ 7 ∷ []) [] 0 [] (arrived 0 false)
    -- a timer that is started anew is 0 again: it is 1 at both tests
    ∷ case restart (0 ∷ []) (0 ∷ 1 ∷ 2 ∷ []) 0 (10 ∷ 11 ∷ 12 ∷ []) (arrived 3 true)
    -- and rises again: it is 2 at the second
    ∷ case restart (0 ∷ []) (0 ∷ 1 ∷ 2 ∷ []) 0 (10 ∷ 11 ∷ 13 ∷ []) (refused 24 2)
    -- the largest starting count stops rising at once, and is 0 after the start
    ∷ case restart (16777215 ∷ []) (0 ∷ 1 ∷ 2 ∷ []) 0 (65535 ∷ 0 ∷ 1 ∷ []) (arrived 3 true)
    ∷ []

-- where counts stop
unfoldable pub stopped : List Case
stopped =
    -- 80,000 ticks after the start the count is 65,536: above 65,535, not equal to it, not at most it
    case (three_tests 1 65535) (0 ∷ []) (0 ∷ 1 ∷ 2 ∷ []) 0 (0 ∷ 40000 ∷ 14464 ∷ []) (arrived 3 true)
    ∷ case (three_tests 1 65535) (0 ∷ []) (0 ∷ 1 ∷ 3 ∷ []) 0 (0 ∷ 40000 ∷ 14464 ∷ []) (refused 24 2)
    ∷ case (three_tests 1 65535) (0 ∷ []) (0 ∷ 1 ∷ 4 ∷ []) 0 (0 ∷ 40000 ∷ 14464 ∷ []) (refused 24 2)
    -- 65,535 ticks after it
    ∷ case (three_tests 1 65535) (0 ∷ []) (0 ∷ 1 ∷ 2 ∷ []) 0 (0 ∷ 65535 ∷ 65535 ∷ []) (refused 24 2)
    ∷ case (three_tests 1 65535) (0 ∷ []) (0 ∷ 1 ∷ 3 ∷ []) 0 (0 ∷ 65535 ∷ 65535 ∷ []) (arrived 3 true)
    ∷ case (three_tests 1 65535) (0 ∷ []) (0 ∷ 1 ∷ 4 ∷ []) 0 (0 ∷ 65535 ∷ 65535 ∷ []) (arrived 3 true)
    -- 65,536 ticks after it
    ∷ case (three_tests 1 65535) (0 ∷ []) (0 ∷ 1 ∷ 2 ∷ []) 0 (0 ∷ 65535 ∷ 0 ∷ []) (arrived 3 true)
    ∷ case (three_tests 1 65535) (0 ∷ []) (0 ∷ 1 ∷ 3 ∷ []) 0 (0 ∷ 65535 ∷ 0 ∷ []) (refused 24 2)
    ∷ case (three_tests 1 65535) (0 ∷ []) (0 ∷ 1 ∷ 4 ∷ []) 0 (0 ∷ 65535 ∷ 0 ∷ []) (refused 24 2)
    ∷ []

-- the refusals, in their order
unfoldable pub refused_calls : List Case
refused_calls =
    -- 10 of the chart, before 12 and 13
    case never_started [] (0 ∷ []) 0 [] (refused 10 1)
    -- the largest starting count, and one over it
    ∷ case (three_tests 1 65535) (16777215 ∷ []) (0 ∷ []) 100 (50 ∷ []) (arrived 1 false)
    ∷ case (three_tests 1 65535) (16777216 ∷ []) (0 ∷ []) 100 (50 ∷ []) (refused 12 0)
    -- no count for the timer
    ∷ case (three_tests 1 65535) [] (0 ∷ []) 100 (50 ∷ []) (refused 12 nowhere)
    -- a reading too few, and one too many: the reading at tick 0 is none of the list
    ∷ case (three_tests 1 65535) (0 ∷ []) (0 ∷ []) 100 [] (refused 13 nowhere)
    ∷ case (three_tests 1 65535) (0 ∷ []) (0 ∷ []) 100 (100 ∷ 50 ∷ []) (refused 13 nowhere)
    -- a constant of 65,536: after 12 and 13, before 14, and without any step
    ∷ case (three_tests 2 65536) [] (0 ∷ []) 100 [] (refused 12 nowhere)
    ∷ case (three_tests 2 65536) (0 ∷ []) (0 ∷ []) 100 [] (refused 13 nowhere)
    ∷ case (three_tests 2 65536) (0 ∷ []) (5 ∷ []) 100 (50 ∷ []) (refused 18 nowhere)
    ∷ case (three_tests 2 65536) (0 ∷ []) [] 100 [] (refused 18 nowhere)
    -- on a transition that nobody can take
    ∷ case large_unmet (0 ∷ []) (0 ∷ 1 ∷ []) 100 (150 ∷ 200 ∷ []) (refused 18 nowhere)
    -- on a transition that leaves a spare location; below version 3 the chart is refused 9, before 12 and 13
    ∷ case large_spare (0 ∷ []) (0 ∷ []) 100 (150 ∷ []) (refused 18 nowhere)
    ∷ case (in_version 2 large_spare) [] (0 ∷ []) 100 [] (refused 9 2)
    -- no constant is over 65,535, beside a spare location with an unstarted test
    ∷ case spare_unstarted (0 ∷ []) (0 ∷ []) 100 (150 ∷ []) (arrived 1 true)
    -- nor in a file of version 2
    ∷ case (three_tests 2 65535) (0 ∷ []) (0 ∷ 1 ∷ 2 ∷ []) 0 (0 ∷ 40000 ∷ 14464 ∷ []) (arrived 3 true)
    -- step 1 has no transition; step 2 would be refused 22
    ∷ case B (0 ∷ 0 ∷ []) (0 ∷ 3 ∷ 0 ∷ []) 0 (0 ∷ 0 ∷ 0 ∷ []) (refused 14 1)
    -- step 1 does not leave location 1, and its test is not met either
    ∷ case B (0 ∷ 0 ∷ []) (0 ∷ 2 ∷ []) 0 (0 ∷ 0 ∷ []) (refused 22 1)
    -- step 1 leaves it, and its test is not met
    ∷ case B (0 ∷ 0 ∷ []) (0 ∷ 1 ∷ []) 0 (0 ∷ 3 ∷ []) (refused 24 1)
    ∷ []
