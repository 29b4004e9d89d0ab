-- The charts of document 01, "Charts to try", and its cases marked ★: a list of questions with the replies that the document gives. That the
-- definitions give these replies is one statement, `starred_hold` in proofs/Starred.
use Rattle.std.specs.Prelude.{true, List, [], ◌∷◌, map, reverse, ℕ, suc}
use Rattle.comparison.specs.declared.Comparison.{Comparison}
use Rattle.comparison.specs.declared.Comparison.TheVariants.{AtMost, Below, AtLeast, Above, Equal}
use Rattle.lists.specs.Lists.{up_to}
use Rattle.model.specs.Answer.{Answer, returned, refused, nowhere}
use Rattle.model.specs.Chart.{Test, Transition, Chart}
use Rattle.model.specs.Version.{in_version}
use Rattle.model.specs.AnyOrder.{last_to_first}
use Rattle.model.specs.Live.{live_sets, live_rounds}
use Rattle.model.specs.Spare.{reached_part}
use Rattle.model.specs.Family.{family_number}
use Rattle.model.specs.FirstFit.{Placed, board, used_by}
use Rattle.model.specs.Floor.{floor}
use Rattle.model.specs.Judge.{Rewriting, rewriting}
use Rattle.model.specs.Player.{Arrival, played}

-- "s→t starts .. tests .."
unfoldable pub arrow : (s t : ℕ) → List ℕ → List Test → Transition
arrow s t starts tests = record { source = s; target = t; event = 0; starts = starts; tests = tests }

-- the same transition on event e; the document's arrows name no event, and have 0
unfoldable pub on_event : (e : ℕ) → Transition → Transition
on_event e r = record { source = r.source; target = r.target; event = e; starts = r.starts; tests = r.tests }

-- "tests j at least k" and its like
unfoldable pub test : ℕ → Comparison → ℕ → Test
test j x k = record { timer = j; comparison = x; constant = k }

-- "location 0 is initial and the last one accepts"; of version 1
unfoldable pub drawn : (locations last timers : ℕ) → List Transition → Chart
drawn n last m rs = record { version = 1; locations = n; initial = 0; timers = m; accepting = last ∷ []; transitions = rs }

-- chart A of the document
unfoldable pub A : Chart
A = drawn 7 6 3 (
    arrow 0 1 (0 ∷ []) []
    ∷ arrow 1 2 (1 ∷ []) []
    ∷ arrow 2 3 (2 ∷ []) (test 0 AtLeast 3 ∷ [])
    ∷ arrow 2 4 (2 ∷ []) (test 1 AtMost 7 ∷ [])
    ∷ arrow 3 5 [] (test 1 Below 9 ∷ [])
    ∷ arrow 4 5 [] (test 0 Equal 4 ∷ [])
    ∷ arrow 5 6 [] (test 2 Above 2 ∷ [])
    ∷ [])

-- chart B
unfoldable pub B : Chart
B = drawn 4 3 2 (
    arrow 0 1 (0 ∷ []) []
    ∷ arrow 1 2 (1 ∷ []) (test 0 AtMost 2 ∷ [])
    ∷ arrow 2 3 [] (test 1 AtLeast 1 ∷ [])
    ∷ [])

-- chart C
unfoldable pub C : Chart
C = drawn 6 5 2 (
    arrow 0 1 (1 ∷ []) []
    ∷ arrow 1 2 (0 ∷ []) []
    ∷ arrow 2 3 [] (test 0 AtLeast 1 ∷ [])
    ∷ arrow 3 4 (0 ∷ []) (test 1 AtMost 9 ∷ [])
    ∷ arrow 4 5 [] (test 0 AtLeast 2 ∷ [])
    ∷ [])

-- "one location, 0→0 starting timer 0, no tests"
unfoldable pub self_loop : Chart
self_loop = drawn 1 0 1 (arrow 0 0 (0 ∷ []) [] ∷ [])

-- "two locations, 0→0 starts 0; 0→1 tests 0 at least 0"
unfoldable pub never_started : Chart
never_started = drawn 2 1 1 (arrow 0 0 (0 ∷ []) [] ∷ arrow 0 1 [] (test 0 AtLeast 0 ∷ []) ∷ [])

-- "0→1 starting 0, 1→2 testing and starting 0, 2→3 testing 0"
unfoldable pub restart : Chart
restart = drawn 4 3 1 (
    arrow 0 1 (0 ∷ []) []
    ∷ arrow 1 2 (0 ∷ []) (test 0 AtMost 1 ∷ [])
    ∷ arrow 2 3 [] (test 0 AtMost 1 ∷ [])
    ∷ [])

-- the only start of the tested timer is on the transition that tests it
unfoldable pub own_start : Chart
own_start = drawn 2 1 1 (arrow 0 1 (0 ∷ []) (test 0 AtLeast 0 ∷ []) ∷ [])

-- on event 7 timer 1 is started, on event 255 it is tested
unfoldable pub two_events : Chart
two_events = drawn 3 2 2 (on_event 7 (arrow 0 1 (1 ∷ []) []) ∷ on_event 255 (arrow 1 2 [] (test 1 AtLeast 3 ∷ [])) ∷ [])

-- first fit uses a timer more than the fewest: it gives the last of four families 2, where 0 and 1 are enough
unfoldable pub above_floor : Chart
above_floor = drawn 5 4 3 (
    arrow 0 3 (0 ∷ 1 ∷ []) []
    ∷ arrow 3 1 [] (test 0 AtMost 3 ∷ [])
    ∷ arrow 3 4 (2 ∷ []) []
    ∷ arrow 4 2 (0 ∷ []) (test 1 AtMost 5 ∷ [])
    ∷ arrow 2 1 [] (test 0 AtMost 3 ∷ test 2 AtMost 9 ∷ [])
    ∷ [])

-- so many families that meet no other: each transition of a chain tests the timer and starts it anew
unfoldable pub lone : (families : ℕ) → Chart
lone n = drawn (suc (suc n)) (suc n) 1
    (arrow 0 1 (0 ∷ []) [] ∷ up_to (λ i. arrow (suc i) (suc (suc i)) (0 ∷ []) (test 0 AtLeast 0 ∷ [])) n)

-- timers 0 and 1 are twins
unfoldable pub started_together : Chart
started_together = drawn 4 3 2 (
    arrow 0 1 (0 ∷ 1 ∷ []) []
    ∷ arrow 1 2 [] (test 0 AtLeast 2 ∷ [])
    ∷ arrow 2 3 [] (test 1 AtMost 9 ∷ [])
    ∷ [])

-- timers 0 and 2 are twins, and timer 0 is tested nowhere
unfoldable pub lowest_untested : Chart
lowest_untested = drawn 4 3 3 (
    arrow 0 2 (0 ∷ 2 ∷ []) []
    ∷ arrow 2 1 (1 ∷ []) []
    ∷ arrow 1 3 [] (test 1 AtMost 4 ∷ test 2 AtMost 4 ∷ [])
    ∷ [])

-- B rewritten: transition 1 tests board timer 0 and then starts it
unfoldable pub B' : Chart
B' = drawn 4 3 1 (
    arrow 0 1 (0 ∷ []) []
    ∷ arrow 1 2 (0 ∷ []) (test 0 AtMost 2 ∷ [])
    ∷ arrow 2 3 [] (test 0 AtLeast 1 ∷ [])
    ∷ [])

-- C rewritten: drawn timer 0 becomes 1 first and 0 later
unfoldable pub C' : Chart
C' = drawn 6 5 2 (
    arrow 0 1 (0 ∷ []) []
    ∷ arrow 1 2 (1 ∷ []) []
    ∷ arrow 2 3 [] (test 1 AtLeast 1 ∷ [])
    ∷ arrow 3 4 (0 ∷ []) (test 0 AtMost 9 ∷ [])
    ∷ arrow 4 5 [] (test 0 AtLeast 2 ∷ [])
    ∷ [])

-- the chart with twins rewritten: both read board timer 0, which is started once
unfoldable pub started_together' : Chart
started_together' = drawn 4 3 1 (
    arrow 0 1 (0 ∷ []) []
    ∷ arrow 1 2 [] (test 0 AtLeast 2 ∷ [])
    ∷ arrow 2 3 [] (test 0 AtMost 9 ∷ [])
    ∷ [])

-- the self-loop rewritten: nothing is live, so nothing is started
unfoldable pub self_loop' : Chart
self_loop' = drawn 1 0 0 (arrow 0 0 [] [] ∷ [])

-- the chart with events rewritten: timer 1 becomes 0, the events stay
unfoldable pub two_events' : Chart
two_events' = drawn 3 2 1 (on_event 7 (arrow 0 1 (0 ∷ []) []) ∷ on_event 255 (arrow 1 2 [] (test 0 AtLeast 3 ∷ [])) ∷ [])

-- of version 2: a test of timer 1 with a constant that two bytes do not hold
unfoldable pub long_dwell : Chart
long_dwell = in_version 2 (drawn 3 2 2 (arrow 0 1 (1 ∷ []) [] ∷ arrow 1 2 [] (test 1 AtLeast 65537 ∷ []) ∷ []))

-- of version 2: at location 1 a test of timer 0 with a constant above every count, and one with the largest constant
unfoldable pub beyond_counts : Chart
beyond_counts = in_version 2 (drawn 3 2 1 (
    arrow 0 1 (0 ∷ []) []
    ∷ arrow 1 2 [] (test 0 AtLeast 33554431 ∷ [])
    ∷ arrow 1 2 [] (test 0 AtMost 4294967295 ∷ [])
    ∷ []))

-- the chart with timer 1 rewritten: timer 1 becomes 0, the constant and the version stay
unfoldable pub long_dwell' : Chart
long_dwell' = in_version 2 (drawn 3 2 1 (arrow 0 1 (0 ∷ []) [] ∷ arrow 1 2 [] (test 0 AtLeast 65537 ∷ []) ∷ []))

-- of version 3: no path reaches location 4; timers 0 and 1 are twins though its transition starts only 0
unfoldable pub with_spare : Chart
with_spare = in_version 3 (drawn 5 3 2 (
    arrow 0 1 (0 ∷ 1 ∷ []) []
    ∷ arrow 1 2 [] (test 0 AtLeast 2 ∷ [])
    ∷ on_event 9 (arrow 4 1 (0 ∷ []) (test 1 AtMost 5 ∷ []))
    ∷ arrow 2 3 [] (test 1 AtMost 9 ∷ [])
    ∷ []))

-- the same rewritten: the transition that leaves location 4 keeps its ends and its event alone
unfoldable pub with_spare' : Chart
with_spare' = in_version 3 (drawn 5 3 1 (
    arrow 0 1 (0 ∷ []) []
    ∷ arrow 1 2 [] (test 0 AtLeast 2 ∷ [])
    ∷ on_event 9 (arrow 4 1 [] [])
    ∷ arrow 2 3 [] (test 0 AtMost 9 ∷ [])
    ∷ []))

-- of version 3: nothing starts the timer that the transition from the spare location 2 tests
unfoldable pub spare_unstarted : Chart
spare_unstarted = in_version 3 (drawn 3 1 1 (arrow 0 1 [] [] ∷ arrow 2 1 [] (test 0 AtLeast 0 ∷ []) ∷ []))

-- the same rewritten
unfoldable pub spare_unstarted' : Chart
spare_unstarted' = in_version 3 (drawn 3 1 0 (arrow 0 1 [] [] ∷ arrow 2 1 [] [] ∷ []))

-- what a case asks of a chart
pub data Question : Type 0 where
  live_sets_lem : Chart → Question
  round_count : Chart → Question
  numbers : Chart → Question
  rewrite : Chart → (K : ℕ) → Question
  play : Chart → (counts transitions times : List ℕ) → Question

-- what the document answers
pub data Reply : Type 0 where
  sets : List ℕ → Reply
  count : ℕ → Reply
  given : List (ℕ × ℕ) → (used floor : ℕ) → Reply
  rewriting_is : Answer Rewriting → Reply
  played_is : Answer Arrival → Reply

-- the families' numbers with their board numbers, rising
unfoldable pub board_numbers : List Placed → List (ℕ × ℕ)
board_numbers ps = reverse (map (λ g. (family_number g.family, g.number)) ps)

-- what the definitions answer
unfoldable pub ask : Question → Reply
ask (live_sets_lem c) = sets (live_sets (reached_part c))
ask (round_count c) = count (live_rounds (reached_part c))
ask (numbers c) = let part = reached_part c in let placed = board part in given (board_numbers placed) (used_by placed) (floor part)
ask (rewrite c k) = rewriting_is (rewriting k c)
ask (play c v is ts) = played_is (played c v is ts)

-- a question with the reply that the document gives
pub record Case : Type 0 where
  pub question : Question
  pub reply : Reply

-- the same in short
unfoldable pub case : Question → Reply → Case
case q r = record { question = q; reply = r }

-- the cases, in the document's order; A's floor is 3 by document 02. A set is a word: {0} is 1, {0,1} is 3, {1,2} is 6, {0,2} is 5, {2} is 4
unfoldable pub starred : List Case
starred =
    case (live_sets_lem A) (sets (0 ∷ 1 ∷ 3 ∷ 6 ∷ 5 ∷ 4 ∷ 0 ∷ []))
    ∷ case (numbers A) (given ((64, 0) ∷ (129, 1) ∷ (194, 2) ∷ []) 3 3)
    ∷ case (rewrite A 3) (rewriting_is (returned (record { used = 3; chart = A })))
    ∷ case (rewrite A 2) (rewriting_is (refused 20 nowhere))
    ∷ case (rewrite B 16) (rewriting_is (returned (record { used = 1; chart = B' })))
    ∷ case (numbers C) (given ((65, 0) ∷ (128, 1) ∷ (256, 0) ∷ []) 2 2)
    ∷ case (rewrite C 2) (rewriting_is (returned (record { used = 2; chart = C' })))
    ∷ case (rewrite self_loop 0) (rewriting_is (returned (record { used = 0; chart = self_loop' })))
    ∷ case (rewrite never_started 64) (rewriting_is (refused 10 1))
    ∷ case (play B (0 ∷ 0 ∷ []) (0 ∷ 1 ∷ 2 ∷ []) (5 ∷ 7 ∷ 8 ∷ [])) (played_is (returned (record { location = 3; time = 8; accepting = true })))
    ∷ case (play B (0 ∷ 0 ∷ []) (0 ∷ 1 ∷ []) (5 ∷ 8 ∷ [])) (played_is (refused 24 1))
    ∷ []

-- what "goes wrong unnoticed", beside the cases above: a timer started anew begins a family of its own; a start on the same transition does not
-- come before its test, neither where it is judged nor where it is played; an event is kept, which is 0 in all charts above; and, by document 02,
-- first fit's used is not the floor, a constant over 65,535 is kept and compared as it is, the last round is counted, a round reads only the round
-- before (sweeps in place over A, written last to first, would be 2), twins share a number that is started once, the lowest twin names the family
-- though it is live nowhere, and of version 3 a location that no path reaches has no live timer, tells no twins apart, is in no family, has no
-- unstarted test, and its transitions stay without starts and tests
unfoldable pub unnoticed : List Case
unnoticed =
    case (numbers restart) (given ((64, 0) ∷ (128, 0) ∷ []) 1 1)
    ∷ case (numbers above_floor) (given ((128, 0) ∷ (130, 1) ∷ (192, 0) ∷ (193, 2) ∷ []) 3 2)
    ∷ case (rewrite own_start 64) (rewriting_is (refused 10 0))
    ∷ case (play B' (0 ∷ []) (0 ∷ 1 ∷ []) (5 ∷ 8 ∷ [])) (played_is (refused 24 1))
    ∷ case (rewrite two_events 1) (rewriting_is (returned (record { used = 1; chart = two_events' })))
    ∷ case (rewrite long_dwell 1) (rewriting_is (returned (record { used = 1; chart = long_dwell' })))
    ∷ case (play long_dwell (0 ∷ 0 ∷ []) (0 ∷ 1 ∷ []) (10 ∷ 65546 ∷ [])) (played_is (refused 24 1))
    ∷ case (play long_dwell (0 ∷ 0 ∷ []) (0 ∷ 1 ∷ []) (10 ∷ 65547 ∷ []))
    (played_is (returned (record { location = 2; time = 65547; accepting = true })))
    ∷ case (play beyond_counts (16777215 ∷ []) (0 ∷ 1 ∷ []) (0 ∷ 16777215 ∷ [])) (played_is (refused 24 1))
    ∷ case (play beyond_counts (16777215 ∷ []) (0 ∷ 2 ∷ []) (0 ∷ 16777215 ∷ []))
    (played_is (returned (record { location = 2; time = 16777215; accepting = true })))
    ∷ case (round_count A) (count 3)
    ∷ case (round_count B) (count 2)
    ∷ case (round_count C) (count 4)
    ∷ case (round_count self_loop) (count 1)
    ∷ case (round_count (last_to_first A)) (count 3)
    ∷ case (numbers started_together) (given ((64, 0) ∷ []) 1 1)
    ∷ case (rewrite started_together 1) (rewriting_is (returned (record { used = 1; chart = started_together' })))
    ∷ case (rewrite started_together 0) (rewriting_is (refused 20 nowhere))
    ∷ case (numbers lowest_untested) (given ((64, 0) ∷ (65, 1) ∷ []) 2 2)
    ∷ case (live_sets_lem with_spare) (sets (0 ∷ 3 ∷ 2 ∷ 0 ∷ 0 ∷ []))
    ∷ case (round_count with_spare) (count 3)
    ∷ case (numbers with_spare) (given ((64, 0) ∷ []) 1 1)
    ∷ case (rewrite with_spare 1) (rewriting_is (returned (record { used = 1; chart = with_spare' })))
    ∷ case (rewrite (in_version 2 with_spare) 1) (rewriting_is (refused 9 4))
    ∷ case (rewrite spare_unstarted 0) (rewriting_is (returned (record { used = 0; chart = spare_unstarted' })))
    ∷ case (rewrite (in_version 2 spare_unstarted) 0) (rewriting_is (refused 9 2))
    ∷ []
