-- Calls to try, on files, with the replies that document 02, P4 and P7, gives. That the definitions give these replies is one statement, `cases_hold`
-- in proofs/Cases.
use Rattle.std.specs.Prelude.{List, [], ◌∷◌, ◌++◌, map, ℕ, length, take, replicate}
use Rattle.comparison.specs.declared.Comparison.TheVariants.{AtLeast, Below}
use Rattle.lists.specs.Lists.{up_to}
use Rattle.model.specs.Answer.{Answer, returned, refused, then, nowhere}
use Rattle.model.specs.Chart.{Chart}
use Rattle.model.specs.Version.{in_version}
use Rattle.model.specs.Cases.{arrow, test, drawn, B, self_loop, never_started, two_events, spare_unstarted}
use Rattle.file_format.specs.Parse.{write_all}
use Rattle.file_format.specs.File.{file_of}
use Rattle.controller_model.specs.declared.Head.{Head}
use Rattle.controller_model.specs.declared.Controller.{Controller}
use Rattle.controller_model.specs.declared.Heads.{Heads}
use Rattle.controller_model.specs.declared.Parts.{Parts}
use Rattle.controller_model.specs.Serving.{standing, head_at, Report, received, nothing, none_taken, taken}
use Rattle.controller_model.specs.Controlling.{Call, event, turn, set_up, called, state_after}

-- what is handed in for a head: its file, its block, its starting counts
pub record HeadInput : Type 0 where
  pub file : List ℕ
  pub block : ℕ
  pub counts : List ℕ

unfoldable pub head_input : Chart → (block : ℕ) → (counts : List ℕ) → HeadInput
head_input c b v = record { file = file_of c; block = b; counts = v }

module _ (ds : List HeadInput) where
  unfoldable pub files_of : List ℕ
  files_of = write_all (λ (d : HeadInput). d.file) ds

  unfoldable pub heads_of : Heads
  heads_of = record {
    number = length ds;
    lengths = map (λ (d : HeadInput). length d.file) ds;
    blocks = map (λ (d : HeadInput). d.block) ds;
  }

  unfoldable pub counts_of : List ℕ
  counts_of = write_all (λ (d : HeadInput). d.counts) ds

  unfoldable pub parts_of : Parts
  parts_of = record { lengths = map (λ (d : HeadInput). length d.counts) ds }

-- what is shown of a state: the turn, the five numbers of each of n heads, and the counts of K timers
pub record Shown : Type 0 where
  pub report : Report
  pub turn : ℕ
  pub heads : List (List ℕ)
  pub counts : List ℕ

unfoldable pub numbers_of : Head → List ℕ
numbers_of d = d.location ∷ d.time ∷ d.waiting ∷ d.event ∷ d.waiting_time ∷ []

unfoldable pub shown : (n K : ℕ) → Report → Controller → Shown
shown n K r s = record { report = r; turn = s.turn; heads = up_to (λ h. numbers_of (head_at s h)) n; counts = take K s.counts }

module _ (ds : List HeadInput) (K : ℕ) where
  -- a call on a state that is handed in
  unfoldable pub asked : Controller → Call → Answer Shown
  asked s k = then (called (files_of ds) (heads_of ds) K s k) (λ d. returned (shown (length ds) K d.report d.state))

  unfoldable pub all_asked : Controller → List Call → List (Answer Shown)
  all_asked s [] = []
  all_asked s (k ∷ ks) = asked s k ∷ all_asked (state_after s (called (files_of ds) (heads_of ds) K s k)) ks

  -- set-up, and the calls after it; a set-up that is refused has none
  unfoldable pub after_set_up : List Call → List (Answer Shown)
  after_set_up ks = elim (set_up (files_of ds) (heads_of ds) K (counts_of ds) (parts_of ds)) [
    | refused n p ↦ refused n p ∷ []
    | returned s ↦ returned (shown (length ds) K received s) ∷ all_asked s ks
  ]

pub data Question : Type 0 where
  calls : List HeadInput → (K : ℕ) → List Call → Question
  on_state : List HeadInput → (K : ℕ) → Controller → Call → Question

unfoldable pub ask : Question → List (Answer Shown)
ask (calls ds K ks) = after_set_up ds K ks
ask (on_state ds K s k) = asked ds K s k ∷ []

pub record Case : Type 0 where
  pub question : Question
  pub replies : List (Answer Shown)

-- ---- what is asked

-- two heads with chart B, blocks of 2 and 2
unfoldable pub two_b : List HeadInput
two_b = head_input B 2 (7 ∷ 7 ∷ []) ∷ head_input B 2 (0 ∷ 0 ∷ []) ∷ []

-- the first head with a block of 3: its third timer is spare
unfoldable pub spare : List HeadInput
spare = head_input B 3 (7 ∷ 7 ∷ []) ∷ head_input B 2 (1 ∷ 2 ∷ []) ∷ []

-- 0→1 starts 0; 1→2 tests 0 below 3; 1→0 tests 0 at least 2; 1→1 starts 0: at 1 the tests decide which of the three is taken, then the number
unfoldable pub choice : Chart
choice = drawn 3 2 1 (
    arrow 0 1 (0 ∷ []) []
    ∷ arrow 1 2 [] (test 0 Below 3 ∷ [])
    ∷ arrow 1 0 [] (test 0 AtLeast 2 ∷ [])
    ∷ arrow 1 1 (0 ∷ []) []
    ∷ [])

unfoldable pub three_loops : List HeadInput
three_loops = head_input self_loop 1 (0 ∷ []) ∷ head_input self_loop 1 (0 ∷ []) ∷ head_input self_loop 1 (0 ∷ []) ∷ []

-- a state of two heads with four counts
unfoldable pub state_with : (turn : ℕ) → (first second : Head) → (counts : List ℕ) → Controller
state_with t d e v = record { turn = t; heads = d ∷ e ∷ replicate 6 (standing 0 0); counts = v ++ replicate 60 0 }

-- a head at which event 0 waits, marked by that number
unfoldable pub waiting_at : (location time mark due : ℕ) → Head
waiting_at q t m u = record { location = q; time = t; waiting = m; event = 0; waiting_time = u }

-- ---- the replies

unfoldable pub is : Report → (turn : ℕ) → (heads : List (List ℕ)) → (counts : List ℕ) → Answer Shown
is r t ds v = returned (record { report = r; turn = t; heads = ds; counts = v })

unfoldable pub no : (number place : ℕ) → Answer Shown
no n p = refused n p

-- a head's five numbers where no event waits
unfoldable pub at : (location time : ℕ) → List ℕ
at q t = q ∷ t ∷ 0 ∷ 0 ∷ 0 ∷ []

unfoldable pub case : Question → List (Answer Shown) → Case
case q rs = record { question = q; replies = rs }

-- turns, events and their refusals from set-up on
unfoldable pub driven : List Case
driven =
    -- a served event takes transition 0 and starts timer 0; its head alone moves on
    case (calls two_b 4 (event 0 0 5 ∷ event 0 0 6 ∷ turn ∷ turn ∷ []))
    (is received 0 (at 0 0 ∷ at 0 0 ∷ []) (7 ∷ 7 ∷ 0 ∷ 0 ∷ [])
    ∷ is received 0 ((0 ∷ 0 ∷ 1 ∷ 0 ∷ 5 ∷ []) ∷ at 0 0 ∷ []) (7 ∷ 7 ∷ 0 ∷ 0 ∷ [])
    ∷ no 26 nowhere
    ∷ is (taken 0 0) 1 (at 1 5 ∷ at 0 0 ∷ []) (0 ∷ 12 ∷ 0 ∷ 0 ∷ [])
    ∷ is (nothing 1) 0 (at 1 5 ∷ at 0 0 ∷ []) (0 ∷ 12 ∷ 0 ∷ 0 ∷ [])
    ∷ [])
    -- 26 before 15; none is taken at 8, time and counts move on, and at 8 once more
    ∷ case (calls two_b 4 (event 0 0 5 ∷ turn ∷ turn ∷ event 0 0 4 ∷ event 2 0 16777216 ∷ event 0 0 16777216 ∷ event 0 0 8 ∷ turn ∷ event 0 0 8 ∷ turn
    ∷ turn ∷ []))
    (is received 0 (at 0 0 ∷ at 0 0 ∷ []) (7 ∷ 7 ∷ 0 ∷ 0 ∷ [])
    ∷ is received 0 ((0 ∷ 0 ∷ 1 ∷ 0 ∷ 5 ∷ []) ∷ at 0 0 ∷ []) (7 ∷ 7 ∷ 0 ∷ 0 ∷ [])
    ∷ is (taken 0 0) 1 (at 1 5 ∷ at 0 0 ∷ []) (0 ∷ 12 ∷ 0 ∷ 0 ∷ [])
    ∷ is (nothing 1) 0 (at 1 5 ∷ at 0 0 ∷ []) (0 ∷ 12 ∷ 0 ∷ 0 ∷ [])
    ∷ no 23 nowhere
    ∷ no 26 nowhere
    ∷ no 15 nowhere
    ∷ is received 0 ((1 ∷ 5 ∷ 1 ∷ 0 ∷ 8 ∷ []) ∷ at 0 0 ∷ []) (0 ∷ 12 ∷ 0 ∷ 0 ∷ [])
    ∷ is (none_taken 0) 1 (at 1 8 ∷ at 0 0 ∷ []) (3 ∷ 15 ∷ 0 ∷ 0 ∷ [])
    ∷ is received 1 ((1 ∷ 8 ∷ 1 ∷ 0 ∷ 8 ∷ []) ∷ at 0 0 ∷ []) (3 ∷ 15 ∷ 0 ∷ 0 ∷ [])
    ∷ is (nothing 1) 0 ((1 ∷ 8 ∷ 1 ∷ 0 ∷ 8 ∷ []) ∷ at 0 0 ∷ []) (3 ∷ 15 ∷ 0 ∷ 0 ∷ [])
    ∷ is (none_taken 0) 1 (at 1 8 ∷ at 0 0 ∷ []) (3 ∷ 15 ∷ 0 ∷ 0 ∷ [])
    ∷ [])
    -- a spare timer stays 0, and the second head's timers stand behind it
    ∷ case (calls spare 5 (turn ∷ event 1 0 9 ∷ turn ∷ []))
    (is received 0 (at 0 0 ∷ at 0 0 ∷ []) (7 ∷ 7 ∷ 0 ∷ 1 ∷ 2 ∷ [])
    ∷ is (nothing 0) 1 (at 0 0 ∷ at 0 0 ∷ []) (7 ∷ 7 ∷ 0 ∷ 1 ∷ 2 ∷ [])
    ∷ is received 1 (at 0 0 ∷ (0 ∷ 0 ∷ 1 ∷ 0 ∷ 9 ∷ []) ∷ []) (7 ∷ 7 ∷ 0 ∷ 1 ∷ 2 ∷ [])
    ∷ is (taken 1 0) 0 (at 0 0 ∷ at 1 9 ∷ []) (7 ∷ 7 ∷ 0 ∷ 0 ∷ 11 ∷ [])
    ∷ [])
    -- the lowest transition whose tests are met: at count 2 the first and the second are, at count 3 the second
    ∷ case (calls (head_input choice 1 (0 ∷ []) ∷ []) 1 (event 0 0 10 ∷ turn ∷ event 0 0 12 ∷ turn ∷ []))
    (is received 0 (at 0 0 ∷ []) (0 ∷ [])
    ∷ is received 0 ((0 ∷ 0 ∷ 1 ∷ 0 ∷ 10 ∷ []) ∷ []) (0 ∷ [])
    ∷ is (taken 0 0) 0 (at 1 10 ∷ []) (0 ∷ [])
    ∷ is received 0 ((1 ∷ 10 ∷ 1 ∷ 0 ∷ 12 ∷ []) ∷ []) (0 ∷ [])
    ∷ is (taken 0 1) 0 (at 2 12 ∷ []) (2 ∷ [])
    ∷ [])
    ∷ case (calls (head_input choice 1 (0 ∷ []) ∷ []) 1 (event 0 0 10 ∷ turn ∷ event 0 0 13 ∷ turn ∷ []))
    (is received 0 (at 0 0 ∷ []) (0 ∷ [])
    ∷ is received 0 ((0 ∷ 0 ∷ 1 ∷ 0 ∷ 10 ∷ []) ∷ []) (0 ∷ [])
    ∷ is (taken 0 0) 0 (at 1 10 ∷ []) (0 ∷ [])
    ∷ is received 0 ((1 ∷ 10 ∷ 1 ∷ 0 ∷ 13 ∷ []) ∷ []) (0 ∷ [])
    ∷ is (taken 0 2) 0 (at 0 13 ∷ []) (3 ∷ [])
    ∷ [])
    -- an event that no transition has, then one that has it: all counts of the head grow, the started one is 0
    ∷ case (calls (head_input two_events 2 (1 ∷ 2 ∷ []) ∷ []) 2 (event 0 8 3 ∷ turn ∷ event 0 7 4 ∷ turn ∷ []))
    (is received 0 (at 0 0 ∷ []) (1 ∷ 2 ∷ [])
    ∷ is received 0 ((0 ∷ 0 ∷ 1 ∷ 8 ∷ 3 ∷ []) ∷ []) (1 ∷ 2 ∷ [])
    ∷ is (none_taken 0) 0 (at 0 3 ∷ []) (4 ∷ 5 ∷ [])
    ∷ is received 0 ((0 ∷ 3 ∷ 1 ∷ 7 ∷ 4 ∷ []) ∷ []) (4 ∷ 5 ∷ [])
    ∷ is (taken 0 0) 0 (at 1 4 ∷ []) (5 ∷ 0 ∷ [])
    ∷ [])
    -- of version 3, with a spare location
    ∷ case (calls (head_input spare_unstarted 1 (7 ∷ []) ∷ []) 1 (event 0 0 4 ∷ turn ∷ []))
    (is received 0 (at 0 0 ∷ []) (7 ∷ [])
    ∷ is received 0 ((0 ∷ 0 ∷ 1 ∷ 0 ∷ 4 ∷ []) ∷ []) (7 ∷ [])
    ∷ is (taken 0 0) 0 (at 1 4 ∷ []) (11 ∷ [])
    ∷ [])
    -- turns go round three heads, not eight
    ∷ case (calls three_loops 3 (turn ∷ turn ∷ turn ∷ turn ∷ []))
    (is received 0 (at 0 0 ∷ at 0 0 ∷ at 0 0 ∷ []) (0 ∷ 0 ∷ 0 ∷ [])
    ∷ is (nothing 0) 1 (at 0 0 ∷ at 0 0 ∷ at 0 0 ∷ []) (0 ∷ 0 ∷ 0 ∷ [])
    ∷ is (nothing 1) 2 (at 0 0 ∷ at 0 0 ∷ at 0 0 ∷ []) (0 ∷ 0 ∷ 0 ∷ [])
    ∷ is (nothing 2) 0 (at 0 0 ∷ at 0 0 ∷ at 0 0 ∷ []) (0 ∷ 0 ∷ 0 ∷ [])
    ∷ is (nothing 0) 1 (at 0 0 ∷ at 0 0 ∷ at 0 0 ∷ []) (0 ∷ 0 ∷ 0 ∷ [])
    ∷ [])
    ∷ []

-- set-up's refusals in their order: the number of heads, each chart in turn, K, each head's counts, the blocks
unfoldable pub refused_at_set_up : List Case
refused_at_set_up =
    case (calls [] 65 []) (no 25 nowhere ∷ [])
    ∷ case (calls (replicate 9 (head_input B 2 [])) 65 []) (no 25 nowhere ∷ [])
    ∷ case (calls (head_input B 2 [] ∷ record { file = []; block = 2; counts = [] } ∷ []) 65 []) (no 1 nowhere ∷ [])
    ∷ case (calls (head_input B 2 [] ∷ head_input (in_version 2 spare_unstarted) 1 [] ∷ []) 65 []) (no 9 2 ∷ [])
    ∷ case (calls (head_input B 2 [] ∷ head_input never_started 1 [] ∷ []) 65 []) (no 10 1 ∷ [])
    ∷ case (calls (head_input B 2 [] ∷ head_input spare_unstarted 1 [] ∷ []) 65 []) (no 11 nowhere ∷ [])
    ∷ case (calls (head_input B 2 (0 ∷ []) ∷ []) 65 []) (no 11 nowhere ∷ [])
    ∷ case (calls (head_input B 1 (0 ∷ []) ∷ head_input B 1 (0 ∷ 0 ∷ []) ∷ []) 4 []) (no 12 nowhere ∷ [])
    ∷ case (calls (head_input B 2 (0 ∷ 0 ∷ []) ∷ head_input B 2 (0 ∷ 16777216 ∷ []) ∷ []) 3 []) (no 12 1 ∷ [])
    ∷ case (calls (head_input B 2 (0 ∷ 0 ∷ []) ∷ head_input B 2 (0 ∷ 0 ∷ []) ∷ []) 3 []) (no 25 nowhere ∷ [])
    ∷ case (calls (head_input B 1 (0 ∷ 0 ∷ []) ∷ head_input B 3 (0 ∷ 0 ∷ []) ∷ []) 4 []) (no 25 nowhere ∷ [])
    ∷ []

-- states that nobody set up: 25 comes before 32, 32 before 26; every head is looked at, a waiting time only where an event waits; a spare location is
-- a location
unfoldable pub handed_in : List Case
handed_in =
    case (on_state (head_input B 1 [] ∷ head_input B 2 [] ∷ []) 4 (state_with 9 (standing 0 0) (standing 0 0) (0 ∷ 0 ∷ 0 ∷ 0 ∷ [])) turn)
    (no 25 nowhere ∷ [])
    ∷ case (on_state two_b 4 (state_with 2 (standing 0 0) (standing 0 0) (0 ∷ 0 ∷ 0 ∷ 0 ∷ [])) (event 5 0 0)) (no 32 nowhere ∷ [])
    ∷ case (on_state two_b 4 (state_with 0 (standing 0 0) (standing 4 0) (0 ∷ 0 ∷ 0 ∷ 0 ∷ [])) turn) (no 32 nowhere ∷ [])
    ∷ case (on_state two_b 4 (state_with 0 (standing 0 0) (standing 0 16777216) (0 ∷ 0 ∷ 0 ∷ 0 ∷ [])) turn) (no 32 nowhere ∷ [])
    ∷ case (on_state two_b 4 (state_with 0 (standing 0 0) (waiting_at 0 5 2 16777216) (0 ∷ 0 ∷ 0 ∷ 0 ∷ [])) turn) (no 32 nowhere ∷ [])
    ∷ case (on_state two_b 4 (state_with 0 (standing 0 0) (waiting_at 0 5 2 4) (0 ∷ 0 ∷ 0 ∷ 0 ∷ [])) turn) (no 32 nowhere ∷ [])
    ∷ case (on_state two_b 4 (state_with 0 (waiting_at 0 5 0 4) (standing 3 0) (0 ∷ 0 ∷ 0 ∷ 0 ∷ [])) turn)
    (is (nothing 0) 1 ((0 ∷ 5 ∷ 0 ∷ 0 ∷ 4 ∷ []) ∷ at 3 0 ∷ []) (0 ∷ 0 ∷ 0 ∷ 0 ∷ []) ∷ [])
    ∷ case (on_state two_b 4 (state_with 0 (standing 0 0) (standing 0 5) (0 ∷ 0 ∷ 0 ∷ 16777221 ∷ [])) turn) (no 32 nowhere ∷ [])
    ∷ case (on_state two_b 4 (state_with 1 (standing 0 0) (waiting_at 0 5 2 5) (9 ∷ 9 ∷ 0 ∷ 16777220 ∷ [])) turn)
    (is (taken 1 0) 0 (at 0 0 ∷ at 1 5 ∷ []) (9 ∷ 9 ∷ 0 ∷ 16777220 ∷ []) ∷ [])
    ∷ case (on_state (head_input spare_unstarted 2 [] ∷ head_input B 2 [] ∷ []) 4
    (state_with 0 (waiting_at 2 5 1 6) (standing 0 0) (3 ∷ 0 ∷ 0 ∷ 0 ∷ [])) turn)
    (is (taken 0 1) 1 (at 1 6 ∷ at 0 0 ∷ []) (4 ∷ 0 ∷ 0 ∷ 0 ∷ []) ∷ [])
    ∷ []
