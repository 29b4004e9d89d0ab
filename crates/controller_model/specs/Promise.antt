-- What a controller keeps from set-up on, over any list of calls (document 02, P4: "From set-up on, while nothing else changes charts, blocks or
-- state, this holds").
use Rattle.std.specs.Prelude.{◌≡◌, true, false, List, [], ◌∷◌, ◌++◌, map, ℕ, ◌+◌, ◌-◌, ◌≤◌, ◌<◌, length, get_or}
use mathlib.Core.Option.{some}
use lib.ListN.{get_elem?}
use Rattle.lists.specs.Lists.{memb}
use Rattle.model.specs.Answer.{returned, refused, nowhere}
use Rattle.model.specs.Chart.{Transition, Chart, Nth}
use Rattle.model.specs.Run.{Counts, State, Step, Run, grown, restarted, enabled}
use Rattle.model.specs.Player.{arrival}
use Rattle.file_format.specs.Parse.{Bytes}
use Rattle.player.specs.Playing.{play_answer}
use Rattle.controller_model.specs.declared.Controller.{Controller}
use Rattle.controller_model.specs.declared.Heads.{Heads}
use Rattle.controller_model.specs.declared.Parts.{Parts}
use Rattle.controller_model.specs.Parts.{stretch, offset}
use Rattle.controller_model.specs.Heads.{head_file, head_counts, heads_judged}
use Rattle.controller_model.specs.Serving.{standing, head_at, waits, none_taken, taken, Done, next_turn, passed, served}
use Rattle.controller_model.specs.Refusals.{IsEvent}
use Rattle.controller_model.specs.Controlling.{Call, event, turn, set_up, done_by, called, state_after, after_calls, took, turns_in}

-- A head of chart c whose timers stand from o on has come by the steps es from its starting counts to where it stands: es is a run, the head's
-- counts are those of the run, grown since its last step, and the player, called on the head's file, takes es to the head's location.
pub record OnItsRun (c : Chart) (file counts : List ℕ) (o : ℕ) (s : Controller) (h : ℕ) (es : List Step) : Type 0 where
  pub left : State
  pub run : Run c (λ j. get_or counts j 0) es left
  pub location : (head_at s h).location ≡ left.location
  pub earlier : left.time ≤ (head_at s h).time
  pub shows : (j : ℕ) → j < c.timers → get_or s.counts (o + j) 0 ≡ left.counts j + ((head_at s h).time - left.time)
  pub plays : play_answer file counts (map (λ e. e.transition) es) (map (λ e. e.time) es) ≡ arrival c left

-- the chart's timers lie in the head's block, the block on the board, and the blocks of two heads apart
pub record OnBoard (K : ℕ) (blocks : List ℕ) (charts : List Chart) (h : ℕ) (c : Chart) : Type 0 where
  pub in_block : c.timers ≤ get_or blocks h 0
  pub on_board : offset blocks h + get_or blocks h 0 ≤ K
  pub apart : (g : ℕ) → h < g → g < length charts → offset blocks h + get_or blocks h 0 ≤ offset blocks g

-- the counts of head h, of chart c and with its timers from o on, at the time of the event that waits there
abbrev pub counts_at_event : Chart → (o : ℕ) → Controller → (h : ℕ) → Counts
counts_at_event c o s h = let d = head_at s h in grown (d.waiting_time - d.time) (λ j. get_or (stretch o c.timers s.counts) j 0)

-- transition r, number i, leaves the head's location at the event that waits there, and these counts meet its tests
pub record CanTake (c : Chart) (o : ℕ) (s : Controller) (h i : ℕ) (r : Transition) : Type 0 where
  pub is_nth : Nth c i r
  pub leaves : r.source ≡ (head_at s h).location
  pub on_event : r.event ≡ (head_at s h).event
  pub tests_met : enabled c r (counts_at_event c o s h) ≡ true

-- a turn leaves its head at a location at the event's time, nothing waiting, with these counts
pub record LeftAt (c : Chart) (o : ℕ) (s s' : Controller) (location : ℕ) (v : Counts) : Type 0 where
  pub head : head_at s' s.turn ≡ standing location (head_at s s.turn).waiting_time
  pub counts : (j : ℕ) → j < c.timers → get_or s'.counts (o + j) 0 ≡ v j

-- what a turn reports and leaves where an event waits: the lowest transition that can be taken, or none where there is none
pub data ServedBy (c : Chart) (o : ℕ) (s : Controller) (d : Done) : Type 0 where
  takes : (i : ℕ) (r : Transition) → CanTake c o s s.turn i r → ((k : ℕ) (q : Transition) → k < i → CanTake c o s s.turn k q → ⊥)
      → d.report ≡ taken s.turn i → LeftAt c o s d.state r.target (restarted r.starts (counts_at_event c o s s.turn))
      → ServedBy c o s d
  takes_none : ((k : ℕ) (q : Transition) → CanTake c o s s.turn k q → ⊥) → d.report ≡ none_taken s.turn
      → LeftAt c o s d.state (head_at s s.turn).location (counts_at_event c o s s.turn) → ServedBy c o s d

-- the call is for head h
abbrev pub For : Controller → (h : ℕ) → Call → Type 0
For s h (event g e t) = h ≡ g
For s h turn = h ≡ s.turn

-- s' differs from s in nothing of another head than h, and in no count outside h's timers, n of them from o on
pub record OnlyHead (h o n : ℕ) (s s' : Controller) : Type 0 where
  pub heads : (g : ℕ) → (g ≡ h → ⊥) → head_at s' g ≡ head_at s g
  pub before : (i : ℕ) → i < o → get_or s'.counts i 0 ≡ get_or s.counts i 0
  pub behind : (i : ℕ) → o + n ≤ i → get_or s'.counts i 0 ≡ get_or s.counts i 0

module _ (files : List ℕ) (hs : Heads) (K : ℕ) where
  -- head h serves its event e of time t at a turn among the calls ks, fewer than m turns being before it; then nothing waits at it
  pub record Serves (charts : List Chart) (h e t m : ℕ) (s : Controller) (ks : List Call) : Type 0 where
    pub before : List Call
    pub rest : List Call
    pub parts : ks ≡ before ++ turn ∷ rest
    pub few : turns_in before < m
    pub chart : Chart
    pub is_chart : get_elem? charts h ≡ some chart
    pub still : waits (head_at (after_calls files hs K s before) h) ≡ true
    pub same_event : (head_at (after_calls files hs K s before) h).event ≡ e
    pub same_time : (head_at (after_calls files hs K s before) h).waiting_time ≡ t
    pub serves : called files hs K (after_calls files hs K s before) turn
        ≡ returned (served (length charts) hs.blocks chart h (after_calls files hs K s before))
    pub gone : waits (head_at (served (length charts) hs.blocks chart h (after_calls files hs K s before)).state h) ≡ false

  -- s is the state after the calls ks from the state s₀ of the set-up with these counts
  pub record Keeps (counts : List ℕ) (ns : Parts) (s₀ : Controller) (ks : List Call) (s : Controller) : Type 0 where
    pub charts : List Chart
    pub are : heads_judged files hs K ≡ returned charts
    pub as_many : length charts ≡ hs.number
    pub some_head : 1 ≤ length charts
    pub few_heads : length charts ≤ 8
    pub few_timers : K ≤ 64
    pub blocks : (h : ℕ) (c : Chart) → get_elem? charts h ≡ some c → OnBoard K hs.blocks charts h c
    pub turn_is : s.turn < length charts
    -- neither the heads nor the state are refused, 25 and 32 among them: a turn is never refused, an event by 26, 15 and 23 alone
    pub decided : (k : Call) → called files hs K s k ≡ done_by hs.blocks charts s k
    pub refusals : (k : Call) (n p : ℕ) → called files hs K s k ≡ refused n p → IsEvent k × (memb n (26 ∷ 15 ∷ 23 ∷ []) ≡ true) × (p ≡ nowhere)
    -- a refused call changes nothing: what is called after it comes to the same without it
    pub unchanged : (k : Call) (n p : ℕ) → called files hs K s k ≡ refused n p
        → (more : List Call) → after_calls files hs K s (k ∷ more) ≡ after_calls files hs K s more
    -- what each head took is a run
    pub runs : (h : ℕ) (c : Chart) → get_elem? charts h ≡ some c
        → OnItsRun c (head_file files hs h) (head_counts counts ns h) (offset hs.blocks h) s h (took files hs K h s₀ ks)
    -- what waits is served within as many turns as there are heads, whatever is called
    pub fair : (h : ℕ) → h < length charts → waits (head_at s h) ≡ true → (more : List Call) → length charts ≤ turns_in more
        → Serves charts h (head_at s h).event (head_at s h).waiting_time (length charts) s more
    -- where an event waits, its head takes the lowest transition that can be taken
    pub serving : (c : Chart) → get_elem? charts s.turn ≡ some c → waits (head_at s s.turn) ≡ true
        → (d : Done) → called files hs K s turn ≡ returned d → ServedBy c (offset hs.blocks s.turn) s d
    -- a call for head h changes nothing else
    pub others : (k : Call) (h : ℕ) (c : Chart) → For s h k → get_elem? charts h ≡ some c
        → OnlyHead h (offset hs.blocks h) c.timers s (state_after s (called files hs K s k))
    -- a turn with nothing waiting changes nothing but whose turn is next
    pub idle : waits (head_at s s.turn) ≡ false → called files hs K s turn ≡ returned (passed (length charts) s)
    pub next : (d : Done) → called files hs K s turn ≡ returned d → d.state.turn ≡ next_turn (length charts) s.turn

-- from every set-up that is not refused, whatever is called
abbrev pub Promise : Type 0
Promise = (files : List ℕ) (hs : Heads) (K : ℕ) (counts : List ℕ) (ns : Parts) → Bytes files → (s₀ : Controller)
    → set_up files hs K counts ns ≡ returned s₀ → (ks : List Call) → Keeps files hs K counts ns s₀ ks (after_calls files hs K s₀ ks)
