-- The head whose turn it is: what 32 leaves of it is what serving asks for, and its file has its chart. Past its own timers the counts are 0.
use mathlib.Core.Path.{◌≡◌, refl, ap, subst, ◌∙◌}
use mathlib.Core.Logic.{◌⊎◌, inl, inr}
use mathlib.Core.Bool.{Bool, true, ◌&&◌}
use mathlib.Core.Option.{some}
use mathlib.Core.List.{List}
use Prim.Native.Nat.{ℕ, ◌+◌, ◌-◌, ◌≤◌, ◌<◌}
use native.Mathlib.Omega.{arith}
use lib.Dec.{leb, ltb}
use lib.ListN.{length, get_or, get_elem?, take, drop, length-take, get_or-eq_default}
use borrow.Author.Tests.{leb-true, ltb-true}
use Rattle.lists.proofs.Bools.{lt_or_le, and_left, and_right}
use Rattle.lists.proofs.Nth.{nth_below}
use Rattle.model.specs.Answer.{returned}
use Rattle.model.specs.Chart.{Chart}
use Rattle.model.specs.Run.{largest_time}
use Rattle.file_format.specs.File.{chart_in}
use Rattle.chart_lists.specs.declared.Header.{Header}
use Rattle.steps.specs.Counts.{Starting}
use Rattle.judgement.proofs.Corollaries.{judged_reads}
use Rattle.controller_model.specs.declared.Head.{Head}
use Rattle.controller_model.specs.declared.Controller.{Controller}
use Rattle.controller_model.specs.declared.Heads.{Heads}
use Rattle.controller_model.specs.Parts.{offset, part_of, every_below, stretch}
use Rattle.controller_model.specs.Serving.{head_at, waits, state_of}
use Rattle.controller_model.specs.Controlling.{sound_waiting, sound_head, sound_at, sound_state}
use Rattle.controller_model.proofs.ListParts.{offset_apart, every_out}
use Rattle.controller_model.proofs.SetUp.{chart_of_lem}
use Rattle.heads.proofs.Blocks.{no_header, timers_of_lem}
use Rattle.serving.specs.Served.{SoundServing, HeadShows}
use Rattle.controller.specs.Judged.{Ready, InTurn}

-- ---- what serving asks for

length_stretch : (o n : ℕ) (l : List ℕ) → length (stretch o n l) ≤ n
unfolding stretch
length_stretch o n l = omega (arith, length-take n (drop o l))

-- as the code cuts the counts out
pub own_counts : (o n : ℕ) (l : List ℕ) {own : List ℕ} → Starting (take ((o + n) - o) (drop o l)) own → Starting (stretch o n l) own
unfolding stretch
own_counts o n l {own} a = let e : (o + n) - o ≡ n = omega arith in subst (λ (k : ℕ). Starting (take k (drop o l)) own) e a

module _ {files : List ℕ} {hs : Heads} {s : Controller} {o n : ℕ} {c : Chart} (w : InTurn files hs s o n c) where
  -- the head's file has its chart
  pub own_file : {file : List ℕ} → file ≡ part_of hs.lengths s.turn files → chart_in file ≡ returned c
  own_file e = ap chart_in e ∙ judged_reads _ w.chart

  abbrev d : Head
  d = head_at s s.turn

  abbrev few : Bool
  few = every_below (λ j. leb (get_or (stretch o n s.counts) j 0) (d.time + largest_time)) c.timers

  sound_rest : (sound_waiting d && few) ≡ true
  unfolding sound_head
  sound_rest = and_right (leb d.time largest_time) (sound_waiting d && few)
      (and_right (ltb d.location c.locations) (leb d.time largest_time && (sound_waiting d && few)) w.sound)

  times : (leb d.waiting_time largest_time && leb d.time d.waiting_time) ≡ true
  unfolding sound_waiting
  times = rw (w.waiting, sound_waiting) at (and_left (sound_waiting d) few sound_rest)

  pub event_later : d.time ≤ d.waiting_time
  event_later = leb-true d.time d.waiting_time (and_right (leb d.waiting_time largest_time) _ times)

  small_count : (j : ℕ) → (j < n) ⊎ (n ≤ j) → get_or (stretch o n s.counts) j 0 ≤ d.time + largest_time
  small_count j (inl b) =
      leb-true _ (d.time + largest_time) (every_out (λ j. leb (get_or (stretch o n s.counts) j 0) (d.time + largest_time)) c.timers
      (and_right (sound_waiting d) few sound_rest) j (omega (arith, w.timers)))
  small_count j (inr b) =
      omega (arith, get_or-eq_default (stretch o n s.counts) 0 {n = j} (omega (arith, length_stretch o n s.counts)))

  module _ {own : List ℕ} (a : Starting (stretch o n s.counts) own) where
    pub sound_serving : SoundServing d own
    sound_serving = record {
      number = a.number;
      later = event_later;
      small = leb-true d.waiting_time largest_time (and_left _ (leb d.time d.waiting_time) times);
      counts = λ j h. rw (a.same j) (small_count j (lt_or_le j n));
    }

    pub shows : HeadShows d own (state_of d (stretch o n s.counts))
    unfolding state_of
    shows = record { location = refl; time = refl; counts = record { same = λ j h. a.same j } }

-- ---- judged heads and a sound state

module _ {files : List ℕ} {hs : Heads} {headers : List Header} {cs : List Chart} (r : Ready files hs headers cs) (s : Controller)
    (e : sound_state hs.blocks cs s ≡ true) where
  turn_below : s.turn < length cs
  unfolding sound_state
  turn_below = ltb-true s.turn (length cs) (and_left (ltb s.turn (length cs)) (every_below (sound_at hs.blocks cs s) (length cs)) e)

  pub turn_few : s.turn < 8
  turn_few = omega (arith, turn_below, r.headers_of.few)

  pub some_head : 1 ≤ hs.number
  some_head = omega (arith, turn_below, r.number)

  -- the chart whose turn it is, with its timers as the code knows them
  pub record ChartInTurn : Type 0 where
    pub chart : Chart
    pub there : get_elem? cs s.turn ≡ some chart
    pub timers : (get_or headers s.turn no_header).timers ≡ chart.timers
    pub room : offset hs.blocks s.turn + (get_or headers s.turn no_header).timers ≤ 64

  pub chart_in_turn : ChartInTurn
  chart_in_turn =
      let c = nth_below cs s.turn turn_below in
      let t = timers_of_lem r.headers_of s.turn c.0 c.1 in
      let end = offset_apart hs.blocks s.turn (length cs) turn_below in
      record { chart = c.0; there = c.1; timers = t; room = omega (arith, r.fits.long s.turn c.0 c.1, r.fits.total) }

  pub head_in_turn : (c : ChartInTurn) → waits (head_at s s.turn) ≡ true
      → InTurn files hs s (offset hs.blocks s.turn) (get_or headers s.turn no_header).timers c.chart
  unfolding sound_state sound_at
  head_in_turn c v =
      let every = and_right (ltb s.turn (length cs)) (every_below (sound_at hs.blocks cs s) (length cs)) e in
      let at = every_out (sound_at hs.blocks cs s) (length cs) every s.turn turn_below in
      record {
        turn = turn_few;
        chart = chart_of_lem files hs cs r.charts s.turn c.chart c.there;
        timers = c.timers;
        room = c.room;
        waiting = v;
        sound = rw c.timers (rw (c.there, sound_at) at at);
      }
