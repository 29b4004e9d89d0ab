-- What the head whose turn it is leaves of the state, as the code makes it, is what the definition of a turn says.
use mathlib.Core.Path.{◌≡◌, refl, sym, ap, ap₂, subst, subst₂, ◌∙◌}
use mathlib.Core.Bool.{Bool, true, false, not}
use mathlib.Core.Option.{Option, none, some}
use mathlib.Core.List.{List}
use Prim.Native.Nat.{ℕ, ◌+◌, ◌%◌, ◌≤◌, min}
use native.Mathlib.Omega.{arith}
use lib.ListN.{length, get_or, get_elem?, set, take}
use lib.Seq.{ext_get_or, get_or-take, length-take-le}
use borrow.Author.Tests.{ltb-true, lt-ltb, eq-eqb, ne_eqb}
use lib.Dec.{ltb}
use Rattle.std.specs.Prelude.{Result, Err, Some, None}
use Rattle.std.specs.Result.{IsErrAnd}
use Rattle.std.proofs.lemmas.Result.{err_from_is_err_and}
use Rattle.lists.specs.Lists.{up_to}
use Rattle.lists.proofs.Gather.{length_up_to, get_d_up_to}
use Rattle.lists.proofs.Nth.{nth_below, below_nth}
use Rattle.model.specs.Answer.{Answer}
use Rattle.model.specs.Chart.{Transition, Chart}
use Rattle.model.specs.Run.{State, after, waited}
use Rattle.refusal.specs.declared.Refusal.{Refusal}
use Rattle.refusal.specs.Refused.{refused_as, answer_by}
use Rattle.chart_lists.specs.declared.Header.{Header}
use Rattle.steps.specs.Counts.{CountsAgree}
use Rattle.controller_model.specs.declared.Head.{Head}
use Rattle.controller_model.specs.declared.Controller.{Controller}
use Rattle.controller_model.specs.declared.Heads.{Heads}
use Rattle.controller_model.specs.Parts.{offset, stretch, written}
use Rattle.controller_model.specs.Serving.{standing, head_at, waits, state_of, lowest_to_take, left_by, nothing, none_taken, taken, report_of}
use Rattle.controller_model.specs.Serving.{Done, next_turn, passed, leave, served, turned}
use Rattle.controller_model.specs.Controlling.{sound_state, state_after, reported}
use Rattle.controller_model.proofs.Turns.{turned_passes, turned_serves}
use Rattle.heads.proofs.Blocks.{no_header}
use Rattle.serving.specs.declared.Served.{Served}
use Rattle.serving.specs.Served.{ServedAs}
use Rattle.controller.specs.declared.Report.{Report}
use Rattle.controller.specs.Answers.{report_as}
use Rattle.controller.specs.Judged.{Ready, InTurn}
use Rattle.controller.proofs.HeadInTurn.{event_later, chart_in_turn, head_in_turn}

-- whichever transition is taken, or none, the head's time is the event's
time_left : (c : Chart) (x : State) (i t : ℕ) → x.time ≤ t → (left_by c x i t).time ≡ t
unfolding left_by after waited
time_left c x i t h = go (get_elem? c.transitions i) refl
  where
    go : (o : Option Transition) → get_elem? c.transitions i ≡ o → (left_by c x i t).time ≡ t
    go none e = rw (e, left_by) (omega arith)
    go (some r) e = rw (e, left_by) refl

-- the first n counts of the list, and of the run
front_agrees : (n : ℕ) (l : List ℕ) (v : ℕ → ℕ) → n ≤ 64 → length l ≡ 64 → CountsAgree l v → take n l ≡ up_to v n
front_agrees n l v h e a = ext_get_or 0 (take n l) (up_to v n) (long ∙ sym (length_up_to v n)) (λ j b.
    get_or-take n l j 0 (omega (arith, long)) ∙ a.same j (omega (arith, long)) ∙ sym (get_d_up_to v n j 0 (omega (arith, long))))
  where
    long : length (take n l) ≡ n
    long = length-take-le n l (omega arith)

-- ---- a served event

-- the first n of these counts can be written over those of the board from b on
pub record FrontFits (b n : ℕ) (counts : List ℕ) : Type 0 where
  pub enough : n ≤ length counts
  pub long : n ≡ length (take n counts)
  pub room : b + length (take n counts) ≤ 64

module _ {files : List ℕ} {hs : Heads} {s : Controller} {n : ℕ} {c : Chart} (w : InTurn files hs s (offset hs.blocks s.turn) n c) {b : ℕ}
    (e : b ≡ min (offset hs.blocks s.turn) 64) where
  abbrev d : Head
  d = head_at s s.turn

  abbrev t : ℕ
  t = d.waiting_time

  abbrev x : (o n : ℕ) → State
  x o n = state_of d (stretch o n s.counts)

  abbrev o : ℕ
  o = offset hs.blocks s.turn

  -- the block begins on the board
  begins : b ≡ o
  begins = omega (arith, w.room)

  pub from_begin : InTurn files hs s b n c
  from_begin = subst (λ (k : ℕ). InTurn files hs s k n c) (sym begins) w

  module _ {r : Served} (a : ServedAs c (x b n) d.event d.waiting_time r) where
    abbrev i : ℕ
    i = lowest_to_take c (x o c.timers) d.event t

    own : ServedAs c (x o c.timers) d.event t r
    own = subst₂ (λ (k m : ℕ). ServedAs c (x k m) d.event t r) begins w.timers a

    pub front_fits : FrontFits b n r.counts
    front_fits =
        let enough : n ≤ length r.counts = omega (arith, w.room, a.number) in
        let long = length-take-le n r.counts enough in
        record { enough = enough; long = sym long; room = omega (arith, w.room) }

    pub state_served : {counts : List ℕ} → counts ≡ written b (take n r.counts) s.counts
        → record { turn = (s.turn + 1) % hs.number; heads = set s.heads s.turn (standing r.location d.waiting_time); counts = counts }
        ≡ (served hs.number hs.blocks c s.turn s).state
    unfolding served leave next_turn state_of
    state_served {counts} q =
        let y = left_by c (x o c.timers) i t in
        let front : take n r.counts ≡ up_to y.counts c.timers =
        rw w.timers (front_agrees c.timers r.counts y.counts (omega (arith, w.room, w.timers)) own.number own.counts) in
        let time : t ≡ y.time = sym (time_left c (x o c.timers) i t (event_later w)) in
        ap₂ (λ (h : Head) (l : List ℕ). record { turn = (s.turn + 1) % hs.number; heads = set s.heads s.turn h; counts = l })
        (ap₂ standing own.location time) (q ∙ ap₂ (λ (k : ℕ) (l : List ℕ). written k l s.counts) begins front)

    pub report_taken : {j : ℕ} → r.transition ≡ Some j → taken s.turn j ≡ (served hs.number hs.blocks c s.turn s).report
    unfolding served report_of
    report_taken {j} q = go (ltb i (length c.transitions)) refl
      where
        go : (b : Bool) → ltb i (length c.transitions) ≡ b → taken s.turn j ≡ report_of c s.turn i
        go true g =
            let f : Some i ≡ Some j = sym (rw g at own.transition) ∙ q in
            let m = nth_below c.transitions i (ltb-true i (length c.transitions) g) in
            let same : j ≡ i = cc in
            ap (taken s.turn) same ∙ rw (m.1, report_of) refl
        go false g = let f : None ≡ Some j = sym (rw g at own.transition) ∙ q in cc

    pub report_none : r.transition ≡ None → none_taken s.turn ≡ (served hs.number hs.blocks c s.turn s).report
    unfolding served report_of
    report_none q = go (get_elem? c.transitions i) refl
      where
        go : (m : Option Transition) → get_elem? c.transitions i ≡ m → none_taken s.turn ≡ report_of c s.turn i
        go none f = rw (f, report_of) refl
        go (some v) f =
            let g : Some i ≡ None = sym (rw (lt-ltb i (length c.transitions) (below_nth c.transitions i f)) at own.transition) ∙ q in
            cc

-- ---- a turn

-- an event waits at the head, or none, by the code's test
no_event : (d : Head) → d.waiting ≡ 0 → waits d ≡ false
unfolding waits
no_event d e = ap not (eq-eqb d.waiting 0 e)

an_event : (d : Head) → (d.waiting ≡ 0 → ⊥) → waits d ≡ true
unfolding waits
an_event d e = ap not (ne_eqb d.waiting 0 e)

module _ {files : List ℕ} {hs : Heads} {headers : List Header} {cs : List Chart} (r : Ready files hs headers cs) (s : Controller)
    (e : sound_state hs.blocks cs s ≡ true) where
  module _ (w : (head_at s s.turn).waiting ≡ 0) where
    passes : turned hs.blocks cs s ≡ passed hs.number s
    passes = turned_passes hs.blocks cs s (no_event (head_at s s.turn) w) ∙ ap (λ (n : ℕ). passed n s) (sym r.number)

    pub passing_report : nothing s.turn ≡ (turned hs.blocks cs s).report
    unfolding passed
    passing_report = sym (ap (λ (d : Done). d.report) passes)

    pub passing_state : record { turn = (s.turn + 1) % hs.number; heads = s.heads; counts = s.counts } ≡ (turned hs.blocks cs s).state
    unfolding passed next_turn
    passing_state = sym (ap (λ (d : Done). d.state) passes)

  module _ (w : (head_at s s.turn).waiting ≡ 0 → ⊥) where
    -- what serving asks for, and that it is the turn
    pub record ServesInTurn (n : ℕ) : Type 0 where
      pub chart : Chart
      pub in_turn : InTurn files hs s (offset hs.blocks s.turn) n chart
      pub is : served hs.number hs.blocks chart s.turn s ≡ turned hs.blocks cs s

    pub serves_in_turn : ServesInTurn (get_or headers s.turn no_header).timers
    serves_in_turn =
        let c = chart_in_turn r s e in
        let v = an_event (head_at s s.turn) w in
        record {
          chart = c.chart;
          in_turn = head_in_turn r s e c v;
          is = ap (λ (n : ℕ). served n hs.blocks c.chart s.turn s) r.number ∙ sym (turned_serves hs.blocks cs s v c.there);
        }

-- a turn that is refused changes nothing
pub refused_turn : (s : Controller) (r : Result Report Refusal) (f : Refusal) {x : Answer Done} → IsErrAnd r (λ g. g ≡ f) → x ≡ refused_as f
    → (answer_by report_as r ≡ reported x) × (s ≡ state_after s x)
unfolding reported
refused_turn s r f {x} e q = go (err_from_is_err_and {Q = λ g. g ≡ f} r e)
  where
    go : (g : Refusal) × (r ≡ Err g) × (g ≡ f) → (answer_by report_as r ≡ reported x) × (s ≡ state_after s x)
    go p = rw (p.1, p.2, q) (refl, refl)
