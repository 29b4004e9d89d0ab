-- The promise of the controller, over any list of calls from set-up on: every head stands at the end of its run, by induction over the calls, and all
-- else follows from that.
use mathlib.Core.Path.{◌≡◌, refl, sym, ap, ◌∙◌, subst}
use mathlib.Core.Bool.{Bool, true}
use mathlib.Core.List.{List, [], ◌∷◌, ◌++◌, map, append-nil, append_assoc}
use Prim.Native.Nat.{ℕ, suc, ◌≤◌, ◌<◌}
use native.Mathlib.Omega.{arith}
use lib.ListN.{length, get_or, length-map}
use borrow.Author.Tests.{le-leb, eq-eqb}
use Rattle.lists.specs.Lists.{memb}
use Rattle.model.specs.Answer.{Answer, returned, refused, then, unless, nowhere}
use Rattle.model.specs.Chart.{Chart}
use Rattle.model.specs.Run.{State, Step, every_time, player_time, largest_time}
use Rattle.model.specs.Player.{arrival, answer_of, steps_of, played_on}
use Rattle.model.specs.PlayerTerms.{CountsAllowed}
use Rattle.model.proofs.Answers.{not_result, result_same, refused_same}
use Rattle.model.proofs.PlayerLaws.{counts_pass}
use Rattle.file_format.specs.Parse.{Bytes}
use Rattle.judgement.specs.Judging.{judged_in}
use Rattle.player.proofs.Files.{play_is}
use Rattle.controller_model.specs.declared.Controller.{Controller}
use Rattle.controller_model.specs.declared.Heads.{Heads}
use Rattle.controller_model.specs.Heads.{head_counts}
use Rattle.controller_model.specs.Serving.{head_at, waits, Done, next_turn}
use Rattle.controller_model.specs.Controlling.{state_judged, Call, event, turn, done_by, called, state_after, after_calls, took, steps_in}
use Rattle.controller_model.specs.Controlling.{turns_in}
use Rattle.controller_model.specs.Refusals.{IsEvent}
use Rattle.controller_model.specs.Promise.{OnItsRun, Serves, Promise}
use Rattle.model.proofs.LongerSteps.{steps_of_lem}
use Rattle.controller_model.proofs.Standing.{Stands}
use Rattle.controller_model.proofs.Turns.{Fits, AllStand, same_steps, turned_passes, EventRefused, EventIs, event_is, call_stands}
use Rattle.controller_model.proofs.Turns.EventRefused.{not_free, too_late, too_early}
use Rattle.controller_model.proofs.Turns.EventIs.{is_refused, is_received}
use Rattle.controller_model.proofs.Sound.{state_sound}
use Rattle.controller_model.proofs.SetUp.{Accepted, accepted_judged, called_is, as_many, chart_of_lem, blocks_end, accepted_fits, start_stands}
use Rattle.controller_model.proofs.SetUp.{is_set_up}
use Rattle.controller_model.proofs.Serving.{turn_serves, called_only}
use Rattle.controller_model.proofs.Fair.{some_distance, turned_turn, serves_soon}

-- ---- a head on its run, and the player

on_its_run : {c : Chart} {file counts : List ℕ} {o : ℕ} {s : Controller} {h : ℕ} {es : List Step}
    → judged_in file ≡ returned c → CountsAllowed c counts
    → Stands c o (λ j. get_or counts j 0) (head_at s h) s.counts es → OnItsRun c file counts o s h es
unfolding every_time player_time answer_of
on_its_run {c} {file} {counts} {o} {s} {h} {es} e a st = record {
  left = st.left;
  run = record { ends = st.run every_time (λ t l. refl) };
  location = st.there;
  earlier = st.earlier;
  shows = st.shows;
  plays =
      play_is file counts is ts ∙ ap (λ (x : Answer Chart). then x (played_on counts is ts)) e ∙ counts_pass c counts _ a
      ∙ ap (λ (b : Bool). unless b 13 nowhere (answer_of player_time c (λ j. get_or counts j 0) (steps_of is ts)))
      (eq-eqb (length is) (length ts) (length-map es (λ e. e.transition) ∙ sym (length-map es (λ e. e.time))))
      ∙ ap (answer_of player_time c (λ j. get_or counts j 0)) (steps_of_lem es)
      ∙ ap (λ (x : Answer State). then x (arrival c)) (st.run player_time (λ t l. le-leb t largest_time l));
}
  where
    is : List ℕ
    is = map (λ (e : Step). e.transition) es

    ts : List ℕ
    ts = map (λ (e : Step). e.time) es

-- ---- how a call is refused

-- a turn is not refused, an event has its reason
pub turn_not_refused : (blocks : List ℕ) (cs : List Chart) (s : Controller) (n p : ℕ) → done_by blocks cs s turn ≡ refused n p → ⊥
unfolding done_by
turn_not_refused blocks cs s n p e = not_result (sym e)

pub event_refused : (blocks : List ℕ) (cs : List Chart) (s : Controller) (h e t n p : ℕ) → done_by blocks cs s (event h e t) ≡ refused n p
    → EventRefused blocks cs s h t n × (p ≡ nowhere)
event_refused blocks cs s h e t n p x = go (event_is blocks cs s h e t)
  where
    go : EventIs blocks cs s h e t → EventRefused blocks cs s h t n × (p ≡ nowhere)
    go (is_refused m w q) = let z = refused_same (sym q ∙ x) in (subst (EventRefused blocks cs s h t) z.0 w, sym z.1)
    go (is_received f l b q) = absurd (not_result (sym x ∙ q))

pub done_refused : (blocks : List ℕ) (cs : List Chart) (s : Controller) (k : Call) (n p : ℕ) → done_by blocks cs s k ≡ refused n p
    → IsEvent k × (memb n (26 ∷ 15 ∷ 23 ∷ []) ≡ true) × (p ≡ nowhere)
unfolding memb
done_refused blocks cs s turn n p x = absurd (turn_not_refused blocks cs s n p x)
done_refused blocks cs s (event h e t) n p x = let r = event_refused blocks cs s h e t n p x in (tt, go r.0, r.1)
  where
    go : EventRefused blocks cs s h t n → memb n (26 ∷ 15 ∷ 23 ∷ []) ≡ true
    go (not_free q f) = rw q refl
    go (too_late q f l) = rw q refl
    go (too_early q f l b) = rw q refl

-- ---- any list of calls

module _ (files : List ℕ) (bytes : Bytes files) (hs : Heads) (K : ℕ) (cs : List Chart) (accepted : Accepted files hs K cs) (counts : ℕ → List ℕ) where
  fits : Fits K hs.blocks cs
  fits = accepted_fits files bytes hs K cs accepted

  judged : (s : Controller) (es : ℕ → List Step) → AllStand hs.blocks cs counts s es → state_judged files hs K s ≡ returned cs
  unfolding state_judged
  judged s es a = rw (accepted_judged files hs K cs accepted, state_sound a) refl

  decided : (s : Controller) (es : ℕ → List Step) → AllStand hs.blocks cs counts s es
      → (k : Call) → called files hs K s k ≡ done_by hs.blocks cs s k
  decided s es a k = called_is files hs K s (judged s es a) k

  calls_stand : (ks : List Call) (s : Controller) (es : ℕ → List Step) → AllStand hs.blocks cs counts s es
      → AllStand hs.blocks cs counts (after_calls files hs K s ks) (λ h. es h ++ took files hs K h s ks)
  unfolding after_calls took
  calls_stand [] s es a = same_steps (λ h. sym (append-nil _)) a
  calls_stand (k ∷ ks) s es a =
      same_steps (λ h. append_assoc (es h) (steps_in h s (called files hs K s k)) (took files hs K h (state_after s (called files hs K s k)) ks))
      (calls_stand ks (state_after s (called files hs K s k)) (λ h. es h ++ steps_in h s (called files hs K s k))
      (subst (λ (x : Answer Done). AllStand hs.blocks cs counts (state_after s x) (λ h. es h ++ steps_in h s x)) (sym (decided s es a k))
      (call_stands K hs.blocks cs fits counts s es a k)))

  module _ (s : Controller) (es : ℕ → List Step) (a : AllStand hs.blocks cs counts s es) where
    fair : (h : ℕ) → h < length cs → waits (head_at s h) ≡ true → (more : List Call) → length cs ≤ turns_in more
        → Serves files hs K cs h (head_at s h).event (head_at s h).waiting_time (length cs) s more
    fair h b w more l =
        let d = some_distance (length cs) h s.turn b a.turn in
        sooner d.1 (serves_soon files hs K cs fits counts decided h (head_at s h) w b more s es d.0 a refl d.1 d.2 (omega (arith, d.1)))
      where
        sooner : {m : ℕ} → m < length cs → Serves files hs K cs h (head_at s h).event (head_at s h).waiting_time (suc m) s more
            → Serves files hs K cs h (head_at s h).event (head_at s h).waiting_time (length cs) s more
        sooner l x = record {
          before = x.before;
          rest = x.rest;
          parts = x.parts;
          few = omega (arith, x.few);
          chart = x.chart;
          is_chart = x.is_chart;
          still = x.still;
          same_event = x.same_event;
          same_time = x.same_time;
          serves = x.serves;
          gone = x.gone;
        }

    next_turn_lem : (d : Done) → called files hs K s turn ≡ returned d → d.state.turn ≡ next_turn (length cs) s.turn
    unfolding done_by
    next_turn_lem d e =
        ap (λ (y : Done). y.state.turn) (result_same (sym e ∙ decided s es a turn)) ∙ turned_turn hs.blocks cs s a.turn

-- without a refused call the calls after it come to the same
refused_left_out : (files : List ℕ) (hs : Heads) (K : ℕ) (s : Controller) (k : Call) {n p : ℕ} → called files hs K s k ≡ refused n p
    → (more : List Call) → after_calls files hs K s (k ∷ more) ≡ after_calls files hs K s more
unfolding after_calls
refused_left_out files hs K s k r more = ap (λ (y : Answer Done). after_calls files hs K (state_after s y) more) r

pub promise : Promise
unfolding done_by
promise files hs K counts ns bytes s₀ e ks =
    let x = is_set_up files hs K counts ns e in
    let cs : List Chart = x.charts in
    let own : ℕ → List ℕ = head_counts counts ns in
    let ac : Accepted files hs K cs = x.accepts.accepted in
    let ft : Fits K hs.blocks cs = fits files bytes hs K cs ac own in
    let s : Controller = after_calls files hs K s₀ ks in
    let begins : AllStand hs.blocks cs own s₀ (λ h. []) =
    subst (λ (s : Controller). AllStand hs.blocks cs own s (λ h. [])) (sym x.is)
    (start_stands K hs.blocks cs ft (blocks_end K hs.blocks cs ac.blocks) own x.accepts.allowed) in
    let a : AllStand hs.blocks cs own s (λ h. took files hs K h s₀ ks) = calls_stand files bytes hs K cs ac own ks s₀ (λ h. []) begins in
    let jd = judged files bytes hs K cs ac own s _ a in
    let dc = decided files bytes hs K cs ac own s _ a in
    record {
      charts = cs;
      are = accepted_judged files hs K cs ac;
      as_many = as_many files hs cs ac.are;
      some_head = ft.some_head;
      few_heads = ft.few_heads;
      few_timers = ft.few_timers;
      blocks = ft.on_board;
      turn_is = a.turn;
      decided = dc;
      refusals = λ k n p r. done_refused hs.blocks cs s k n p (sym (dc k) ∙ r);
      unchanged = λ k n p r more. refused_left_out files hs K s k r more;
      runs = λ h c n. on_its_run (chart_of_lem files hs cs ac.are h c n) (x.accepts.allowed h c n) (a.each h c n);
      fair = fair files bytes hs K cs ac own s _ a;
      serving = turn_serves files bytes hs K s cs jd a.as_many_counts a.as_many_heads;
      others = called_only files bytes hs K s cs jd a.as_many_counts;
      idle = λ w. dc turn ∙ ap returned (turned_passes hs.blocks cs s w);
      next = next_turn_lem files bytes hs K cs ac own s _ a;
    }
