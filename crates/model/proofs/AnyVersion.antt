-- Live sets and their rounds, families and their numbers, the floor and runs do not look at a chart's version; the judgement, the rewriting and the
-- player look at it only for whether locations may be spare. No other definition reads it; only a step list is gone through.
use mathlib.Core.Path.{◌≡◌, refl, sym, ap, ◌∙◌}
use mathlib.Core.Logic.{inl, inr}
use mathlib.Core.Bool.{Bool, true, false, not, ◌||◌}
use mathlib.Core.List.{List, [], ◌∷◌}
use Prim.Native.Nat.{ℕ, suc}
use lib.Dec.{leb}
use lib.ListN.{length}
use Rattle.model.specs.Answer.{Answer, returned, then, unless, nowhere}
use Rattle.model.specs.Chart.{Chart}
use Rattle.model.specs.Version.{in_version, allows_spare}
use Rattle.model.specs.Valid.{Valid}
use Rattle.model.specs.Run.{State, Step, enabled, attempt, steps, begin, outcome, accepts}
use Rattle.model.specs.Live.{at_initial, live_flow, unstarted_flow, reached_flow}
use Rattle.model.specs.Live.{live_sets, live_rounds, unstarted_sets, reached_sets, first_unreached, first_unstarted}
use Rattle.model.specs.Spare.{reached_part, spare_cleared}
use Rattle.model.specs.Twins.{lowest_twin, merged_sets}
use Rattle.model.specs.Family.{live_pairs}
use Rattle.model.specs.FirstFit.{board, used_by, blocked}
use Rattle.model.specs.Floor.{floor, searched}
use Rattle.model.specs.Rewrite.{rewritten_by, rewritten, board_numbering}
use Rattle.model.specs.Judge.{Rewriting, judged, fitted, rewriting}
use Rattle.model.specs.Player.{arrival, answer_of, counts_judged, steps_of, played_on, played}
use Rattle.model.specs.AnyVersion.{SameInVersion, SpareAlike, JudgedInVersion}
use Rattle.lists.proofs.Bools.{or_right}
use Rattle.model.proofs.Answers.{then_then, then_same}
use Rattle.model.proofs.Judgement.{none_unreached}

module _ (version : ℕ) (c : Chart) where
  same_steps : (allowed : ℕ → Bool) (n : ℕ) (s : State) (es : List Step)
      → steps allowed (in_version version c) n s es ≡ steps allowed c n s es
  unfolding in_version steps attempt enabled
  same_steps allowed n s [] = refl
  same_steps allowed n s (e ∷ es) = then_same (attempt allowed c n s e) _ _ (λ t. same_steps allowed (suc n) t es)

  module _ {W : ℕ} (valid : Valid W c) (alike : SpareAlike version c) where
    -- 9 refuses in both or in neither
    spared : (allows_spare version || leb c.locations (first_unreached c)) ≡ (allows_spare c.version || leb c.locations (first_unreached c))
    spared = go alike
      where
        go : SpareAlike version c
            → (allows_spare version || leb c.locations (first_unreached c)) ≡ (allows_spare c.version || leb c.locations (first_unreached c))
        go (inl e) = ap (λ (b : Bool). b || leb c.locations (first_unreached c)) e
        go (inr all) =
            let e = none_unreached valid all in
            or_right (allows_spare version) e ∙ sym (or_right (allows_spare c.version) e)

    same_judged : judged (in_version version c) ≡ then (judged c) (λ d. returned (in_version version d))
    unfolding in_version judged first_unreached first_unstarted reached_sets unstarted_sets reached_flow unstarted_flow at_initial
    same_judged =
        ap (λ (a : Bool). answer a (leb (length c.transitions) (first_unstarted c)) (in_version version c)) spared
        ∙ go (allows_spare c.version || leb c.locations (first_unreached c)) (leb (length c.transitions) (first_unstarted c))
      where
        answer : (a b : Bool) → Chart → Answer Chart
        answer a b d = unless a 9 (first_unreached c) (unless b 10 (first_unstarted c) (returned d))

        go : (a b : Bool) → answer a b (in_version version c) ≡ then (answer a b c) (λ d. returned (in_version version d))
        go false b = refl
        go true false = refl
        go true true = refl

    -- what comes after the judgement, which answers the chart itself
    after_judged : {A : Type 0} (f : Chart → Answer A) → then (judged (in_version version c)) f ≡ then (judged c) (λ d. f (in_version version d))
    after_judged f = ap (λ x. then x f) same_judged ∙ then_then (judged c) _ f

same_fitted : (version K : ℕ) (c : Chart) → fitted K (in_version version c)
    ≡ then (fitted K c) (λ x. returned (record { used = x.used; chart = in_version version x.chart }))
unfolding in_version fitted board live_pairs merged_sets lowest_twin live_sets live_flow board_numbering rewritten_by rewritten
    reached_part spare_cleared reached_sets reached_flow at_initial
same_fitted version K c = go (leb K 64) (not (blocked K (board (reached_part c))))
  where
    made : Chart → Rewriting
    made d = record { used = used_by (board (reached_part c)); chart = rewritten_by (board_numbering (reached_part c)) (spare_cleared d) }

    go : (a b : Bool) → unless a 11 nowhere (unless b 20 nowhere (returned (made (in_version version c))))
        ≡ then (unless a 11 nowhere (unless b 20 nowhere (returned (made c))))
        (λ x. returned (record { used = x.used; chart = in_version version x.chart }))
    go false b = refl
    go true false = refl
    go true true = refl

same_played_on : (version : ℕ) (c : Chart) (counts is ts : List ℕ) → played_on counts is ts (in_version version c) ≡ played_on counts is ts c
unfolding in_version counts_judged answer_of outcome begin arrival accepts
same_played_on version c counts is ts = rw (same_steps version c _ 0 _ (steps_of is ts))

pub same_in_version : (version : ℕ) (c : Chart) → SameInVersion version c
unfolding in_version live_sets live_rounds live_flow board live_pairs merged_sets lowest_twin floor searched outcome begin
    reached_part reached_sets reached_flow at_initial
same_in_version version c = record {
  same_live = refl;
  same_board = refl;
  same_floor = refl;
  same_searched = refl;
  same_rounds = refl;
  same_outcome = λ allowed v es. same_steps version c allowed 0 (begin c v) es;
}

pub judged_in_version : {W : ℕ} (version : ℕ) (c : Chart) → Valid W c → SpareAlike version c → JudgedInVersion version c
unfolding rewriting played
judged_in_version version c valid alike = record {
  same_judged = same_judged version c valid alike;
  same_rewriting = λ K.
      after_judged version c valid alike (fitted K) ∙ then_same (judged c) _ _ (same_fitted version K) ∙ sym (then_then (judged c) (fitted K) _);
  same_played = λ counts is ts.
      after_judged version c valid alike (played_on counts is ts) ∙ then_same (judged c) _ _ (λ d. same_played_on version d counts is ts);
}
