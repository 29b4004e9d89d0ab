-- `first_round` starts from the locations' own sets and joins to them what each edge gains, one edge a turn: the invariant is the definition's fold,
-- cut off after as many edges as have been yielded.
use Rattle.std.proofs.Common.{◌≡◌, ◌<◌, length, get_or, length-set, ap, ◌∙◌, arith, rules}
use Rattle.std.proofs.lemmas.Slice.Zip.{zip_turn, zip_end}
use Rattle.std.proofs.lemmas.List.{length_push}
use native.Mathlib.Numerals.{add-one}
use Rattle.flow.proofs.EdgeLists.{round_start, round_step, round_end}
use Rattle.flow.proofs.first_round.Goals as goal
use Rattle.flow.proofs.first_round.Goals.{In-Some}

-- the edge of this turn
turn : (c : In-Some)
    → (length c.loop-q.yielded < length c.args.into.now) × (c.in-Some.field-0-0.now ≡ get_or c.args.into.now (length c.loop-q.yielded) 0)
    × (c.in-Some.field-0-1.now ≡ get_or c.args.gain.now (length c.loop-q.yielded) 0)
turn c =
    let t = zip_turn c.args.into.now c.args.gain.now c.loop-q.yielded c.into_iter-q-iterator.result c.loop-q.q-iterator c.next.new.self c.next.result
    (search rules) (search rules) c.loop-q.yielded_by (c.in-Some.field-0-0, c.in-Some.field-0-1) c.in-Some.is c.next.ensures.steps in
    (t.0, t.2 0, t.3 0)

pub loop-q-init : goal.loop-q-init
loop-q-init c = (ap length c.copy_from_slice.ensures.after, (λ from cut. c.copy_from_slice.ensures.after ∙ round_start _ _ _ _ _))

pub loop-q-preserved : goal.loop-q-preserved
loop-q-preserved c =
    let t = turn (goal.at.loop-q-preserved c).In-Some in
    let v = c.loop-q.invariant in (
      simp length-set v.0,
      (λ from cut. rw (length_push, t.1) (rw add-one (round_step _ _ _ _ _ (length c.loop-q.yielded) c.loop-q.after _ t.0 (v.1 from cut) cc))),
    )

pub returns : goal.returns
returns c = λ from cut.
    let t = zip_end c.args.into.now c.args.gain.now c.loop-q.yielded c.into_iter-q-iterator.result c.loop-q.q-iterator c.next.new.self c.next.result
    (search rules) (search rules) c.loop-q.yielded_by c.in-None.is c.next.ensures.steps in
    round_end _ _ _ _ _ (length c.loop-q.yielded) _ (omega (arith, t, c.requires.0)) (c.loop-q.invariant.1 from cut)
