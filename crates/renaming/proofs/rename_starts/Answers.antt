-- `rename_starts` meets its contract: the sets of the first i transitions are renamed, for whichever chart and numbering the lists are of; what a
-- turn may read follows from the one that is given.
use mathlib.Core.Path.{◌≡◌, refl, ap, ◌∙◌, subst₂}
use mathlib.Core.List.{List}
use Prim.Native.Nat.{ℕ, ◌<◌}
use native.Mathlib.Omega.{arith}
use lib.ListN.{length}
use Rattle.chart_lists.specs.Lists.{put}
use Rattle.chart_lists.proofs.Fronts.{transitions_are}
use Rattle.chart_lists.proofs.InTurn.{nth_transition, target_at, starts_at}
use Rattle.renaming.specs.Renaming.{RenamedTo}
use Rattle.renaming.proofs.Sets.{starts_all, starts_more}
use Rattle.renaming.proofs.Turns.{starts_turn}
use Rattle.renaming.proofs.rename_starts.Goals as goal

pub loop-i-init : goal.loop-i-init
unfolding put
loop-i-init c = λ chart N e h s. refl

pub bounds-targets-i : goal.bounds-targets-i
bounds-targets-i c = let q = c.requires.0 in (starts_turn q.0 q.2 q.4 c.loop-i-test.true q.3).in_locations

pub bounds-starts-i : goal.bounds-starts-i
bounds-starts-i c = let q = c.requires.0 in (starts_turn q.0 q.2 q.4 c.loop-i-test.true q.3).in_others

pub renamed_set-requires : goal.renamed_set-requires
renamed_set-requires c =
    let q = c.requires.0 in
    let turn = starts_turn q.0 q.2 q.4 c.loop-i-test.true q.3 in
    (turn.few, turn.row)

pub bounds-renamed-i : goal.bounds-renamed-i
bounds-renamed-i c = omega (arith, c.loop-i.auto.renamed, c.requires.1)

pub loop-i-preserved : goal.loop-i-preserved
loop-i-preserved c = λ chart N e h s.
    let room : c.loop-i.i < length c.args.renamed.now = omega (arith, c.requires.1) in
    let n = (nth_transition chart c.loop-i.i (omega arith)).1 in
    let v = subst₂ (λ (q w : ℕ). RenamedTo c.args.cells.now q w 0 c.renamed_set.result.bits) (target_at n h.targets)
    (starts_at n h.starts)
    c.renamed_set.ensures in
    starts_more h.valid s n c.args.renamed.now room (c.loop-i.invariant chart N e h s) v

pub returns : goal.returns
returns c = λ chart N is h s.
    let all : c.loop-i.i ≡ length chart.transitions = omega (arith, transitions_are chart is) in
    c.loop-i.invariant chart N (transitions_are chart is) h s ∙ ap (λ (w : List ℕ). put w c.args.renamed.now) (starts_all chart N all)
