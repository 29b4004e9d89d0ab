-- `merge_sets` meets its contract: the sets below q are merged.
use mathlib.Core.Path.{refl, ◌∙◌}
use native.Mathlib.Numerals.{add-one}
use native.Mathlib.Omega.{arith}
use Rattle.twins.proofs.Merging.{mapped_more, mapped_all}
use Rattle.twins.proofs.LowestTwins.merge_sets.Goals as goal

pub loop-q-init : goal.loop-q-init
loop-q-init c = refl

pub merged_set-requires : goal.merged_set-requires
merged_set-requires c = (c.requires.0.each c.loop-q.q (omega arith), c.requires.0.own_are c.loop-q.q (omega arith))

pub loop-q-preserved : goal.loop-q-preserved
loop-q-preserved c =
    let long = c.loop-q.auto.merged ∙ c.requires.1 in
    rw (c.merged_set.ensures, add-one) (mapped_more _ _ c.loop-q.merged c.loop-q.q long c.loop-q.invariant (omega arith))

pub returns : goal.returns
returns c = mapped_all _ _ c.loop-q.merged c.loop-q.q (c.loop-q.auto.merged ∙ c.requires.1) c.loop-q.invariant (omega arith)
