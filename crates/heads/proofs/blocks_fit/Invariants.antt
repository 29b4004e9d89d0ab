use Rattle.std.proofs.Common.{◌≡◌, ◌+◌, ◌<◌, ℕ}
use Rattle.controller_model.specs.Parts.{offset}
use Rattle.heads.proofs.Blocks.{LongAt}
use Rattle.heads.proofs.blocks_fit.Given as goal

abbrev pub invariant-loop-h : goal.invariant-loop-h
invariant-loop-h l = (l.rest + offset l.blocks l.h ≡ l.k) × ((g : ℕ) → g < l.h → LongAt l.blocks l.headers g)
