use Rattle.std.proofs.Common.{ℕ}
use Rattle.judgement.specs.Judging.{judged_in}
use Rattle.controller_model.specs.Parts.{part_of}
use Rattle.heads.proofs.InOrder.{FirstJudged}
use Rattle.heads.proofs.judge_files.Given as goal

abbrev pub invariant-loop-h : goal.invariant-loop-h
invariant-loop-h l = FirstJudged (λ (g : ℕ). judged_in (part_of l.setting.heads.lengths g l.setting.files.now)) l.h l.headers
