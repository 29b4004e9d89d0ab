-- `join_into`: a set that grows has a larger sum, and its location waits.
use Rattle.std.proofs.Common.{arith, sym, ◌∙◌}
use Rattle.worklist.proofs.Waiting.{joined_into_none, joined_into_more, sum_more}
use Rattle.worklist.proofs.join_into.Goals as goal

pub returns-then-grown-old : goal.returns-then-grown-old
returns-then-grown-old c = record {
  joined = joined_into_none (sym c.join-grown.ensures ∙ c.if-grown-old.true);
  worklist = c.requires.1;
  less = omega arith;
}

pub returns : goal.returns
returns c =
    let more = sum_more c.args.target c.args.timers c.args.sets.now c.join-grown.ensures c.requires.0 c.if-grown-old.false in
    record {
      joined = joined_into_more _ _ _ c.join-grown.ensures c.push.ensures.idle;
      worklist = c.push.ensures.worklist _ c.requires.0 c.requires.1;
      less = omega (arith, c.push.ensures.more, more);
    }
