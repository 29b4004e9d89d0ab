use Rattle.std.proofs.Common.{◌≡◌, List, ℕ, length, drop}
use Rattle.model.specs.Answer.{returned}
use Rattle.model.specs.Chart.{Chart}
use Rattle.controller_model.specs.Heads.{counts_in_order, head_counts}
use Rattle.controller_model.specs.Headers.{HeadersOf}
use Rattle.heads.proofs.judge_counts.Given as goal

abbrev pub invariant-loop-h : goal.invariant-loop-h
invariant-loop-h l = let own : ℕ → List ℕ = head_counts l.counts l.parts in
    (cs : List Chart) → l.n ≡ length cs → HeadersOf cs l.headers
    → counts_in_order own 0 cs (returned tt) ≡ counts_in_order own l.h (drop l.h cs) (returned (tt {0}))
