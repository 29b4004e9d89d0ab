-- `sound_counts` looks at one count after another.
use mathlib.Core.Path.{◌∙◌}
use Prim.Native.Nat.{◌+◌, ◌-◌}
use native.Mathlib.Omega.{arith}
use lib.Dec.{leb}
use lib.ListN.{take, drop}
use Rattle.std.proofs.Common.{rules, tests}
use Rattle.std.proofs.lemmas.Iterator.{YieldsList-from_slice}
use Rattle.std.proofs.lemmas.Iterator.Search.{all_from_yields_List}
use Rattle.controller.proofs.Every.{all_in_stretch}
use Rattle.controller.proofs.state.sound_counts.Goals as goal

pub returns : goal.returns
returns c =
    let bound = c.args.bound in
    let part = take (c.args.o + c.args.n - c.args.o) (drop c.args.o c.args.counts) in
    all_from_yields_List {all = part} (λ x. leb x bound) _ _ c.all.result c.all.ensures.ran
    (YieldsList-from_slice part cc) (λ x b q k. search (rules, tests))
    ∙ all_in_stretch bound c.args.o c.args.n c.args.counts (omega arith)
