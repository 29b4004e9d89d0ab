-- `settle` lists the edges by the location that they leave, and lends what the rounds work with.
use mathlib.Core.Path.{refl, sym}
use Prim.Native.Nat.{ℕ}
use native.Mathlib.Omega.{arith}
use lib.ListN.{replicate}
use lib.Seq.{length-take-le}
use Rattle.lists.proofs.Zeros.{take_zeros}
use Rattle.chart_lists.specs.Limits.{most_locations}
use Rattle.flow.proofs.EdgeLists.{adjacency}
use Rattle.flow.proofs.settle.Goals as goal

pub list_edges-requires : goal.list_edges-requires
list_edges-requires c =
    let e = c.requires.safe_edges in (
      omega (arith, e.froms, e.edges),
      omega (arith, e.froms, e.edges),
      refl,
      (λ i l.
          let b = e.from_below i (omega (arith, l, e.froms)) in
          let h = e.into_below i (omega (arith, l, e.froms)) in
          omega (arith, b, h, e.locations)),
    )

pub slice_bounds-make_rounds-end-3 : goal.slice_bounds-make_rounds-end-3
slice_bounds-make_rounds-end-3 c = sym (length-take-le _ (replicate {A = ℕ} most_locations 0) c.requires.safe_edges.locations)

pub make_rounds-requires : goal.make_rounds-requires
make_rounds-requires c =
    let e = c.requires.safe_edges in (
      e,
      c.requires.sets_len,
      take_zeros _ most_locations e.locations,
      adjacency e (omega (arith, e.locations, c.list_edges.auto.first)) c.list_edges.ensures.firsts c.list_edges.ensures.nexts,
    )
