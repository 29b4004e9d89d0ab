-- `fullest`: the larger of the most so far and the fullest of the sets to come is the fullest of all.
use mathlib.Core.Path.{◌≡◌, sym, ap, ◌∙◌}
use mathlib.Core.List.{List}
use Prim.Native.Nat.{ℕ, max, ◌+◌, ◌<◌}
use native.Mathlib.Omega.{arith}
use native.Mathlib.Numerals.{add-one}
use lib.Count.{ones}
use lib.ListN.{length, get_or, drop}
use lib.Seq.{drop-cons, drop-length}
use Rattle.model.specs.Live.{fullest}
use Rattle.numbering.proofs.floor.fullest.Goals as goal

-- one set more, and no set more
next : (sets : List ℕ) (q : ℕ) → q < length sets → fullest (drop q sets) ≡ max (ones (get_or sets q 0)) (fullest (drop (q + 1) sets))
unfolding fullest
next sets q h = ap fullest (drop-cons sets q 0 h) ∙ ap (λ (k : ℕ). max (ones (get_or sets q 0)) (fullest (drop k sets))) (sym (add-one q))

none : (sets : List ℕ) {q : ℕ} → q ≡ length sets → fullest (drop q sets) ≡ 0
unfolding fullest
none sets e = ap (λ (k : ℕ). fullest (drop k sets)) e ∙ ap fullest (drop-length sets)

pub loop-bits-init : goal.loop-bits-init
loop-bits-init c = omega arith

pub loop-bits-preserved : goal.loop-bits-preserved
loop-bits-preserved c =
    let i = c.loop-bits.bits-index in
    let sets = c.args.sets.now in
    let counted : fullest (drop i sets) ≡ max c.count-count.result (fullest (drop (i + 1) sets)) =
    rw c.count-count.ensures (next sets i (omega arith)) in
    omega (arith, c.loop-bits.invariant, counted)

pub returns : goal.returns
returns c = omega (arith, c.loop-bits.invariant, none c.args.sets.now {q = c.loop-bits.bits-index} (omega arith))
