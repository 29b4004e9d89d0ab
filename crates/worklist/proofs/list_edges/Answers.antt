-- `list_edges` goes from the last edge to the first, and lists one a turn (Leaving).
use Rattle.std.proofs.Common.{◌≡◌, List, ℕ, ◌-◌, ◌<◌, ◌≤◌, length, get_or, length-set, refl, arith}
use native.Mathlib.Nat.{le_refl}
use Rattle.worklist.proofs.Leaving.{listed_none, listed_more, listed_firsts, listed_nexts}
use Rattle.worklist.proofs.list_edges.Goals as goal

-- the edge that a turn lists leaves a location
source : (from first : List ℕ) (m i : ℕ) → ((j : ℕ) → j < length from → get_or from j 0 < m) → length first ≡ m → 0 < i → i ≤ length from
    → get_or from (i - 1) 0 < length first
source from first m i h e l b = omega (arith, h (i - 1) (omega arith), e)

pub loop-i-init : goal.loop-i-init
loop-i-init c = (le_refl _, refl, refl, listed_none _ _ _ c.requires.0 c.requires.2)

pub overflow_cast-q : goal.overflow_cast-q
overflow_cast-q c = omega (arith, (c.type_inv.from (c.loop-i.i - 1)).fits)

pub offset_bounds-first-q : goal.offset_bounds-first-q
offset_bounds-first-q c = omega (arith, (c.type_inv.from (c.loop-i.i - 1)).fits)

pub bounds-first-q : goal.bounds-first-q
bounds-first-q c = let v = c.loop-i.invariant in source _ _ _ c.loop-i.i c.requires.3 v.1 (omega arith) v.0

pub offset_bounds-first-q-in-loop-i : goal.offset_bounds-first-q-in-loop-i
offset_bounds-first-q-in-loop-i c = omega (arith, (c.type_inv.from (c.loop-i.i - 1)).fits)

pub bounds-first-q-in-loop-i : goal.bounds-first-q-in-loop-i
bounds-first-q-in-loop-i c = let v = c.loop-i.invariant in source _ _ _ c.loop-i.i c.requires.3 v.1 (omega arith) v.0

pub loop-i-preserved : goal.loop-i-preserved
loop-i-preserved c =
    let v = c.loop-i.invariant in
    let below : c.loop-i.i - 1 < length c.args.from.now = omega (arith, c.loop-i-test.true, v.0) in (
      omega (arith, below),
      rw length-set v.1,
      rw length-set v.2,
      listed_more v.3 (c.loop-i.i - 1) (omega (arith, c.loop-i-test.true)) below
          (source _ _ _ c.loop-i.i c.requires.3 v.1 (omega arith) v.0)
          (omega (arith, below, c.requires.1, v.2)),
    )

pub returns : goal.returns
returns c =
    let v = c.loop-i.invariant in
    let none_left : c.loop-i.i ≡ 0 = omega (arith, c.loop-i-test.false) in
    record {
      firsts = listed_firsts v.3 none_left;
      nexts = listed_nexts v.3 none_left (omega (arith, c.requires.1, v.2));
    }
