-- `number_live` meets its contract: each call is handed what the one before left. What is hard is only to name it.
use mathlib.Core.Path.{◌≡◌, sym, ap, ◌∙◌}
use mathlib.Core.List.{List}
use Prim.Native.Nat.{ℕ, ◌*◌, ◌≤◌}
use lib.ListN.{length}
use native.Mathlib.Omega.{arith}
use Rattle.twins.proofs.LiveNumbers.{few, asked, merged_safe, as_many, first_cells, only_merged, live_numbered}
use Rattle.twins.proofs.live.number_live.Goals as goal

-- there is an entry for each timer
room : (lowest : List ℕ) (timers : ℕ) → timers ≤ 64 → length lowest ≡ 64 → timers ≤ length lowest
room lowest timers h e = omega arith

pub merge_sets-requires : goal.merge_sets-requires
merge_sets-requires c =
    let a = c.requires.0.1 in
    let own = c.lowest_twins-own in
    (asked a own.new.lowest (room _ _ (few a) own.auto.lowest) own.ensures.listed own.ensures.own, c.requires.1)

pub allocate-allocated-requires : goal.allocate-allocated-requires
allocate-allocated-requires c =
    let a = c.requires.0.1 in
    let own = c.lowest_twins-own in
    let there = room own.new.lowest _ (few a) own.auto.lowest in
    let long = as_many a own.new.lowest there own.ensures.listed c.merge_sets.ensures in (
      merged_safe a own.new.lowest there own.ensures.listed c.merge_sets.ensures,
      c.requires.2 ∙ ap (λ (n : ℕ). 64 * n) (sym long),
      c.requires.3 ∙ sym long,
    )

pub share_numbers-requires : goal.share_numbers-requires
share_numbers-requires c =
    let a = c.requires.0.1 in
    let own = c.lowest_twins-own in (
      asked a own.new.lowest (room _ _ (few a) own.auto.lowest) own.ensures.listed own.ensures.own,
      c.allocate-allocated.auto.cells ∙ c.requires.2,
    )

pub returns : goal.returns
returns c = λ chart g.
    let own = c.lowest_twins-own in
    let l = own.new.lowest in
    let there = room l _ (few g) own.auto.lowest in
    live_numbered g l there own.ensures.listed c.merge_sets.ensures
    (c.share_numbers.ensures _
    (first_cells g l there own.ensures.listed c.merge_sets.ensures c.allocate-allocated.ensures.cells)
    (only_merged g l there own.ensures.listed c.merge_sets.ensures))
    c.allocate-allocated.ensures.used c.allocate-allocated.ensures.families c.allocate-allocated.ensures.at
