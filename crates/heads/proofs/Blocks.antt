-- The blocks of timers, one head after another: each long enough for its chart, and all of them on the board.
use mathlib.Core.Path.{◌≡◌, sym, ap}
use mathlib.Core.Bool.{true, false}
use mathlib.Core.Option.{some}
use mathlib.Core.List.{List}
use Prim.Native.Nat.{ℕ, ◌+◌, ◌≤◌, ◌<◌}
use native.Mathlib.Omega.{arith}
use lib.ListN.{length, get_or, get_elem?}
use borrow.Author.Tests.{le-leb}
use Rattle.lists.proofs.Bools.{and_both}
use Rattle.lists.proofs.Nth.{nth_below, get_d_nth}
use Rattle.model.specs.Chart.{Chart}
use Rattle.chart_lists.specs.declared.Header.{Header}
use Rattle.chart_lists.specs.Header.{header_of}
use Rattle.controller_model.specs.Parts.{offset}
use Rattle.controller_model.specs.Headers.{HeadersOf}
use Rattle.controller_model.specs.Heads.{long_enough, blocks_fit}
use Rattle.controller_model.specs.Refusals.UnfitBlocks.{too_long, too_short}
use Rattle.controller_model.proofs.ListParts.{offset_apart, every_in}
use Rattle.controller_model.proofs.Failing.{blocks_fail}

-- what is read where there is no header
abbrev pub no_header : Header
no_header = record { version = 0; locations = 0; initial = 0; timers = 0; accepting = 0; transitions = 0 }

-- the timers of head h, in the code and in its chart
pub timers_of_lem : {cs : List Chart} {headers : List Header} → HeadersOf cs headers → (h : ℕ) (c : Chart) → get_elem? cs h ≡ some c
    → (get_or headers h no_header).timers ≡ c.timers
unfolding header_of
timers_of_lem {headers = headers} are h c e = ap (λ (m : Header). m.timers) (get_d_nth headers h no_header (are.header h c e))

-- the block of head h is long enough, as the code sees it
abbrev pub LongAt : (blocks : List ℕ) → (headers : List Header) → (h : ℕ) → Type 0
LongAt blocks headers h = (get_or headers h no_header).timers ≤ get_or blocks h 0

module _ (K : ℕ) (blocks : List ℕ) {cs : List Chart} {headers : List Header} (are : HeadersOf cs headers) where
  pub blocks_fit_lem : (h : ℕ) → offset blocks h ≤ K → h ≡ length cs → ((g : ℕ) → g < h → LongAt blocks headers g)
      → true ≡ blocks_fit K blocks cs
  unfolding blocks_fit long_enough
  blocks_fit_lem h room e long =
      let fits : offset blocks (length cs) ≤ K = rw (← e) room in
      sym (and_both (le-leb (offset blocks (length cs)) K fits) (every_in (long_enough blocks cs) (length cs) (λ g l. go g l (nth_below cs g l))))
    where
      go : (g : ℕ) → g < length cs → (c : Chart) × (get_elem? cs g ≡ some c) → long_enough blocks cs g ≡ true
      go g l x = rw (x.1, long_enough) (le-leb x.0.timers (get_or blocks g 0) (omega (arith, timers_of_lem are g x.0 x.1, long g (omega arith))))

  pub short_block : (h : ℕ) → h < length cs → get_or blocks h 0 < (get_or headers h no_header).timers → false ≡ blocks_fit K blocks cs
  short_block h l short =
      let x = nth_below cs h l in
      sym ((blocks_fail K blocks cs).1 (too_short h x.0 x.1 (omega (arith, timers_of_lem are h x.0 x.1))))

pub no_room : (K : ℕ) (blocks : List ℕ) (cs : List Chart) (h : ℕ) {rest : ℕ} → rest + offset blocks h ≡ K → h < length cs → rest < get_or blocks h 0
    → false ≡ blocks_fit K blocks cs
no_room K blocks cs h left l over = sym ((blocks_fail K blocks cs).1 (too_long (omega (arith, offset_apart blocks h (length cs) l))))
