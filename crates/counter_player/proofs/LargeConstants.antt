-- 18 by the list of constants: as many of its first entries as the chart has tests decide.
use Rattle.std.proofs.Common.{◌≡◌, ℕ, ◌≤◌, length, sym, ◌∙◌, arith}
use lib.ListN.{length-map}
use Rattle.model.specs.Chart.{Test, Chart}
use Rattle.model.specs.Version.{large_constant}
use Rattle.chart_lists.specs.Lists.{Lists, all_tests, constants_of, lists_of}
use Rattle.chart_lists.specs.Begins.{Begins}
use Rattle.chart_lists.specs.Holds.{Holds}
use Rattle.chart_lists.specs.Large.{large_among}
use Rattle.chart_lists.proofs.Begins.{begins_room}
use Rattle.chart_lists.proofs.Large.{large_among_lem}

module _ {c : Chart} {l : Lists} (held : Holds c l) {n : ℕ} (e : n ≡ length (all_tests c.transitions)) where
  begins : Begins (constants_of (all_tests c.transitions)) l.constants
  unfolding lists_of
  begins = held.constants

  number : n ≡ length (constants_of (all_tests c.transitions))
  number = e ∙ sym (length-map (all_tests c.transitions) (λ (t : Test). t.constant))

  pub constants_room : n ≤ length l.constants
  constants_room = omega (arith, number, begins_room begins)

  pub constants_large : large_constant c ≡ large_among n l.constants
  unfolding large_constant
  constants_large = large_among_lem c.transitions begins number
