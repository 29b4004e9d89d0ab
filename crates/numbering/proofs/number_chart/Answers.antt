-- `number_chart`: where the version of a chart that was judged allows no spare location, all of it counts.
use mathlib.Core.Path.{◌≡◌, sym, ap, ◌∙◌}
use mathlib.Core.Bool.{false}
use Rattle.model.specs.Version.{allows_spare}
use Rattle.chart_lists.specs.declared.Header.{Header}
use Rattle.chart_lists.specs.Header.{header_of}
use Rattle.numbering.proofs.Settling.{whole_numbered}
use Rattle.numbering.proofs.number_chart.Goals as goal

pub number_part-requires : goal.number_part-requires
number_part-requires c = ((c.requires.0.0, c.requires.0.1), c.requires.1, c.requires.2, c.requires.3, c.requires.4)

pub number_lists-requires : goal.number_lists-requires
number_lists-requires c = ((c.requires.0.0, c.requires.0.1), c.requires.1, c.requires.2, c.requires.3, c.requires.4)

pub returns-then-allows_spare : goal.returns-then-allows_spare
returns-then-allows_spare c chart h reached = c.number_part.ensures chart h

pub returns-else-allows_spare : goal.returns-else-allows_spare
unfolding header_of
returns-else-allows_spare c chart h reached =
    let none : allows_spare (header_of chart).version ≡ false =
    sym (ap (λ (m : Header). allows_spare m.version) h.header_is) ∙ sym c.allows_spare.ensures ∙ c.if-allows_spare.false in
    whole_numbered h.edges.valid (reached none) (c.number_lists.ensures chart h)
