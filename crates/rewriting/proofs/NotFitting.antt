-- Two rewritings that do not fit a board of one timer (`FitsBoard`): one whose chart tests timer 1 although one timer is used, and one that uses two.
use mathlib.Core.Path.{refl}
use mathlib.Core.List.{[], ◌∷◌}
use native.Mathlib.Omega.{arith}
use Rattle.comparison.specs.declared.Comparison.TheVariants.{AtMost}
use Rattle.lists.specs.Lists.{any_of}
use Rattle.model.specs.Chart.{Transition, Chart, tested}
use Rattle.model.specs.Judge.{Rewriting}
use Rattle.rewriting.specs.Returned.{FitsBoard}

-- tests timer 1
abbrev testing : Transition
testing = record { source = 0; target = 0; event = 0; starts = []; tests = record { timer = 1; comparison = AtMost; constant = 0 } ∷ [] }

abbrev chart : Chart
chart = record { version = 1; locations = 1; initial = 0; timers = 2; accepting = []; transitions = testing ∷ [] }

abbrev pub named_beyond : Rewriting
named_beyond = record { used = 1; chart = chart }

pub named_beyond_fits_not : FitsBoard 1 named_beyond → ⊥
named_beyond_fits_not f = absurd (omega (arith, (f.names_below 0 testing (record { there = refl })).tests 1 (unfold tested any_of in refl)))

abbrev pub used_beyond : Rewriting
used_beyond = record { used = 2; chart = chart }

pub used_beyond_fits_not : FitsBoard 1 used_beyond → ⊥
used_beyond_fits_not f = absurd (omega (arith, f.fits))
