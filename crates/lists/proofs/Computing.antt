-- What a proof by computation unfolds of this layer: `unfolding lists_compute` stands for these definitions.
use mathlib.Core.Bool.{xor}
use mathlib.Core.List.{filter_map}
use Rattle.lists.specs.Lists.{memb, any_of, filtered, first_of, lowest, gather, up_to, pick, top, sum_of}

unfoldable pub lists_compute : Unit {0}
unfolding xor filter_map memb any_of filtered first_of lowest gather up_to pick top sum_of
lists_compute = tt
