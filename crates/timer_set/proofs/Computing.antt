-- What a proof by computation unfolds of this layer and those below: `unfolding sets_compute` stands for these definitions.
use lib.Count.{ones, ones_in}
use Rattle.lists.proofs.Computing.{lists_compute}
use Rattle.timer_set.specs.Members.{member, joined, common, minus, added, removed, every_timer, set_of, members, image}
use Rattle.timer_set.specs.Members.{all_below, lowest_missing, lowest_member}

unfoldable pub sets_compute : Unit {0}
unfolding lists_compute ones ones_in
    member joined common minus added removed every_timer set_of members image all_below lowest_missing lowest_member
sets_compute = tt
