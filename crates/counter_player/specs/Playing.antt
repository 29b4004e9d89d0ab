-- What an answer of the counter board's player means.
use Rattle.counter_model.specs.CounterPlayer.{CounterArrival}
use Rattle.counter_player.specs.declared.CounterArrival.{CounterArrival as Code·CounterArrival}

-- what an arrival of the code means
abbrev pub counter_arrival_as : Code·CounterArrival → CounterArrival
counter_arrival_as x = record { location = x.location; accepting = x.accepting }
