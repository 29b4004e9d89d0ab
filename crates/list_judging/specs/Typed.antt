-- A header and lists whose entries have the widths that the code gives them.
use Rattle.std.specs.Prelude.{◌<◌, ◌^◌}
use Rattle.lists.specs.Rising.{All}
use Rattle.model.specs.Version.{widest}
use Rattle.chart_lists.specs.Lists.{Lists}
use Rattle.chart_lists.specs.declared.Header.{Header}

-- bytes, two bytes, four bytes and words
pub record Typed (l : Lists) : Type 0 where
  pub accepting : All (λ x. x < 65536) l.accepting
  pub sources : All (λ x. x < 65536) l.sources
  pub targets : All (λ x. x < 65536) l.targets
  pub events : All (λ x. x < 256) l.events
  pub starts : All (λ x. x < 2 ^ 64) l.starts
  pub test_counts : All (λ x. x < 256) l.test_counts
  pub timers : All (λ x. x < 256) l.timers
  pub codes : All (λ x. x < 256) l.codes
  pub constants : All (λ x. x < 256 ^ widest) l.constants

-- the version and the number of timers are bytes, the others have two
pub record TypedHeader (m : Header) : Type 0 where
  pub version : m.version < 256
  pub locations : m.locations < 65536
  pub initial : m.initial < 65536
  pub timers : m.timers < 256
  pub accepting : m.accepting < 65536
  pub transitions : m.transitions < 65536
