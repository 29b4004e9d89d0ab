-- What the parts of the walk ask of the lists, and what they leave in them.
use Rattle.std.specs.Prelude.{◌≡◌, List, ◌++◌, ℕ, ◌+◌, ◌*◌, ◌≤◌, length, take, set, drop, Result, Ok, Err}
use Rattle.model.specs.Answer.{Answer, returned, unless, nowhere}
use Rattle.model.specs.Chart.{Test, Transition}
use Rattle.model.specs.Live.{starts_set}
use Rattle.refusal.specs.declared.Refusal.{Refusal}
use Rattle.refusal.specs.Refused.{refused_as}
use Rattle.chart_lists.specs.declared.Header.{Header}
use Rattle.chart_lists.specs.Limits.{most_locations}
use Rattle.chart_lists.specs.Lists.{all_tests, put, codes_of, constants_of, events_of, sources_of, starts_of, targets_of, test_counts_of, timers_of}
use Rattle.file_format.specs.Parse.{value}
use Rattle.file_format.specs.Body.{FileHeader, read_header, read_transitions, is_end}
use Rattle.fields.specs.declared.record.Head.{Head}
use Rattle.fields.specs.Parts.{read_head}

-- ---- room

-- so much is enough for the accepting locations of any header, or of the one that bs begins with
pub data AcceptingFit (bs : List ℕ) (room : ℕ) : Type 0 where
  of_any : most_locations ≤ room → AcceptingFit bs room
  of_this : (h : FileHeader) (t : List ℕ) → read_header bs ≡ value h t → length h.accepting ≤ room → AcceptingFit bs room

-- lists of these lengths have each room for so many
pub record Enough (n a b c : ℕ) : Type 0 where
  pub timers : n ≤ a
  pub codes : n ≤ b
  pub constants : n ≤ c

-- they have room for the tests of the transition that bs begins with, its constants in W bytes, behind the first base entries
pub record RecordFits (W locations timers k base : ℕ) (bs : List ℕ) (a b c : ℕ) : Type 0 where
  pub fits : (h : Head) (t : List ℕ) → read_head W locations timers k bs ≡ value h t → Enough (base + h.tests) a b c

-- they have room for 8 tests of each of n transitions, or for those of the transitions that bs begins with
pub data TestsFit (W locations timers n : ℕ) (bs : List ℕ) (a b c : ℕ) : Type 0 where
  of_any : Enough (8 * n) a b c → TestsFit W locations timers n bs a b c
  of_these : (rs : List Transition) (t : List ℕ) → read_transitions W locations timers n bs ≡ value rs t → Enough (length (all_tests rs)) a b c
      → TestsFit W locations timers n bs a b c

-- ---- what is stored

-- xs in l behind its first base entries; these and what is beyond stay
unfoldable pub put_at : (base : ℕ) → (xs l : List ℕ) → List ℕ
put_at base xs l = put (take base l ++ xs) l

-- from five lists five others: a transition's numbers in the entries k
pub record HeadStored (r : Transition) (k : ℕ) (a b c d e a' b' c' d' e' : List ℕ) : Type 0 where
  pub sources : a' ≡ set a k r.source
  pub targets : b' ≡ set b k r.target
  pub events : c' ≡ set c k r.event
  pub starts : d' ≡ set d k (starts_set r)
  pub test_counts : e' ≡ set e k (length r.tests)

-- from five lists five others: the transitions' numbers over their fronts
pub record HeadsStored (rs : List Transition) (a b c d e a' b' c' d' e' : List ℕ) : Type 0 where
  pub sources : a' ≡ put (sources_of rs) a
  pub targets : b' ≡ put (targets_of rs) b
  pub events : c' ≡ put (events_of rs) c
  pub starts : d' ≡ put (starts_of rs) d
  pub test_counts : e' ≡ put (test_counts_of rs) e

-- from three lists three others: the tests' numbers behind the first base entries
pub record TestsStored (ts : List Test) (base : ℕ) (a b c a' b' c' : List ℕ) : Type 0 where
  pub timers : a' ≡ put_at base (timers_of ts) a
  pub codes : b' ≡ put_at base (codes_of ts) b
  pub constants : c' ≡ put_at base (constants_of ts) c

-- ---- the end

-- what the whole comes to once its transitions are read: 3 if bytes are left
abbrev pub ended_as : List ℕ → Header → Result (ℕ × ℕ) Refusal → Answer Header
ended_as s m (Ok (x, next)) = unless (is_end (drop next s)) 3 nowhere (returned m)
ended_as s m (Err f) = refused_as f
