-- 32, one test after another, as the code makes them: the first that fails decides.
use mathlib.Core.Path.{◌≡◌}
use mathlib.Core.Bool.{true, false}
use mathlib.Core.List.{List}
use Prim.Native.Nat.{ℕ, ◌+◌, ◌≤◌, ◌<◌}
use lib.Dec.{leb, eqb}
use lib.ListN.{get_or}
use borrow.Author.Tests.{lt-ltb, le-ltb, le-leb, lt-leb, eq-eqb, ne_eqb}
use Rattle.model.specs.Chart.{Chart}
use Rattle.model.specs.Run.{largest_time}
use Rattle.controller_model.specs.declared.Head.{Head}
use Rattle.controller_model.specs.Parts.{every_below}
use Rattle.controller_model.specs.Serving.{waits}
use Rattle.controller_model.specs.Controlling.{sound_waiting, sound_head}

-- ---- an event that waits

module _ (d : Head) where
  pub nothing_waits : d.waiting ≡ 0 → eqb d.waiting 0 ≡ sound_waiting d
  unfolding sound_waiting waits
  nothing_waits e = rw (eq-eqb d.waiting 0 e)

  module _ (w : d.waiting ≡ 0 → ⊥) where
    pub waits_too_late : largest_time < d.waiting_time → leb d.waiting_time largest_time ≡ sound_waiting d
    unfolding sound_waiting waits
    waits_too_late h = rw (ne_eqb d.waiting 0 w, lt-leb d.waiting_time largest_time h)

    pub waits_allowed : d.waiting_time ≤ largest_time → leb d.time d.waiting_time ≡ sound_waiting d
    unfolding sound_waiting waits
    waits_allowed h = rw (ne_eqb d.waiting 0 w, le-leb d.waiting_time largest_time h)

-- ---- a head

module _ (c : Chart) (d : Head) (own : List ℕ) where
  pub wrong_location : c.locations ≤ d.location → false ≡ sound_head c d own
  unfolding sound_head
  wrong_location h = rw (le-ltb d.location c.locations h)

  module _ (l : d.location < c.locations) where
    pub wrong_time : largest_time < d.time → false ≡ sound_head c d own
    unfolding sound_head
    wrong_time h = rw (lt-ltb d.location c.locations l, lt-leb d.time largest_time h)

    module _ (t : d.time ≤ largest_time) where
      pub wrong_waiting : sound_waiting d ≡ false → false ≡ sound_head c d own
      unfolding sound_head
      wrong_waiting w = rw (lt-ltb d.location c.locations l, le-leb d.time largest_time t, w)

      pub counts_decide : sound_waiting d ≡ true → every_below (λ j. leb (get_or own j 0) (d.time + largest_time)) c.timers ≡ sound_head c d own
      unfolding sound_head
      counts_decide w = rw (lt-ltb d.location c.locations l, le-leb d.time largest_time t, w)
