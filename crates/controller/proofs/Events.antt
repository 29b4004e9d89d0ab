-- An event on judged heads and a sound state, one test after another, as the code makes them.
use mathlib.Core.Path.{◌≡◌}
use mathlib.Core.Bool.{true}
use mathlib.Core.List.{List}
use Prim.Native.Nat.{ℕ, ◌≤◌, ◌<◌}
use native.Mathlib.Omega.{arith}
use lib.Dec.{leb}
use lib.ListN.{length}
use borrow.Author.Tests.{lt-ltb, le-ltb, le-leb, lt-leb, eq-eqb, ne_eqb}
use Rattle.model.specs.Answer.{Answer, returned, refused, nowhere}
use Rattle.model.specs.Chart.{Chart}
use Rattle.model.specs.Run.{largest_time}
use Rattle.controller_model.specs.declared.Controller.{Controller}
use Rattle.controller_model.specs.Serving.{head_at, waits}
use Rattle.controller_model.specs.Controlling.{event, receive, free, done_by, state_after, verdict_of}

module _ (s : Controller) (n h e t : ℕ) where
  -- the answer and the state of event e of time t for head h, one of n
  abbrev pub Receives : Answer (Unit {0}) → Controller → Type 0
  Receives v x = ((blocks : List ℕ) (cs : List Chart) → n ≡ length cs → v ≡ verdict_of (done_by blocks cs s (event h e t)))
      × ((blocks : List ℕ) (cs : List Chart) → n ≡ length cs → x ≡ state_after s (done_by blocks cs s (event h e t)))

  -- a refusal without a place, and the state stays
  refuses : (number : ℕ) → ((blocks : List ℕ) (cs : List Chart) → n ≡ length cs → done_by blocks cs s (event h e t) ≡ refused number nowhere)
      → Receives (refused number nowhere) s
  unfolding verdict_of
  refuses number d = (λ blocks cs l. rw (d blocks cs l), λ blocks cs l. rw (d blocks cs l))

  pub no_such_head : n ≤ h → Receives (refused 26 nowhere) s
  unfolding done_by free
  no_such_head o = refuses 26 (λ blocks cs l. rw (le-ltb h (length cs) (omega arith)))

  module _ (b : h < n) where
    pub one_waits : ((head_at s h).waiting ≡ 0 → ⊥) → Receives (refused 26 nowhere) s
    unfolding done_by free waits
    one_waits w = refuses 26 (λ blocks cs l. rw (lt-ltb h (length cs) (omega arith), ne_eqb (head_at s h).waiting 0 w))

    module _ (w : (head_at s h).waiting ≡ 0) where
      pub too_late : largest_time < t → Receives (refused 15 nowhere) s
      unfolding done_by free waits
      too_late o = refuses 15 (λ blocks cs l.
          rw (lt-ltb h (length cs) (omega arith), eq-eqb (head_at s h).waiting 0 w, lt-leb t largest_time o))

      module _ (a : t ≤ largest_time) where
        pub too_early : t < (head_at s h).time → Receives (refused 23 nowhere) s
        unfolding done_by free waits
        too_early o = refuses 23 (λ blocks cs l. rw (
          lt-ltb h (length cs) (omega arith),
          eq-eqb (head_at s h).waiting 0 w,
          le-leb t largest_time a,
          lt-leb (head_at s h).time t o,
        ))

        pub waits_now : (head_at s h).time ≤ t → Receives (returned tt) (receive h e t s)
        unfolding done_by free waits verdict_of
        waits_now o = (λ blocks cs l. rw (free_head cs l, early, late), λ blocks cs l. rw (free_head cs l, early, late))
          where
            free_head : (cs : List Chart) → n ≡ length cs → free (length cs) s h ≡ true
            free_head cs l = rw (lt-ltb h (length cs) (omega arith), eq-eqb (head_at s h).waiting 0 w)

            early : leb t largest_time ≡ true
            early = le-leb t largest_time a

            late : leb (head_at s h).time t ≡ true
            late = le-leb (head_at s h).time t o
