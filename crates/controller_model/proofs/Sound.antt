-- Heads that stand at the ends of their runs are a sound state: 32 does not refuse it.
use mathlib.Core.Path.{◌≡◌, refl}
use mathlib.Core.Bool.{Bool, true, false, ◌&&◌, ◌||◌, not}
use mathlib.Core.Option.{Option, none, some}
use mathlib.Core.List.{List}
use Prim.Native.Nat.{ℕ, ◌+◌}
use native.Mathlib.Omega.{arith}
use lib.Dec.{leb}
use lib.ListN.{length, get_or, get_elem?}
use borrow.Author.Tests.{le-leb, lt-ltb}
use Rattle.lists.proofs.Bools.{and_both}
use Rattle.model.specs.Chart.{Chart}
use Rattle.model.specs.Run.{Counts, Step, largest_time}
use Rattle.controller_model.specs.declared.Head.{Head}
use Rattle.controller_model.specs.declared.Controller.{Controller}
use Rattle.controller_model.specs.Parts.{stretch}
use Rattle.controller_model.specs.Serving.{waits}
use Rattle.controller_model.specs.Controlling.{sound_waiting, sound_head, sound_at, sound_state}
use Rattle.controller_model.proofs.ListParts.{stretch_at, every_in}
use Rattle.controller_model.proofs.Standing.{Stands}
use Rattle.controller_model.proofs.Turns.{AllStand}

head_sound : {c : Chart} {o : ℕ} {v₀ : Counts} {d : Head} {l : List ℕ} {es : List Step} → Stands c o v₀ d l es
    → sound_head c d (stretch o c.timers l) ≡ true
unfolding sound_head sound_waiting
head_sound {c} {o} {v₀} {d} {l} {es} s =
    and_both (lt-ltb d.location c.locations s.location)
    (and_both (le-leb d.time largest_time s.time)
    (and_both (go (waits d) refl)
    (every_in (λ j. leb (get_or (stretch o c.timers l) j 0) (d.time + largest_time)) c.timers
    (λ j b. le-leb _ (d.time + largest_time) (omega (arith, stretch_at o c.timers l j b, s.small j b))))))
  where
    go : (w : Bool) → waits d ≡ w → (not w || (leb d.waiting_time largest_time && leb d.time d.waiting_time)) ≡ true
    go false e = refl
    go true e =
        and_both (le-leb d.waiting_time largest_time (s.waiting e).1) (le-leb d.time d.waiting_time (s.waiting e).0)

pub state_sound : {blocks : List ℕ} {cs : List Chart} {counts : ℕ → List ℕ} {s : Controller} {es : ℕ → List Step} → AllStand blocks cs counts s es
    → sound_state blocks cs s ≡ true
unfolding sound_state sound_at
state_sound {blocks} {cs} {counts} {s} {es} a =
    and_both (lt-ltb s.turn (length cs) a.turn) (every_in (sound_at blocks cs s) (length cs) (λ h b. go h (get_elem? cs h) refl))
  where
    go : (h : ℕ) (x : Option Chart) → get_elem? cs h ≡ x → sound_at blocks cs s h ≡ true
    go h none e = rw (e, sound_at) refl
    go h (some c) e = rw (e, sound_at) (head_sound (a.each h c e))
