-- 32 on the whole state: the turn, then one head after another. Hard: where the code finds a head's timers is where its block begins, since the
-- blocks lie on the board.
use mathlib.Core.Path.{◌≡◌, subst}
use mathlib.Core.Bool.{Bool, true, false}
use mathlib.Core.List.{List}
use Prim.Native.Nat.{ℕ, ◌+◌, ◌≤◌, ◌<◌, min}
use native.Mathlib.Omega.{arith}
use lib.ListN.{length, get_or}
use borrow.Author.Tests.{lt-ltb, le-ltb}
use Rattle.lists.proofs.Nth.{nth_below, get_d_nth}
use Rattle.model.specs.Chart.{Chart}
use Rattle.chart_lists.specs.declared.Header.{Header}
use Rattle.chart_lists.specs.Header.{header_of}
use Rattle.controller_model.specs.declared.Controller.{Controller}
use Rattle.controller_model.specs.Parts.{offset, stretch}
use Rattle.controller_model.specs.Headers.{HeadersOf}
use Rattle.controller_model.specs.Serving.{head_at}
use Rattle.controller_model.specs.Controlling.{sound_head, sound_at, sound_state}
use Rattle.controller_model.proofs.ListParts.{offset_apart}
use Rattle.heads.proofs.Blocks.{no_header, timers_of_lem}
use Rattle.controller.specs.Judged.{TimersFit}
use Rattle.controller.proofs.Every.{PassTo, pass_all, fails_here}

module _ {blocks : List ℕ} {cs : List Chart} {headers : List Header} (are : HeadersOf cs headers) (fits : TimersFit blocks cs)
    (h : ℕ) (b : h < length cs)
    {o : ℕ} (q : o ≡ min (offset blocks h) 64) where
  -- the head's timers lie on the board
  pub on_board : o + (get_or headers h no_header).timers ≤ 64
  on_board =
      let c = nth_below cs h b in
      omega (arith, timers_of_lem are h c.0 c.1, fits.long h c.0 c.1, offset_apart blocks h (length cs) b, fits.total)

  pub sound_at_lem : (s : Controller) {x : Bool}
      → ((c : Chart) → get_or headers h no_header ≡ header_of c → x ≡ sound_head c (head_at s h) (stretch o c.timers s.counts))
      → x ≡ sound_at blocks cs s h
  unfolding sound_at
  sound_at_lem s {x} says =
      let c = nth_below cs h b in
      let e : o ≡ offset blocks h = omega (arith, offset_apart blocks h (length cs) b, fits.total) in
      rw (c.1, sound_at) (subst (λ (k : ℕ). x ≡ sound_head c.0 (head_at s h) (stretch k c.0.timers s.counts)) e
      (says c.0 (get_d_nth headers h no_header (are.header h c.0 c.1))))

module _ (blocks : List ℕ) (cs : List Chart) (s : Controller) where
  pub no_such_turn : length cs ≤ s.turn → false ≡ sound_state blocks cs s
  unfolding sound_state
  no_such_turn h = rw (le-ltb s.turn (length cs) h)

  module _ (t : s.turn < length cs) where
    pub head_unsound : (h : ℕ) → h < length cs → sound_at blocks cs s h ≡ false → false ≡ sound_state blocks cs s
    unfolding sound_state
    head_unsound h b e = rw (lt-ltb s.turn (length cs) t) (fails_here (sound_at blocks cs s) (length cs) h b e)

    pub all_sound : (h : ℕ) → length cs ≤ h → PassTo (sound_at blocks cs s) h → true ≡ sound_state blocks cs s
    unfolding sound_state
    all_sound h b p = rw (lt-ltb s.turn (length cs) t) (pass_all (sound_at blocks cs s) (length cs) h b p)
