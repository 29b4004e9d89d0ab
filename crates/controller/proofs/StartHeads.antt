-- The heads that set-up makes, one after another. The code's array and the definition's list are compared head by head.
use mathlib.Core.Path.{◌≡◌, sym, ap, ◌∙◌}
use mathlib.Core.Logic.{◌⊎◌, inl, inr}
use mathlib.Core.List.{List}
use Prim.Native.Nat.{ℕ, ◌+◌, ◌≤◌, ◌<◌}
use native.Mathlib.Decide.{ℕ_discrete}
use native.Mathlib.Omega.{arith}
use lib.ListN.{length, get_or, set, replicate, length-set, length-replicate, get_or-replicate}
use lib.Seq.{ext_get_or, get_or-set_same, get_or-set_other}
use Rattle.lists.specs.Lists.{up_to}
use Rattle.lists.proofs.Bools.{lt_or_le}
use Rattle.lists.proofs.Gather.{length_up_to, get_d_up_to}
use Rattle.lists.proofs.Nth.{nth_below, get_d_nth, nth_past}
use Rattle.model.specs.Chart.{Chart}
use Rattle.chart_lists.specs.declared.Header.{Header}
use Rattle.chart_lists.proofs.Fronts.{initial_is}
use Rattle.controller_model.specs.declared.Head.{Head}
use Rattle.controller_model.specs.Headers.{HeadersOf}
use Rattle.controller_model.specs.Serving.{standing}
use Rattle.controller_model.specs.Controlling.{start_head}
use Rattle.heads.proofs.Blocks.{no_header}

-- the first h of eight heads stand at the initial locations of these headers, the others at 0
pub record StandTo (headers : List Header) (h : ℕ) (heads : List Head) : Type 0 where
  pub number : length heads ≡ 8
  pub set_up_lem : (g : ℕ) → g < h → get_or heads g (standing 0 0) ≡ standing (get_or headers g no_header).initial 0
  pub behind : (g : ℕ) → h ≤ g → g < 8 → get_or heads g (standing 0 0) ≡ standing 0 0

module _ (headers : List Header) where
  pub none_stand : StandTo headers 0 (replicate 8 (standing 0 0))
  none_stand = record {
    number = length-replicate 8 (standing 0 0);
    set_up_lem = λ g l. absurd (omega arith);
    behind = λ g l b. get_or-replicate 8 g (standing 0 0) (standing 0 0) b;
  }

  pub next_stands : (h : ℕ) (heads : List Head) {d : Head} → h < 8 → d ≡ standing (get_or headers h no_header).initial 0 → StandTo headers h heads
      → StandTo headers (h + 1) (set heads h d)
  next_stands h heads {d} b q s = record {
    number = length-set heads h d ∙ s.number;
    set_up_lem = λ g l. go g l (ℕ_discrete g h);
    behind = λ g l b. get_or-set_other heads h g d (standing 0 0) (λ e. absurd (omega arith)) ∙ s.behind g (omega arith) b;
  }
    where
      go : (g : ℕ) → g < h + 1 → Dec (g ≡ h) → get_or (set heads h d) g (standing 0 0) ≡ standing (get_or headers g no_header).initial 0
      go g l (yes e) = rw e (get_or-set_same heads h d (standing 0 0) (omega (arith, s.number)) ∙ q)
      go g l (no ne) = get_or-set_other heads h g d (standing 0 0) ne ∙ s.set_up_lem g (omega arith)

  pub all_stand : (cs : List Chart) (heads : List Head) → HeadersOf cs headers → StandTo headers (length cs) heads → heads ≡ up_to (start_head cs) 8
  unfolding start_head
  all_stand cs heads are s = ext_get_or (standing 0 0) heads (up_to (start_head cs) 8) (s.number ∙ sym (length_up_to (start_head cs) 8)) (λ g l.
      let b : g < 8 = omega (arith, s.number) in
      go g b (lt_or_le g (length cs)) ∙ sym (get_d_up_to (start_head cs) 8 g (standing 0 0) b))
    where
      go : (g : ℕ) → g < 8 → (g < length cs) ⊎ (length cs ≤ g) → get_or heads g (standing 0 0) ≡ start_head cs g
      go g b (inl l) =
          let c = nth_below cs g l in
          let e : (get_or headers g no_header).initial ≡ c.0.initial = initial_is c.0 (get_d_nth headers g no_header (are.header g c.0 c.1)) in
          rw (c.1, start_head) (s.set_up_lem g l ∙ ap (λ (q : ℕ). standing q 0) e)
      go g b (inr l) = rw (nth_past cs g l, start_head) (s.behind g l b)
