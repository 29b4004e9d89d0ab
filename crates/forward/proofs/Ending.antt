-- Where the work begins: all timers at the initial location, which waits. Where it ends: nothing waits, so every transition has brought its source's
-- set, and the sets hold all that comes, as those of the rounds do.
use mathlib.Core.Path.{◌≡◌, sym, ◌∙◌}
use mathlib.Core.Bool.{true, false}
use mathlib.Core.List.{List}
use Prim.Native.Nat.{ℕ, ◌^◌, ◌≤◌, ◌<◌}
use native.Mathlib.Omega.{arith}
use lib.ListN.{length, get_or, replicate, length-replicate}
use lib.Seq.{ext_get_or, get_or-set_other}
use Rattle.lists.proofs.Bools.{same_bool, not_both}
use Rattle.lists.proofs.Zeros.{get_d_zeros}
use Rattle.timer_set.specs.Members.{every_timer, member}
use Rattle.timer_set.proofs.Members.{member_empty, member_ext}
use Rattle.model.specs.Comes.{Comes, Shaped}
use Rattle.model.specs.Comes.Comes.{owned, gained, along}
use Rattle.model.proofs.Rounds.{Words}
use Rattle.model.proofs.Settled.{length_settled, settled_words, settled_iff}
use Rattle.flow.specs.Edges.{edge_at, flow_of}
use Rattle.flow.proofs.EdgeLists.{edge_of, shaped_lists, adjacency}
use Rattle.forward.specs.Forward.{own_sets, forward_flow, forward_sets, SafeForward}
use Rattle.worklist.specs.Worklist.{Nexts, Firsts, Adjacency, Worklist}
use Rattle.lists.proofs.Nth.{set_all}
use Rattle.forward.specs.Working.{LeavesIdle, Working, BetweenVisits}
use Rattle.forward.proofs.Visiting.{long_own}

word_zero : 0 < 2 ^ 64
word_zero = omega arith

own_words : (initial locations : ℕ) → initial < locations → Words (own_sets initial locations)
unfolding every_timer
own_words initial locations h = set_all (λ q v. v < 2 ^ 64) (replicate locations 0) initial every_timer
    (omega (arith, h, length-replicate {A = ℕ} locations 0)) (omega arith) (λ q. rw (get_d_zeros locations q) word_zero)

module _ {initial locations : ℕ} {sources targets cut : List ℕ} (safe : SafeForward initial locations sources targets cut) where
  shaped : Shaped (forward_flow initial locations sources targets cut)
  shaped = shaped_lists targets sources cut (replicate (length sources) 0) (own_sets initial locations) safe.edges
      (λ i. rw (get_d_zeros (length sources) i) word_zero) (own_words initial locations safe.inside)

  -- ---- the start

  working_start : {idle waiting : List ℕ} {depth : ℕ} → Worklist locations idle waiting depth → get_or idle initial 0 ≡ 0
      → Working initial locations sources targets cut (own_sets initial locations) idle waiting depth
  unfolding flow_of
  working_start {idle} x z = record {
    sound = record { long = long_own initial locations; owns = λ q b o. o; comes = λ q b m. owned m };
    worklist = x;
    brought = λ q b y. absurd (not_both y.stands (empty y.edge y.gone b));
  }
    where
      -- nothing stands at the source of a transition that is idle
      empty : (j : ℕ) → LeavesIdle sources idle j → (b : ℕ) → member (get_or (own_sets initial locations) (get_or sources j 0) 0) b ≡ false
      empty j f b =
          rw (get_or-set_other (replicate locations 0) initial (get_or sources j 0) every_timer 0 (λ e. f (rw e z)), get_d_zeros locations _)
          (member_empty b)

  pub between_start : {first next idle waiting sets : List ℕ} {depth : ℕ} → Firsts sources first → Nexts sources next → locations ≤ length first
      → Worklist locations idle waiting depth → get_or idle initial 0 ≡ 0 → sets ≡ own_sets initial locations
      → BetweenVisits initial locations sources targets cut first next sets idle waiting depth
  between_start {first} {next} f n room x z e = record { safe = safe; adjacency = lists; working = rw e (working_start x z) }
    where
      lists : Adjacency locations sources targets cut first next
      lists = rw (long_own initial locations) at (adjacency safe.edges (omega (arith, room, long_own initial locations)) f n)

  -- ---- the end

  module _ {sets idle waiting : List ℕ} {depth : ℕ} (x : Working initial locations sources targets cut sets idle waiting depth)
      (none_waits : depth ≡ 0) where
    all_idle : (j : ℕ) → j < length sources → LeavesIdle sources idle j
    all_idle j l z = omega (arith, (x.worklist.listed (get_or sources j 0) source z).below, none_waits)
      where
        source : get_or sources j 0 < locations
        source = omega (arith, safe.edges.from_below j (omega (arith, l, safe.edges.froms)), long_own initial locations)

    complete : (b q : ℕ) → Comes (forward_flow initial locations sources targets cut) b q → member (get_or sets q 0) b ≡ true
    unfolding edge_at flow_of
    complete b q (owned o) = x.sound.owns q b o
    complete b q (gained y g) =
        let is = (edge_of targets sources cut (replicate (length sources) 0) (own_sets initial locations) y.number y.is_nth).1 in
        absurd (not_both (rw is at g) (rw (get_d_zeros (length sources) y.number) (member_empty b)))
    complete b q (along {e = e} y n c) =
        let is = edge_of targets sources cut (replicate (length sources) 0) (own_sets initial locations) y.number y.is_nth in
        let m = complete b e.from c in
        let below : y.number < length sources = omega (arith, is.0, safe.edges.froms) in
        x.brought q b (record {
          edge = y.number;
          below = below;
          gone = all_idle y.number below;
          leads = rw is.1 at y.leads;
          stands = rw is.1 at m;
          uncut = rw is.1 at n;
        })

    long : length sets ≡ (forward_flow initial locations sources targets cut).locations
    unfolding flow_of
    long = x.sound.long ∙ sym (long_own initial locations)

    pub all_settled : Words sets → sets ≡ forward_sets initial locations sources targets cut
    unfolding forward_sets
    all_settled words = ext_get_or 0 sets _ (long ∙ sym (length_settled _)) (λ q h.
        member_ext 64 (get_or sets q 0) _ (words q) (settled_words _ shaped q) (λ b _.
        let s = settled_iff _ shaped q b (omega (arith, h, long)) in
        same_bool _ _ (λ m. s.1 (x.sound.comes q b m)) (λ m. complete b q (s.0 m))))
