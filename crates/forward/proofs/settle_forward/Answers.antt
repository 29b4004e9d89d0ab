-- `settle_forward` lists the transitions by the location that they leave, gives the initial location all timers and lets it wait, in arrays of the
-- largest size.
use Rattle.std.proofs.Common.{◌≡◌, List, ℕ, ◌≤◌, ◌<◌, length, replicate, set, length-set, sym, ap, arith, rules}
use lib.ListN.{length-replicate}
use lib.Seq.{get_or-set_same}
use Rattle.timer_set.specs.Members.{every_timer}
use Rattle.chart_lists.specs.Limits.{most_locations, most_transitions}
use Rattle.worklist.specs.Worklist.{Firsts, Nexts, Worklist}
use Rattle.worklist.proofs.Waiting.{worklist_none}
use Rattle.forward.specs.Forward.{SafeForward}
use Rattle.forward.specs.Working.{BetweenVisits}
use Rattle.forward.proofs.Visiting.{long_own}
use Rattle.forward.proofs.Ending.{between_start}
use Rattle.forward.proofs.settle_forward.Goals as goal

module _ {initial locations : ℕ} {sources targets cut : List ℕ} (s : SafeForward initial locations sources targets cut) where
  few_locations : locations ≤ most_locations
  few_locations = omega (arith, s.edges.locations, long_own initial locations)

  -- nothing waits in the arrays of the largest size
  none_waits : Worklist locations (replicate most_locations 1) (replicate most_locations 0) 0
  none_waits = worklist_none _ most_locations _ few_locations (omega (arith, length-replicate {A = ℕ} most_locations 0))

  -- the list once the initial location waits
  ready : {first next sets idle waiting : List ℕ} {depth : ℕ} → Firsts sources first → Nexts sources next → length first ≡ most_locations
      → Worklist locations idle waiting depth → idle ≡ set (replicate most_locations 1) initial 0 → sets ≡ replicate locations 0
      → BetweenVisits initial locations sources targets cut first next (set sets initial every_timer) idle waiting depth
  ready fs ns kept w e z = between_start s fs ns (omega (arith, kept, few_locations)) w
      (rw e (get_or-set_same (replicate most_locations 1) initial 0 0 inside)) (ap (λ (l : List ℕ). set l initial every_timer) z)
    where
      inside : initial < length {A = ℕ} (replicate most_locations 1)
      inside = omega (arith, s.inside, few_locations, length-replicate {A = ℕ} most_locations 1)

pub list_edges-requires : goal.list_edges-requires
list_edges-requires c =
    let e = c.requires.0.edges in
    let few : length c.args.sources.now ≤ most_transitions = omega (arith, e.edges, e.froms) in
    let room = length-replicate {A = ℕ} most_locations most_transitions in (
      few,
      omega (arith, few, length-replicate {A = ℕ} most_transitions 0),
      ap (λ (n : ℕ). replicate n most_transitions) (sym room),
      (λ i h. omega (arith, e.from_below i (omega (arith, h, e.froms)), e.locations, room)),
    )

pub push-depth-requires : goal.push-depth-requires
push-depth-requires c = (length c.args.sets.now, omega (arith, c.requires.0.inside), none_waits c.requires.0)

pub empty_list-requires : goal.empty_list-requires
unfolding every_timer
empty_list-requires c =
    let kept : length c.list_edges.new.first ≡ most_locations = search rules in
    let w = c.push-depth.ensures.worklist _ (omega (arith, c.requires.0.inside)) (none_waits c.requires.0) in
    let e = c.list_edges.ensures in (
      c.args.initial,
      c.args.sources.now,
      rw length-set (ready c.requires.0 e.firsts e.nexts kept w c.push-depth.ensures.idle c.requires.1),
    )

pub shape_of-sets : goal.shape_of-sets
shape_of-sets c =
    let long = length-set c.args.sets.now c.args.initial 18446744073709551615 in
    search rules

pub returns : goal.returns
unfolding every_timer
returns c =
    let kept : length c.list_edges.new.first ≡ most_locations = search rules in
    let w = c.push-depth.ensures.worklist _ (omega (arith, c.requires.0.inside)) (none_waits c.requires.0) in
    let e = c.list_edges.ensures in
    let b = ready c.requires.0 e.firsts e.nexts kept w c.push-depth.ensures.idle c.requires.1 in
    rw length-set at (c.empty_list.ensures c.args.initial c.args.sources.now (rw length-set b))
