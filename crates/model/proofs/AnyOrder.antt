-- The number of rounds does not depend on the order of a chart's transitions. Hard: a path is a list of transition numbers, and these differ; each
-- path of one chart is a path of the other, as long as it, under other numbers.
use mathlib.Core.Path.{◌≡◌, refl, sym, ap}
use mathlib.Core.List.{List, [], ◌∷◌, reverse}
use Prim.Native.Nat.{ℕ, suc}
use native.Mathlib.Omega.{arith}
use lib.ListN.{length, length-reverse}
use Rattle.lists.specs.Elements.{Element}
use Rattle.lists.proofs.Elements.{in_reversed, from_reversed, all_elements}
use Rattle.model.specs.Chart.{Transition, Chart, Nth}
use Rattle.model.specs.Valid.{Valid}
use Rattle.model.specs.Path.{Path, StartsNowhere, Live}
use Rattle.model.specs.LiveWithin.{LiveWithin, Decided}
use Rattle.model.specs.AnyOrder.{SameTransitions, last_to_first}
use Rattle.model.specs.Live.{live_rounds}
use Rattle.model.proofs.Paths.{starts_one}
use Rattle.model.proofs.Transitions.{nth_valid}
use Rattle.model.proofs.LiveRounds.{rounds_by_paths, one_rounds}

module _ (c d : Chart) (there : (r : Transition) → Element c.transitions r → Element d.transitions r) where
  nth_there : {i : ℕ} {r : Transition} → Nth c i r → (k : ℕ) × Nth d k r
  nth_there {i} {r} n = let e = there r (record { place = i; is_nth = n.there }) in (e.place, record { there = e.is_nth })

  -- a path from q to s that starts j nowhere, of so many transitions
  record Onward (j q s n : ℕ) : Type 0 where
    pub path : List ℕ
    pub leads : Path d q path s
    pub nowhere : StartsNowhere d j path
    pub long : length path ≡ n

  onward : (j : ℕ) (p : List ℕ) (q s : ℕ) → Path c q p s → StartsNowhere c j p → Onward j q s (length p)
  onward j [] q s w u = record { path = []; leads = w; nowhere = tt; long = refl }
  onward j (i ∷ p) q s w u =
      let e = nth_there w.1 in
      let rest = onward j p w.0.target s w.3 u.1 in
      record {
        path = e.0 ∷ rest.path;
        leads = (w.0, e.1, w.2, rest.leads);
        nowhere = ((starts_one d j e.1 (u.0 w.0 w.1)).0, rest.nowhere);
        long = ap suc rest.long;
      }

  within_there : (k q j : ℕ) → LiveWithin c k q j → LiveWithin d k q j
  within_there k q j l =
      let p = onward j l.live.front q l.live.end l.live.leads l.live.unstarted in
      let r = l.live.read in
      let e = nth_there r.is_nth in
      record {
        live = record {
          front = p.path;
          end = l.live.end;
          leads = p.leads;
          unstarted = p.nowhere;
          read = record { number = e.0; transition = r.transition; is_nth = e.1; leaves = r.leaves; tests_it = r.tests_it };
        };
        at_most = omega (arith, p.long, l.at_most);
      }

  live_there : (q j : ℕ) → Live c q j → Live d q j
  live_there q j l = (within_there (suc (length l.front)) q j (record { live = l; at_most = omega arith })).live

-- what paths of so many transitions decide of one chart they decide of the other
module _ {c d : Chart} (same : SameTransitions c d) where
  decided_there : (k : ℕ) → Decided c k → Decided d k
  decided_there k h q j l = within_there c d same.there k q j (h q j (live_there d c same.back q j l))

flipped : {c d : Chart} → SameTransitions c d → SameTransitions d c
flipped s = record { there = s.back; back = s.there }

pub rounds_any_order : {W : ℕ} {c d : Chart} → Valid W c → Valid W d → SameTransitions c d → live_rounds c ≡ live_rounds d
rounds_any_order valid valid' same =
    let x = rounds_by_paths valid in
    one_rounds (record {
      least = x.least;
      decided = decided_there same x.least x.decided;
      none_less = λ k l h. x.none_less k l (decided_there (flipped same) k h);
      last_counted = x.last_counted;
    }) (rounds_by_paths valid')

-- ---- a chart and the same with its transitions last to first

pub last_to_first_lem : (c : Chart) → SameTransitions c (last_to_first c)
unfolding last_to_first
last_to_first_lem c = record {
  there = λ r e. in_reversed c.transitions e.place e.is_nth;
  back = λ r e. from_reversed c.transitions e.place e.is_nth;
}

module _ {W : ℕ} {c : Chart} (valid : Valid W c) where
  valid_last_to_first : Valid W (last_to_first c)
  unfolding last_to_first
  valid_last_to_first = record {
    some_location = valid.some_location;
    few_locations = valid.few_locations;
    initial = valid.initial;
    few_timers = valid.few_timers;
    accepting = valid.accepting;
    few_transitions = omega (arith, valid.few_transitions, length-reverse c.transitions);
    transitions = all_elements _ (reverse c.transitions) (λ r e.
        let x = from_reversed c.transitions e.place e.is_nth in
        nth_valid valid (record { there = x.is_nth }));
  }

  pub rounds_last_to_first : live_rounds (last_to_first c) ≡ live_rounds c
  rounds_last_to_first = sym (rounds_any_order valid valid_last_to_first (last_to_first_lem c))
