-- Two charts that have the same transitions wherever a path from the initial location leads: they reach the same locations, have the same live timers
-- there, the same unstarted tests and the same plans, and are accepted alike. A path from a reached location goes on in the other chart, transition
-- by transition.
use mathlib.Core.Path.{◌≡◌, refl, sym, ap, subst, ◌∙◌}
use mathlib.Core.Logic.{◌↔◌}
use mathlib.Core.List.{List, [], ◌∷◌}
use Prim.Native.Nat.{ℕ, suc, ◌≤◌}
use native.Mathlib.Omega.{arith}
use lib.ListN.{length}
use Rattle.model.specs.Chart.{Transition, Chart, Nth}
use Rattle.model.specs.Path.{Path, StartsNowhere, ReadAt, Live, Reached}
use Rattle.model.specs.Version.{allows_spare}
use Rattle.model.specs.Places.{Accepted}
use Rattle.model.specs.LiveWithin.{LiveWithin}
use Rattle.model.specs.Rewrite.{Numbering}
use Rattle.model.specs.Plan.{Has, Plan}
use Rattle.model.proofs.Paths.{UnstartedAt, starts_one, reached_initial, reached_step, reached_least, unstarted_reached}

-- a transition that leaves a location which a path of c reaches is one of both, whatever its number
pub record SameReached (c d : Chart) : Type 0 where
  pub initial : c.initial ≡ d.initial
  pub there : (i : ℕ) (r : Transition) → Nth c i r → Reached c r.source → (k : ℕ) × Nth d k r
  pub back : (i : ℕ) (r : Transition) → Nth d i r → Reached c r.source → (k : ℕ) × Nth c k r

module _ {c d : Chart} (same : SameReached c d) where
  pub reached_back : {q : ℕ} → Reached d q → Reached c q
  reached_back = reached_least (Reached c) (subst (Reached c) same.initial reached_initial) (λ i r n x. reached_step x (same.back i r n x).1)

  pub turned : SameReached d c
  turned = record {
    initial = sym same.initial;
    there = λ i r n x. same.back i r n (reached_back x);
    back = λ i r n x. same.there i r n (reached_back x);
  }

  -- a path from a reached location, in the other chart's numbers
  record Moved (q s : ℕ) (p : List ℕ) : Type 0 where
    path : List ℕ
    leads : Path d q path s
    end : Reached c s
    long : length path ≡ length p
    nowhere : (j : ℕ) → StartsNowhere c j p → StartsNowhere d j path

  moved : (p : List ℕ) (q s : ℕ) → Reached c q → Path c q p s → Moved q s p
  moved [] q s x w = record { path = []; leads = w; end = rw (← w) x; long = refl; nowhere = λ j u. tt }
  moved (i ∷ p) q s x w =
      let here : Reached c w.0.source = rw w.2 x in
      let n = same.there i w.0 w.1 here in
      let rest = moved p w.0.target s (reached_step here w.1) w.3 in
      record {
        path = n.0 ∷ rest.path;
        leads = (w.0, n.1, w.2, rest.leads);
        end = rest.end;
        long = ap suc rest.long;
        nowhere = λ j u. ((starts_one d j n.1 (u.0 w.0 w.1)).0, rest.nowhere j u.1);
      }

  read_there : (q j : ℕ) → Reached c q → ReadAt c q j → ReadAt d q j
  read_there q j x y =
      let n = same.there y.number y.transition y.is_nth (rw y.leaves x) in
      record { number = n.0; transition = y.transition; is_nth = n.1; leaves = y.leaves; tests_it = y.tests_it }

  -- live at a reached location, by a path as long
  pub within_there : {k q j : ℕ} → Reached c q → LiveWithin c k q j → LiveWithin d k q j
  within_there {k} {q} {j} x l =
      let m = moved l.live.front q l.live.end x l.live.leads in
      record {
        live = record {
          front = m.path;
          end = l.live.end;
          leads = m.leads;
          unstarted = m.nowhere j l.live.unstarted;
          read = read_there l.live.end j m.end l.live.read;
        };
        at_most = omega (arith, m.long, l.at_most);
      }

  pub live_there : {q j : ℕ} → Reached c q → Live c q j → Live d q j
  live_there x l = (within_there x (record { live = l; at_most = unwritten })).live
    where
      unwritten : {n : ℕ} → n ≤ n
      unwritten = omega arith

  -- an unstarted test
  pub unstarted_there : (i : ℕ) → UnstartedAt c i → (k : ℕ) × UnstartedAt d k
  unstarted_there i u =
      let from = u.test.unstarted in
      let n = same.there i u.transition u.is_nth (unstarted_reached from) in
      let m = moved from.path c.initial u.transition.source reached_initial from.leads in (
        n.0,
        record {
          transition = u.transition;
          is_nth = n.1;
          test = record {
            timer = u.test.timer;
            tests_it = u.test.tests_it;
            unstarted = record {
              path = m.path;
              leads = subst (λ (q : ℕ). Path d q m.path u.transition.source) same.initial m.leads;
              nowhere = m.nowhere u.test.timer from.nowhere;
            };
          };
        },
      )

module _ {c d : Chart} (same : SameReached c d) where
  pub both_reached : (q : ℕ) → Reached c q ↔ Reached d q
  both_reached q = (reached_back (turned same), reached_back same)

  -- of one version, with as many locations, they are accepted alike
  pub accepted_there : c.version ≡ d.version → c.locations ≡ d.locations → Accepted c → Accepted d
  accepted_there v n a = record {
    reached = λ e q l. (both_reached q).0 (a.reached (ap allows_spare v ∙ e) q (rw n l));
    no_unstarted_test = λ i u. let x = unstarted_there (turned same) i u in a.no_unstarted_test x.0 x.1;
  }

  -- what is a plan for one is a plan for the other
  pub plan_there : {N : Numbering} → Plan c N → Plan d N
  plan_there {N} P = record {
    begins = λ j k. subst (λ (q : ℕ). Has N q j k → ⊥) same.initial (P.begins j k);
    reads = λ q j x y. P.reads q j (reached_back same x) (read_there (turned same) q j x y);
    keeps = λ i r j k n x. let y = reached_back same x in P.keeps (same.back i r n y).0 r j k (same.back i r n y).1 y;
    apart = λ q j j' k x h h' i r n y.
        let z = reached_back same y in
        P.apart q j j' k (reached_back same x) h h' (same.back i r n z).0 r (same.back i r n z).1 z;
    below = P.below;
  }
