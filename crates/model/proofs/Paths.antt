-- Paths: how they join, and the ways to be live, reached or unstarted one transition at a time. Hard: paths grow at their end and are taken apart at
-- their front: what holds wherever a path leads is shown along the path.
use mathlib.Core.Path.{◌≡◌, refl, sym, ◌∙◌, subst}
use mathlib.Core.Logic.{◌⊎◌, inl, inr}
use mathlib.Core.Bool.{true, false}
use mathlib.Core.List.{List, [], ◌∷◌, ◌++◌}
use Prim.Native.Nat.{ℕ, ◌<◌}
use Rattle.lists.specs.Lists.{memb}
use Rattle.model.specs.Chart.{Transition, Chart, Nth, tested}
use Rattle.model.specs.Valid.{Valid}
use Rattle.model.specs.Path.{Path, StartsNowhere, ReadAt, Live, LiveOnward, Reached, Unstarted}
use Rattle.model.proofs.Transitions.{nth_same, nth_valid, tested_below}
pub use Rattle.model.specs.Places.{UnstartedAt}

module _ (c : Chart) where
  pub path_append : (p p' : List ℕ) (q s t : ℕ) → Path c q p s → Path c s p' t → Path c q (p ++ p') t
  path_append [] p' q s t v w = subst (λ (x : ℕ). Path c x p' t) (sym v) w
  path_append (i ∷ p) p' q s t v w = (v.0, v.1, v.2, path_append p p' v.0.target s t v.3 w)

  -- a path, and one transition more
  pub path_more : (p : List ℕ) (q : ℕ) {i : ℕ} {r : Transition} → Path c q p r.source → Nth c i r → Path c q (p ++ (i ∷ [])) r.target
  path_more p q {i} {r} v n = path_append p (i ∷ []) q r.source r.target v (r, n, refl, refl)

  pub starts_append : (j : ℕ) (p p' : List ℕ) → StartsNowhere c j p → StartsNowhere c j p' → StartsNowhere c j (p ++ p')
  starts_append j [] p' v w = w
  starts_append j (i ∷ p) p' v w = (v.0, starts_append j p p' v.1 w)

  pub starts_one : {i : ℕ} {r : Transition} (j : ℕ) → Nth c i r → memb j r.starts ≡ false → StartsNowhere c j (i ∷ [])
  starts_one j n f = ((λ s m. subst (λ (x : Transition). memb j x.starts ≡ false) (nth_same n m) f), tt)

-- ---- live, from the end of the path backwards

module _ {c : Chart} {j : ℕ} where
  unfoldable pub live_here : {q : ℕ} → ReadAt c q j → Live c q j
  live_here {q} r = record { front = []; end = q; leads = refl; unstarted = tt; read = r }

  unfoldable pub live_back : {i : ℕ} {r : Transition} → Nth c i r → memb j r.starts ≡ false → Live c r.target j → Live c r.source j
  live_back {i} {r} n f l = record {
    front = i ∷ l.front;
    end = l.end;
    leads = (r, n, refl, l.leads);
    unstarted = ((starts_one c j n f).0, l.unstarted);
    read = l.read;
  }

  -- and there is no other way to be live
  pub live_cases : {q : ℕ} → Live c q j → ReadAt c q j ⊎ LiveOnward c q j
  live_cases {q} l = go l.front l.leads l.unstarted
    where
      go : (p : List ℕ) → Path c q p l.end → StartsNowhere c j p → ReadAt c q j ⊎ LiveOnward c q j
      go [] w u = inl (subst (λ (x : ℕ). ReadAt c x j) (sym w) l.read)
      go (i ∷ p) w u = inr (record {
        number = i;
        transition = w.0;
        is_nth = w.1;
        leaves = w.2;
        not_started = u.0 w.0 w.1;
        live = record { front = p; end = l.end; leads = w.3; unstarted = u.1; read = l.read };
      })

  -- what holds at the source of each test of j, and backwards over each transition that does not start j, holds wherever j is live
  pub live_least : (L : ℕ → Type 0) → ((i : ℕ) (r : Transition) → Nth c i r → tested j r.tests ≡ true → L r.source)
      → ((i : ℕ) (r : Transition) → Nth c i r → memb j r.starts ≡ false → L r.target → L r.source) → {q : ℕ} → Live c q j → L q
  live_least L base step {q} l = go l.front q l.leads l.unstarted
    where
      go : (p : List ℕ) (x : ℕ) → Path c x p l.end → StartsNowhere c j p → L x
      go [] x w u = let r = l.read in subst L (r.leaves ∙ sym w) (base r.number r.transition r.is_nth r.tests_it)
      go (i ∷ p) x w u = subst L w.2 (step i w.0 w.1 (u.0 w.0 w.1) (go p w.0.target w.3 u.1))

-- a timer is live only at the chart's locations, and only if it is one of the chart's
pub record Inside (c : Chart) (q j : ℕ) : Type 0 where
  pub location : q < c.locations
  pub timer : j < c.timers

pub live_inside : {W : ℕ} {c : Chart} {q j : ℕ} → Valid W c → Live c q j → Inside c q j
live_inside {c = c} {j = j} valid l = record {
  location = live_least (λ (s : ℕ). s < c.locations) (λ i r n t. (nth_valid valid n).source) (λ i r n f b. (nth_valid valid n).source) l;
  timer = tested_below valid j l.read.is_nth l.read.tests_it;
}

-- ---- from the initial location forwards

module _ {c : Chart} where
  pub reached_initial : Reached c c.initial
  reached_initial = record { path = []; leads = refl }

  pub reached_step : {i : ℕ} {r : Transition} → Reached c r.source → Nth c i r → Reached c r.target
  reached_step {i} x n = record { path = x.path ++ (i ∷ []); leads = path_more c x.path c.initial x.leads n }

  pub unstarted_initial : {j : ℕ} → Unstarted c c.initial j
  unstarted_initial = record { path = []; leads = refl; nowhere = tt }

  pub unstarted_step : {i j : ℕ} {r : Transition} → Unstarted c r.source j → Nth c i r → memb j r.starts ≡ false → Unstarted c r.target j
  unstarted_step {i} {j} x n f = record {
    path = x.path ++ (i ∷ []);
    leads = path_more c x.path c.initial x.leads n;
    nowhere = starts_append c j x.path (i ∷ []) x.nowhere (starts_one c j n f);
  }

  -- what holds at the initial location, and on over each transition, holds wherever a path leads; and so over those that do not start j
  pub reached_least : (R : ℕ → Type 0) → R c.initial → ((i : ℕ) (r : Transition) → Nth c i r → R r.source → R r.target)
      → {q : ℕ} → Reached c q → R q
  reached_least R base step {q} x = go x.path c.initial base x.leads
    where
      go : (p : List ℕ) (s : ℕ) → R s → Path c s p q → R q
      go [] s h w = subst R w h
      go (i ∷ p) s h w = go p w.0.target (step i w.0 w.1 (subst R (sym w.2) h)) w.3

  pub unstarted_least : {j : ℕ} (R : ℕ → Type 0) → R c.initial
      → ((i : ℕ) (r : Transition) → Nth c i r → memb j r.starts ≡ false → R r.source → R r.target) → {q : ℕ} → Unstarted c q j → R q
  unstarted_least {j} R base step {q} x = go x.path c.initial base x.leads x.nowhere
    where
      go : (p : List ℕ) (s : ℕ) → R s → Path c s p q → StartsNowhere c j p → R q
      go [] s h w u = subst R w h
      go (i ∷ p) s h w u = go p w.0.target (step i w.0 w.1 (u.0 w.0 w.1) (subst R (sym w.2) h)) w.3 u.1

  -- an unstarted location is reached
  pub unstarted_reached : {q j : ℕ} → Unstarted c q j → Reached c q
  unstarted_reached x = record { path = x.path; leads = x.leads }

-- ---- a timer that is live at the initial location is one that a test finds unstarted, and the other way round

module _ {c : Chart} where
  pub live_unstarted : {j : ℕ} (l : Live c c.initial j) → UnstartedAt c l.read.number
  live_unstarted {j} l = record {
    transition = l.read.transition;
    is_nth = l.read.is_nth;
    test = record {
      timer = j;
      tests_it = l.read.tests_it;
      unstarted = record {
        path = l.front;
        leads = subst (λ (x : ℕ). Path c c.initial l.front x) (sym l.read.leaves) l.leads;
        nowhere = l.unstarted;
      };
    };
  }

  pub unstarted_live : {i : ℕ} (u : UnstartedAt c i) → Live c c.initial u.test.timer
  unstarted_live {i} u = record {
    front = u.test.unstarted.path;
    end = u.transition.source;
    leads = u.test.unstarted.leads;
    unstarted = u.test.unstarted.nowhere;
    read = record { number = i; transition = u.transition; is_nth = u.is_nth; leaves = refl; tests_it = u.test.tests_it };
  }
