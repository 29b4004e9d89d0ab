-- Paths, and what they say of timers: live, active and born (paper 003, 5.1, in document 01's words), reached and unstarted (9 and 10).
use Rattle.std.specs.Prelude.{◌≡◌, true, false, List, [], ◌∷◌, ℕ}
use Rattle.lists.specs.Lists.{memb}
use Rattle.model.specs.Chart.{Transition, Chart, Nth, tested}

-- a path is a list of transition numbers: it leads from q to s if each of its transitions leaves where the last one ended
abbrev pub Path : Chart → ℕ → List ℕ → ℕ → Type 0
Path c q [] s = q ≡ s
Path c q (i ∷ p) s = (r : Transition) × Nth c i r × (r.source ≡ q) × Path c r.target p s

-- no transition of the path starts j
abbrev pub StartsNowhere : Chart → ℕ → List ℕ → Type 0
StartsNowhere c j [] = Unit {0}
StartsNowhere c j (i ∷ p) = ((r : Transition) → Nth c i r → memb j r.starts ≡ false) × StartsNowhere c j p

-- j is read at q: a transition that leaves q tests j
pub record ReadAt (c : Chart) (q j : ℕ) : Type 0 where
  pub number : ℕ
  pub transition : Transition
  pub is_nth : Nth c number transition
  pub leaves : transition.source ≡ q
  pub tests_it : tested j transition.tests ≡ true

-- Live: a path of one or more transitions from q ends in a test of j, and no earlier transition of it starts j. `front` are the earlier
-- ones, and the last one is the transition that reads j where they end.
pub record Live (c : Chart) (q j : ℕ) : Type 0 where
  pub front : List ℕ
  pub end : ℕ
  pub leads : Path c q front end
  pub unstarted : StartsNowhere c j front
  pub read : ReadAt c end j

-- a transition from q that does not start j, with j live at its target
pub record LiveOnward (c : Chart) (q j : ℕ) : Type 0 where
  pub number : ℕ
  pub transition : Transition
  pub is_nth : Nth c number transition
  pub leaves : transition.source ≡ q
  pub not_started : memb j transition.starts ≡ false
  pub live : Live c transition.target j

-- active on r: live at its target
abbrev pub Active : Chart → Transition → ℕ → Type 0
Active c r j = Live c r.target j

-- born on r: started by r and active on r
pub record Born (c : Chart) (r : Transition) (j : ℕ) : Type 0 where
  pub started : memb j r.starts ≡ true
  pub active : Active c r j

-- a path from the initial location, possibly empty, reaches q
pub record Reached (c : Chart) (q : ℕ) : Type 0 where
  pub path : List ℕ
  pub leads : Path c c.initial path q

-- a path from the initial location to q, possibly empty, starts j nowhere
pub record Unstarted (c : Chart) (q j : ℕ) : Type 0 where
  pub path : List ℕ
  pub leads : Path c c.initial path q
  pub nowhere : StartsNowhere c j path

-- transition r tests a timer that some path to its source starts nowhere (10)
pub record UnstartedTest (c : Chart) (r : Transition) : Type 0 where
  pub timer : ℕ
  pub tests_it : tested timer r.tests ≡ true
  pub unstarted : Unstarted c r.source timer
