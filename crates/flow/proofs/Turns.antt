-- The turns of the loop over the rounds: the first, the next, and the last. Hard: that the loop ends with the definition's last round: each location
-- that waits has made the sum of the sets larger, so where one waits the round has changed a set, and where none does it has not.
use mathlib.Core.Path.{◌≡◌, sym, ap, ◌∙◌}
use mathlib.Core.Logic.{◌⊎◌, inl, inr}
use mathlib.Core.List.{List}
use Prim.Native.Nat.{ℕ, suc, ◌+◌, ◌≤◌, ◌<◌}
use native.Mathlib.Decide.{ℕ_discrete}
use native.Mathlib.Numerals.{add-one}
use native.Mathlib.Omega.{arith}
use lib.ListN.{length, get_or, replicate}
use borrow.Author.Count.{below_more, below_none}
use Rattle.lists.specs.Lists.{sum_of}
use Rattle.lists.proofs.Zeros.{get_d_zeros}
use Rattle.model.specs.Comes.{Shaped}
use Rattle.model.specs.Flow.{Flow, round, rounds_of, settled, rounds}
use Rattle.model.proofs.Rounds.{Words, length_rounds}
use Rattle.model.proofs.Settled.{Changes, ends}
use Rattle.worklist.specs.Worklist.{Among, Worklist}
use Rattle.worklist.specs.GoneOver.{GoneOver}
use Rattle.flow.specs.Edges.{flow_of, SafeEdges}
use Rattle.flow.specs.Rounds.{Differing, LeavesOne}
use Rattle.flow.proofs.Differing.{none_differs}
use Rattle.flow.proofs.Skipping.{Listed, skips}

-- one turn: `before` holds the sets after k rounds, each of which has changed a set, `after` those of one round more, and the locations at which they
-- differ wait
pub record Turn (f : Flow) (k : ℕ) (before after idle waiting : List ℕ) (depth : ℕ) : Type 0 where
  pub reached : before ≡ rounds_of f k
  pub made : after ≡ rounds_of f (suc k)
  pub changes : Changes f k
  pub differing : Differing before after idle waiting depth
  -- a location waits only if some have changed
  pub none : after ≡ before → depth ≡ 0

module _ {f : Flow} {k : ℕ} {before after idle waiting : List ℕ} {depth : ℕ} (t : Turn f k before after idle waiting depth) where
  pub before_long : length before ≡ f.locations
  before_long = ap length t.reached ∙ length_rounds f k

  pub after_long : length after ≡ f.locations
  after_long = ap length t.made ∙ length_rounds f (suc k)

  -- where a location waits the round has changed a set
  pub goes_on : 0 < depth → Changes f (k + 1)
  goes_on l = below_more _ k t.changes (λ e. omega (arith, l, t.none (t.made ∙ sym e ∙ sym t.reached)))

  -- where none does the round is the last
  pub ends_here : Shaped f → depth ≡ 0 → (before ≡ settled f) × (k + 1 ≡ rounds f)
  ends_here shaped z =
      let e = ends f shaped k (sym t.made ∙ sym (none_differs t.differing z) ∙ t.reached) t.changes in
      (t.reached ∙ sym e.settled_is, add-one k ∙ sym e.rounds_are)

  -- the waiting locations, copied to another list, are all that have changed
  listed : {changed : List ℕ} → ((i : ℕ) → i < depth → get_or changed i 0 ≡ get_or waiting i 0)
      → Listed f.locations (rounds_of f k) (rounds_of f (suc k)) changed depth
  listed {changed} same q l = go (ℕ_discrete (get_or idle q 0) 0)
    where
      h : q < length after
      h = omega (arith, l, after_long)

      go : Dec (get_or idle q 0 ≡ 0) → (get_or (rounds_of f (suc k)) q 0 ≡ get_or (rounds_of f k) q 0) ⊎ Among changed depth q
      go (yes z) =
          let x = t.differing.worklist.listed q h z in
          inr (record { place = x.place; below = x.below; is_at = same x.place x.below ∙ x.is_at })
      go (no ne) = inl (rw (← t.made, ← t.reached) (t.differing.unchanged q h ne))

-- the first round is made from empty sets
pub turn_first : {f : Flow} {before after idle waiting : List ℕ} {depth : ℕ} → before ≡ replicate f.locations 0
    → after ≡ round f (replicate f.locations 0) → Differing (replicate f.locations 0) after idle waiting depth
    → (((q : ℕ) → get_or after q 0 ≡ 0) → depth ≡ 0) → Turn f 0 before after idle waiting depth
unfolding rounds_of
turn_first {f} empty made differing none = record {
  reached = empty;
  made = made;
  changes = below_none _;
  differing = rw empty differing;
  none = λ e. none (λ q. rw (e, empty) (get_d_zeros f.locations q));
}

-- the next one goes over the edges from changed locations alone
pub turn_next : {into from cut gain own : List ℕ} → SafeEdges into from cut gain own → Shaped (flow_of into from cut gain own)
    → {k : ℕ} {before sets after idle waiting : List ℕ} {depth : ℕ} → Turn (flow_of into from cut gain own) k before after idle waiting depth
    → 0 < depth → {changed taken last idleLast waitingLast : List ℕ} {grown : ℕ}
    → ((i : ℕ) → i < depth → get_or changed i 0 ≡ get_or waiting i 0) → sets ≡ after
    → GoneOver from into cut (LeavesOne from changed depth) (λ q. get_or sets q 0) after taken last idleLast
    → Worklist (length after) idleLast waitingLast grown → grown + sum_of after ≤ sum_of last → Words last
    → Turn (flow_of into from cut gain own) (k + 1) sets last idleLast waitingLast grown
turn_next safe shaped {k} t some same e over worklist less words = rw add-one (record {
  reached = e ∙ t.made;
  made = skips safe shaped k (listed t same) (rw (e, t.made) at over) words;
  changes = rw add-one at (goes_on t some);
  differing = record {
    long = over.long ∙ ap length (sym e);
    worklist = rw over.long worklist;
    unchanged = λ q l f. rw e (over.still_idle q f).1;
  };
  none = λ s. omega (arith, less, ap sum_of (s ∙ e));
})
