-- How a timer comes to a location along the edges of a flow, and flows whose locations and sets are in range. That the rounds find just this is shown
-- in proofs/.
use Rattle.std.specs.Prelude.{◌≡◌, true, false, ℕ, ◌<◌, ◌^◌}
use mathlib.Core.Option.{some}
use lib.ListN.{get_elem?}
use Rattle.timer_set.specs.Members.{member}
use Rattle.model.specs.Flow.{Edge, Flow}

-- edge number `number` is e, and leads into q
pub record EdgeInto (f : Flow) (q : ℕ) (e : Edge) : Type 0 where
  pub number : ℕ
  pub is_nth : get_elem? f.edges number ≡ some e
  pub leads : e.into ≡ q

-- j comes to q: from q's own set, from what an edge into q gains, or along an edge into q that does not cut it, from where it comes
pub data Comes (f : Flow) (j : ℕ) : ℕ → Type 0 where
  owned : {q : ℕ} → member (f.own q) j ≡ true → Comes f j q
  gained : {q : ℕ} {e : Edge} → EdgeInto f q e → member e.gain j ≡ true → Comes f j q
  along : {q : ℕ} {e : Edge} → EdgeInto f q e → member e.cut j ≡ false → Comes f j e.from → Comes f j q

-- locations are in range, and sets are words of 64
pub record Shaped (f : Flow) : Type 0 where
  pub into_below : (i : ℕ) {e : Edge} → get_elem? f.edges i ≡ some e → e.into < f.locations
  pub from_below : (i : ℕ) {e : Edge} → get_elem? f.edges i ≡ some e → e.from < f.locations
  pub own_word : (q : ℕ) → f.own q < 2 ^ 64
  pub gain_word : (i : ℕ) {e : Edge} → get_elem? f.edges i ≡ some e → e.gain < 2 ^ 64
