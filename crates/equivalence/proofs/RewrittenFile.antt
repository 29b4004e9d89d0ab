-- The player called on a file and on what the rewriting left of it in a buffer answers as demand 3 on files says. The buffer has room for every file:
-- a file holds the rewritten chart, and no such file is longer.
use mathlib.Core.Path.{◌≡◌, refl, sym, ap, ap₂, ◌∙◌}
use mathlib.Core.List.{List}
use Prim.Native.Nat.{ℕ, ◌≤◌}
use native.Mathlib.Omega.{arith}
use lib.Dec.{leb}
use lib.ListN.{length, take, replicate}
use borrow.Author.Tests.{le-leb}
use Rattle.model.specs.Answer.{Answer, returned, refused, then, unless, nowhere}
use Rattle.model.specs.Chart.{Chart}
use Rattle.model.specs.Version.{width_of}
use Rattle.model.specs.Valid.{Storable}
use Rattle.model.specs.Judge.{Rewriting, rewriting}
use Rattle.model.specs.Player.{Arrival}
use Rattle.file_format.specs.Parse.{Bytes}
use Rattle.model.proofs.Answers.{not_result, result_same, refused_same}
use Rattle.model.proofs.EqualAnswers.{equal_behaviour}
use Rattle.file_format.specs.File.{chart_in, file_of}
use Rattle.file_format.specs.Lengths.{largest_file}
use Rattle.file_format.proofs.File.{reads_storable}
use Rattle.file_format.proofs.Lengths.{largest_file_lem}
use Rattle.chart_lists.specs.Lists.{overwritten}
use Rattle.chart_lists.proofs.Begins.{begins_put, begins_take, begins_room}
use Rattle.rewriting.specs.Rewriting.{new_file, RewritingValues, values_of, rewrite_into, rewrite_answer}
use Rattle.player.specs.Playing.{play_answer}
use Rattle.equivalence.specs.Both.{Claim, board_answer, drawn_as, board_as}
use Rattle.equivalence.specs.declared.Both.{Both}
use Rattle.equivalence.proofs.DemandHolds.{first_fit_plays}

-- there is always room: the second answer is never 21
module _ (K : ℕ) where
  abbrev into_buffer : Rewriting → Answer Rewriting
  into_buffer x = unless (leb (length (file_of x.chart)) largest_file) 21 nowhere (returned x)

  room_for : (c : Chart) → Storable c → (y : Answer Rewriting) → rewriting K c ≡ y → then y into_buffer ≡ y
  room_for c s (returned x) e =
      let fits = largest_file_lem x.chart ((equal_behaviour (width_of c.version) K c s.valid x e).storable s) in
      rw (le-leb (length (file_of x.chart)) largest_file fits) refl
  room_for c s (refused n p) e = refl

  pub room_enough : (bs : List ℕ) → Bytes bs → rewrite_into K largest_file bs ≡ then (chart_in bs) (rewriting K)
  unfolding rewrite_into
  room_enough bs bytes = go (chart_in bs) refl
    where
      go : (z : Answer Chart) → chart_in bs ≡ z → then z (λ (c : Chart). then (rewriting K c) into_buffer) ≡ then z (rewriting K)
      go (returned c) e = room_for c (reads_storable bs c bytes e) (rewriting K c) refl
      go (refused n p) e = refl

-- the two answers are all that the claim asks: that they are equal is the law on files
pub claim_of : (K : ℕ) (bs v w is ts : List ℕ) (r : Both) → Bytes bs → drawn_as r.drawn ≡ play_answer bs v is ts
    → board_as r.board ≡ board_answer K bs w is ts → Claim K bs v w is ts r
unfolding board_answer
claim_of K bs v w is ts r bytes d b = record {
  drawn = d;
  board = b;
  alike = λ c x reads e p q. b ∙ rw e (ap returned (sym (first_fit_plays K largest_file bs bytes c reads x e v w is ts p q) ∙ sym d));
}

module _ (K : ℕ) (bs : List ℕ) where
  -- what the rewriting returned, at the front of the buffer
  pub record Left (n : ℕ) (out : List ℕ) : Type 0 where
    pub rewriting_is : Rewriting
    pub made : rewrite_into K largest_file bs ≡ returned rewriting_is
    pub room : n ≤ length out
    pub front_is : take n out ≡ file_of rewriting_is.chart

  pub left : (u n : ℕ) (out : List ℕ) → returned (record { used = u; length = n }) ≡ rewrite_answer K largest_file bs
      → out ≡ overwritten new_file (rewrite_into K largest_file bs) (replicate largest_file 0) → Left n out
  unfolding rewrite_answer values_of
  left u n out e f = go (rewrite_into K largest_file bs) refl e f
    where
      go : (y : Answer Rewriting) → rewrite_into K largest_file bs ≡ y
          → returned (record { used = u; length = n }) ≡ then y (λ x. returned (values_of x))
          → out ≡ overwritten new_file y (replicate largest_file 0) → Left n out
      go (returned x) q e f =
          let l : n ≡ length (file_of x.chart) = ap (λ (y : RewritingValues). y.length) (result_same e) in
          let b = begins_put (file_of x.chart) (replicate largest_file 0) f in
          record { rewriting_is = x; made = q; room = omega (arith, begins_room b); front_is = begins_take b l }
      go (refused m p) q e f = absurd (not_result (sym e))

  module _ (w is ts : List ℕ) where
    pub board_refused : {n p : ℕ} → refused n p ≡ rewrite_answer K largest_file bs → refused n p ≡ board_answer K bs w is ts
    unfolding rewrite_answer board_answer
    board_refused {n} {p} e = go (rewrite_into K largest_file bs) e
      where
        go : (y : Answer Rewriting) → refused n p ≡ then y (λ x. returned (values_of x))
            → refused n p ≡ then y (λ x. returned (play_answer (file_of x.chart) w is ts))
        go (returned x) e = absurd (not_result e)
        go (refused m i) e = let z = refused_same e in ap₂ refused z.0 z.1

    pub board_played : {n : ℕ} {out : List ℕ} → Left n out → {y : Answer Arrival} → y ≡ play_answer (take n out) w is ts
        → returned y ≡ board_answer K bs w is ts
    unfolding board_answer
    board_played l e = rw l.made (ap returned (e ∙ ap (λ (b : List ℕ). play_answer b w is ts) l.front_is))
