-- The starting counts of the heads, one head after another.
use mathlib.Core.Path.{◌≡◌, refl, sym, ap, ◌∙◌}
use mathlib.Core.Option.{some}
use mathlib.Core.List.{List, [], ◌∷◌}
use Prim.Native.Nat.{ℕ, suc, ◌+◌}
use native.Mathlib.Numerals.{add-one}
use lib.ListN.{length, get_elem?, drop}
use lib.Seq.{drop-cons, drop-length}
use Rattle.lists.proofs.Nth.{below_nth, get_d_nth}
use Rattle.model.specs.Answer.{Answer, returned, refused, then}
use Rattle.model.specs.Chart.{Chart}
use Rattle.model.specs.Player.{counts_judged}
use Rattle.player.proofs.Inputs.{after_counts}
use Rattle.controller_model.specs.Heads.{counts_in_order}

module _ (counts : ℕ → List ℕ) {A : Type 0} (x : Answer A) where
  -- what the counts of head h come to, and then those behind it
  pub counts_next : (cs : List Chart) (h : ℕ) {c : Chart} → get_elem? cs h ≡ some c
      → {y : Answer (Unit {0})} → y ≡ counts_judged c (counts h) (returned tt)
      → counts_in_order counts h (drop h cs) x ≡ then y (λ _. counts_in_order counts (h + 1) (drop (h + 1) cs) x)
  unfolding counts_in_order
  counts_next cs h {c} e d =
      rw (add-one h, drop-cons cs h c (below_nth cs h e), get_d_nth cs h c e)
      (sym (after_counts c (counts h) d (counts_in_order counts (suc h) (drop (suc h) cs) x)))

  pub counts_end : (cs : List Chart) (h : ℕ) → h ≡ length cs → counts_in_order counts h (drop h cs) x ≡ x
  unfolding counts_in_order
  counts_end cs h e = rw (e, drop-length cs)

  -- the judgement goes on where no counts are refused
  pub counts_then : (h : ℕ) (cs : List Chart) → counts_in_order counts h cs x ≡ then (counts_in_order counts h cs (returned (tt {0}))) (λ _. x)
  unfolding counts_in_order
  counts_then h [] = refl
  counts_then h (c ∷ cs) =
      sym (after_counts c (counts h) refl (counts_in_order counts (suc h) cs x))
      ∙ rw (counts_then (suc h) cs) (go (counts_judged c (counts h) (returned tt)) (counts_in_order counts (suc h) cs (returned tt)))
      ∙ ap (λ (y : Answer (Unit {0})). then y (λ _. x)) (after_counts c (counts h) refl (counts_in_order counts (suc h) cs (returned tt)))
    where
      go : (y z : Answer (Unit {0})) → then y (λ _. then z (λ _. x)) ≡ then (then y (λ _. z)) (λ _. x)
      go (returned u) z = refl
      go (refused n p) z = refl
