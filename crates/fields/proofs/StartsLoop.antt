-- The loop that reads a transition's started timers and keeps their set.
use mathlib.Core.Path.{◌≡◌, refl, ap, ◌∙◌}
use mathlib.Core.List.{List, [], ◌∷◌, ◌++◌, foldl}
use Prim.Native.Nat.{ℕ, ◌+◌, ◌≤◌, ◌<◌}
use lib.ListN.{drop}
use Rattle.timer_set.specs.Members.{added, set_of}
use Rattle.file_format.specs.Parse.{value, refusal, below}
use Rattle.fields.specs.Parts.{read_starts}
use Rattle.fields.proofs.RisingLoop.{Rising, rises_first, rises_done, rises_refused, rises_low, rises_again}

added_last : (l : List ℕ) (w x : ℕ) → foldl added w (l ++ (x ∷ [])) ≡ added (foldl added w l) x
added_last [] w x = refl
added_last (y ∷ l) w x = added_last l (added w y) x

-- Of n timers k are read, and `set` is their set.
pub record Starting (timers place : ℕ) (s : List ℕ) (at n set lowest here k : ℕ) : Type 0 where
  pub done : List ℕ
  pub rises : Rising 1 timers 6 place s at n k done lowest here
  pub are : set_of done ≡ set

pub starts_first : (timers place : ℕ) (s : List ℕ) (at n : ℕ) → Starting timers place s at n 0 0 at 0
unfolding set_of
starts_first timers place s at n = record { done = []; rises = rises_first 1 timers 6 place s at n; are = refl }

module _ {timers place : ℕ} {s : List ℕ} {at n set lowest here k : ℕ} (h : Starting timers place s at n set lowest here k) where
  pub starts_done : n ≤ k → value set (drop here s) ≡ read_starts timers place n (drop at s)
  unfolding read_starts
  starts_done l = rw (rises_done h.rises l, h.are)

  module _ (l : k < n) where
    pub starts_refused : {m q : ℕ} → below 1 timers 6 place (drop here s) ≡ refusal m q → refusal m q ≡ read_starts timers place n (drop at s)
    unfolding read_starts
    starts_refused e = rw (rises_refused h.rises l e)

    pub starts_low : {x : ℕ} {t : List ℕ} → below 1 timers 6 place (drop here s) ≡ value x t → x < lowest
        → refusal 7 place ≡ read_starts timers place n (drop at s)
    unfolding read_starts
    starts_low e b = rw (rises_low h.rises l e b)

    pub starts_again : {x next : ℕ} → below 1 timers 6 place (drop here s) ≡ value x (drop next s) → lowest ≤ x
        → Starting timers place s at n (added set x) (x + 1) next (k + 1)
    unfolding set_of
    starts_again {x} e b = record {
      done = h.done ++ (x ∷ []);
      rises = rises_again h.rises l e b;
      are = added_last h.done 0 x ∙ ap (λ (w : ℕ). added w x) h.are;
    }
