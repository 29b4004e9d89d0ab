-- A loop that reads a strictly rising list of numbers of w bytes, whatever it keeps of them: the definition says this is how the list is read, and
-- this is what each turn shows of it.
use mathlib.Core.Path.{◌≡◌}
use mathlib.Core.List.{List, [], ◌∷◌, ◌++◌}
use Prim.Native.Nat.{ℕ, suc, ◌+◌, ◌≤◌, ◌<◌}
use native.Mathlib.Numerals.{add-one}
use lib.ListN.{drop}
use Rattle.file_format.specs.Parse.{value, refusal, below, entry, rising}
use Rattle.file_format.proofs.Reading.{entry_refused, entry_in_lem, entry_low}
use Rattle.file_format.proofs.Items.{Turn, rising_first, turn_done, turn_refused, turn_again}

-- Of n entries k are read, `done`: the next one is at least `lowest` and stands at `here`. The list begins at `at`.
pub record Rising (w limit number place : ℕ) (s : List ℕ) (at n k : ℕ) (done : List ℕ) (lowest here : ℕ) : Type 0 where
  pub turn : Turn (λ (lo x : ℕ). suc x) (entry w limit number place) (rising w limit number place n (drop at s)) n k done lowest (drop here s)

pub rises_first : (w limit number place : ℕ) (s : List ℕ) (at n : ℕ) → Rising w limit number place s at n 0 [] 0 at
rises_first w limit number place s at n = record { turn = rising_first w limit number place n (drop at s) }

module _ {w limit number place : ℕ} {s : List ℕ} {at n k : ℕ} {done : List ℕ} {lowest here : ℕ}
    (h : Rising w limit number place s at n k done lowest here) where
  pub rises_done : n ≤ k → rising w limit number place n (drop at s) ≡ value done (drop here s)
  rises_done l = turn_done h.turn l

  module _ (l : k < n) where
    -- the next number is cut, or not below the limit
    pub rises_refused : {m q : ℕ} → below w limit number place (drop here s) ≡ refusal m q → rising w limit number place n (drop at s) ≡ refusal m q
    rises_refused e = turn_refused h.turn l (entry_refused w limit number place (drop here s) lowest e)

    -- it does not rise
    pub rises_low : {x : ℕ} {t : List ℕ} → below w limit number place (drop here s) ≡ value x t → x < lowest
        → rising w limit number place n (drop at s) ≡ refusal 7 place
    rises_low e b = turn_refused h.turn l (entry_low w limit number place (drop here s) lowest e b)

    -- it is one more
    pub rises_again : {x next : ℕ} → below w limit number place (drop here s) ≡ value x (drop next s) → lowest ≤ x
        → Rising w limit number place s at n (k + 1) (done ++ (x ∷ [])) (x + 1) next
    rises_again {x} e b = rw (add-one x) (record { turn = turn_again h.turn l (entry_in_lem w limit number place (drop here s) lowest e b) })
