-- The loops that judge the accepting locations and the transitions, on plain values: what is read so far, and the number that they answer.
use mathlib.Core.Path.{◌≡◌, refl}
use mathlib.Core.List.{List, [], ◌∷◌, ◌++◌}
use Prim.Native.Nat.{ℕ, suc, ◌+◌, ◌*◌, ◌≤◌, ◌<◌}
use native.Mathlib.Numerals.{add-one}
use native.Mathlib.Omega.{arith}
use lib.Dec.{leb}
use lib.ListN.{length, length-append}
use borrow.Author.Tests.{leb-true}
use Rattle.model.specs.Answer.{nowhere}
use Rattle.model.specs.Chart.{Transition}
use Rattle.chart_lists.specs.Lists.{all_tests}
use Rattle.chart_lists.proofs.Tests.{tests_more}
use Rattle.file_format.specs.Parse.{value, refusal, below, entry, rising}
use Rattle.file_format.specs.Body.{read_transition, read_transitions}
use Rattle.file_format.proofs.Parsed.{bind_value, guard_value, same_value, below_limit, kept_value, kept_refused}
use Rattle.file_format.proofs.Items.{Turn, rising_first, transitions_first, turn_done, turn_refused, turn_again}
use Rattle.file_judging.specs.Parts.{skip_accepting, skip_transition, skip_transitions}
use Rattle.file_judging.proofs.RecordParts.{skip_at_most}

-- an entry of a rising list that was read is at least lo, and below the limit
pub entry_within : (w limit n p lo : ℕ) (bs : List ℕ) {x : ℕ} {t : List ℕ} → entry w limit n p lo bs ≡ value x t → (lo ≤ x) × (x < limit)
unfolding entry
entry_within w limit n p lo bs {x} {t} e =
    let i = bind_value (below w limit n p bs) _ x t e in
    let g = guard_value (leb lo i.0) 7 p (value i.0 i.1) i.3 in
    let q : i.0 ≡ x = same_value g.1 in
    (omega (arith, leb-true lo i.0 g.0), omega (arith, below_limit w limit n p bs i.2))

-- of n accepting locations k are read, and the next one is at least lowest
pub record AcceptingRead (locations n k lowest : ℕ) (start bs : List ℕ) : Type 0 where
  pub done : List ℕ
  pub turn : Turn (λ (lo x : ℕ). suc x) (entry 2 locations 5 nowhere) (rising 2 locations 5 nowhere n start) n k done lowest bs

pub accepting_first : (locations n : ℕ) (start : List ℕ) → AcceptingRead locations n 0 0 start start
accepting_first locations n start = record { done = []; turn = rising_first 2 locations 5 nowhere n start }

module _ {locations n k lowest : ℕ} {start bs : List ℕ} (p : AcceptingRead locations n k lowest start bs) where
  pub accepting_done : n ≤ k → value n bs ≡ skip_accepting locations n start
  unfolding skip_accepting
  accepting_done h =
      let e : length p.done ≡ n = omega (arith, p.turn.count, p.turn.most) in
      rw (turn_done p.turn h, e)

  module _ (h : k < n) where
    pub accepting_refused : {m q : ℕ} → entry 2 locations 5 nowhere lowest bs ≡ refusal m q → refusal m q ≡ skip_accepting locations n start
    unfolding skip_accepting
    accepting_refused e = rw (turn_refused p.turn h e)

    pub accepting_again : {x : ℕ} {t : List ℕ} → entry 2 locations 5 nowhere lowest bs ≡ value x t → AcceptingRead locations n (k + 1) (x + 1) start t
    accepting_again {x} e = rw (add-one x) (record { done = p.done ++ (x ∷ []); turn = turn_again p.turn h e })

-- of n transitions i are read, and they have `tests` tests
pub record TestsCounted (W locations timers n i tests : ℕ) (start bs : List ℕ) : Type 0 where
  pub done : List Transition
  pub turn : Turn (λ (i : ℕ) (r : Transition). suc i) (read_transition W locations timers) (read_transitions W locations timers n start) n i done i bs
  pub count : tests ≡ length (all_tests done)
  pub few : tests ≤ 8 * i

unfoldable pub counted_first : (W locations timers n : ℕ) (start : List ℕ) → TestsCounted W locations timers n 0 0 start start
unfolding all_tests
counted_first W locations timers n start = record { done = []; turn = transitions_first W locations timers n start; count = refl; few = omega arith }

module _ {W locations timers n i tests : ℕ} {start bs : List ℕ} (p : TestsCounted W locations timers n i tests start bs) where
  pub counted_done : n ≤ i → value tests bs ≡ skip_transitions W locations timers n start
  unfolding skip_transitions
  counted_done h = rw (turn_done p.turn h, p.count)

  module _ (h : i < n) where
    pub counted_refused : {m q : ℕ} → skip_transition W locations timers i bs ≡ refusal m q → refusal m q ≡ skip_transitions W locations timers n
        start
    unfolding skip_transition skip_transitions
    counted_refused e =
        let k = kept_refused (λ (r : Transition). length r.tests) (read_transition W locations timers i bs) e in
        rw (turn_refused p.turn h k)

    unfoldable pub counted_again : {g : ℕ} {t : List ℕ} → skip_transition W locations timers i bs ≡ value g t
        → TestsCounted W locations timers n (i + 1) (tests + g) start t
    unfolding skip_transition
    counted_again {g} {t} e =
        let k = kept_value (λ (r : Transition). length r.tests) (read_transition W locations timers i bs) e in
        let f : g ≤ 8 = skip_at_most W locations timers i bs e in
        record {
          done = p.done ++ (k.0 ∷ []);
          turn = rw (add-one i) (rw (add-one i) at (turn_again p.turn h k.1));
          count = rw (tests_more, length-append, k.2, p.count);
          few = omega (arith, p.few);
        }
