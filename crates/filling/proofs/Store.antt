-- Numbers stored behind the first entries of a lent list, and the tests' numbers stored so.
use mathlib.Core.Path.{◌≡◌, sym, ap, ◌∙◌}
use mathlib.Core.List.{List, [], ◌∷◌, ◌++◌, map, map-append, append_assoc, append-nil}
use Prim.Native.Nat.{ℕ, ◌+◌, ◌≤◌, ◌<◌}
use lib.ListN.{length, take, set, length-append, length-map, take-append-drop}
use lib.Seq.{length-take-le}
use Rattle.comparison.specs.Comparison.{code_of}
use Rattle.model.specs.Chart.{Test}
use Rattle.chart_lists.specs.Lists.{put}
use Rattle.chart_lists.proofs.Put.{take_put, put_last, put_put}
use Rattle.filling.specs.Parts.{put_at, TestsStored}

module _ (base : ℕ) (l : List ℕ) (room : base ≤ length l) where
  pub put_at_nil : put_at base [] l ≡ l
  unfolding put_at put
  put_at_nil = rw (append-nil, length-take-le base l room) (take-append-drop base l)

  front_length : (xs : List ℕ) → length (take base l ++ xs) ≡ base + length xs
  front_length xs = rw (length-append, length-take-le base l room)

  pub put_at_last : (xs : List ℕ) (v : ℕ) {out : List ℕ} {k : ℕ} → k < length l → base + length xs ≡ k → out ≡ put_at base xs l
      → set out k v ≡ put_at base (xs ++ (v ∷ [])) l
  unfolding put_at
  put_at_last xs v h e o = rw (← append_assoc) (put_last (take base l ++ xs) l v h (front_length xs ∙ e) o)

  -- more behind those that are stored
  pub put_at_then : (xs ys : List ℕ) → put_at (base + length xs) ys (put_at base xs l) ≡ put_at base (xs ++ ys) l
  unfolding put_at
  put_at_then xs ys =
      let t = take_put (take base l ++ xs) l (base + length xs) (front_length xs) in
      rw (t, ← append_assoc) (put_put (take base l ++ xs) ys l)

-- ---- tests

module _ (base : ℕ) (a b c : List ℕ) (ra : base ≤ length a) (rb : base ≤ length b) (rc : base ≤ length c) where
  pub stored_none : TestsStored [] base a b c a b c
  stored_none = record { timers = sym (put_at_nil base a ra); codes = sym (put_at_nil base b rb); constants = sym (put_at_nil base c rc) }

  module _ {ts : List Test} {a' b' c' : List ℕ} (f : TestsStored ts base a b c a' b' c') where
    next : (m : Test → ℕ) (t : Test) (l out : List ℕ) {k : ℕ} → base ≤ length l → k < length l → base + length ts ≡ k → out ≡ put_at base (map m ts) l
        → set out k (m t) ≡ put_at base (map m (ts ++ (t ∷ []))) l
    next m t l out r h e o = rw map-append (put_at_last base l r (map m ts) (m t) h (ap (λ (n : ℕ). base + n) (length-map ts m) ∙ e) o)

    pub stored_more : (t : Test) {k : ℕ} → base + length ts ≡ k → k < length a → k < length b → k < length c
        → TestsStored (ts ++ (t ∷ [])) base a b c (set a' k t.timer) (set b' k (code_of t.comparison)) (set c' k t.constant)
    stored_more t e ha hb hc = record {
      timers = next (λ (t : Test). t.timer) t a a' ra ha e f.timers;
      codes = next (λ (t : Test). code_of t.comparison) t b b' rb hb e f.codes;
      constants = next (λ (t : Test). t.constant) t c c' rc hc e f.constants;
    }

    after : (m : Test → ℕ) (us : List Test) (l o o' : List ℕ) {k : ℕ} → base ≤ length l → base + length ts ≡ k
        → o ≡ put_at base (map m ts) l → o' ≡ put_at k (map m us) o → o' ≡ put_at base (map m (ts ++ us)) l
    after m us l o o' r e p q =
        let n : base + length (map m ts) ≡ _ = ap (λ (n : ℕ). base + n) (length-map ts m) ∙ e in
        rw (map-append, q, p, ← n) (put_at_then base l r (map m ts) (map m us))

    pub stored_after : (us : List Test) {k : ℕ} {a'' b'' c'' : List ℕ} → base + length ts ≡ k → TestsStored us k a' b' c' a'' b'' c''
        → TestsStored (ts ++ us) base a b c a'' b'' c''
    stored_after us e g = record {
      timers = after (λ (t : Test). t.timer) us a a' _ ra e f.timers g.timers;
      codes = after (λ (t : Test). code_of t.comparison) us b b' _ rb e f.codes g.codes;
      constants = after (λ (t : Test). t.constant) us c c' _ rc e f.constants g.constants;
    }
