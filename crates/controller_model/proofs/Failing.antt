-- What it says that the number of heads, the blocks or the state fail their tests, in the document's words. Each test is a conjunction, and its first
-- conjunct that fails is looked for.
use mathlib.Core.Path.{◌≡◌, refl}
use mathlib.Core.Logic.{◌⊎◌, inl, inr, ◌↔◌}
use mathlib.Core.Bool.{Bool, true, false, ◌&&◌, ◌||◌, not, true≢false}
use mathlib.Core.List.{List}
use Prim.Native.Nat.{ℕ, ◌+◌, ◌<◌}
use native.Mathlib.Omega.{arith}
use lib.Dec.{leb, ltb}
use lib.ListN.{length, get_or}
use borrow.Author.Tests.{leb-true, leb-false, ltb-true, ltb-false, lt-leb}
use Rattle.lists.specs.Lists.{lowest}
use Rattle.lists.proofs.Bools.{and_left, and_right, is_no, not-true, and_cases}
use Rattle.lists.proofs.Lowest.{lowest_passes}
use Rattle.lists.proofs.Nth.{nth_below, below_nth}
use Rattle.model.specs.Chart.{Chart}
use Rattle.model.specs.Run.{largest_time}
use Rattle.controller_model.specs.declared.Head.{Head}
use Rattle.controller_model.specs.declared.Controller.{Controller}
use Rattle.controller_model.specs.Parts.{offset, every_below, stretch}
use Rattle.controller_model.specs.Heads.{allowed_number, long_enough, blocks_fit}
use Rattle.controller_model.specs.Serving.{head_at, waits}
use Rattle.controller_model.specs.Controlling.{sound_waiting, sound_head, sound_at, sound_state}
use Rattle.controller_model.specs.Refusals.{UnfitBlocks, UnsoundHead, UnsoundState}
use Rattle.controller_model.specs.Refusals.UnfitBlocks.{too_long, too_short}
use Rattle.controller_model.specs.Refusals.UnsoundHead.{no_location, time_over, waiting_over, waiting_before, count_over}
use Rattle.controller_model.specs.Refusals.UnsoundState.{no_turn, at_head}
use Rattle.controller_model.proofs.ListParts.{stretch_at, every_out}
use Rattle.controller_model.proofs.SetUp.{blocks_end, blocks_long}

-- a number below n fails
every_fails : (f : ℕ → Bool) (n : ℕ) → every_below f n ≡ false → (i : ℕ) × (i < n) × (f i ≡ false)
unfolding every_below
every_fails f n e =
    let i : ℕ = lowest (λ i. not (f i)) n in
    let b : i < n = leb-false n i e in
    (i, b, not-true (f i) (lowest_passes (λ i. not (f i)) n b))

-- ---- tests that fail

-- no such number of heads
pub number_fails : (n : ℕ) → (allowed_number n ≡ false) ↔ ((n ≡ 0) ⊎ (8 < n))
unfolding allowed_number
number_fails n = ((λ e. out (and_cases (leb 1 n) (leb n 8) e)), back)
  where
    out : (leb 1 n ≡ false) ⊎ (leb n 8 ≡ false) → (n ≡ 0) ⊎ (8 < n)
    out (inl e) = inl (omega (arith, leb-false 1 n e))
    out (inr e) = inr (leb-false n 8 e)

    back : (n ≡ 0) ⊎ (8 < n) → allowed_number n ≡ false
    back (inl e) = rw (lt-leb 1 n (omega arith)) refl
    back (inr l) = is_no _ (λ e. omega (arith, leb-true n 8 (and_right (leb 1 n) (leb n 8) e)))

-- the blocks do not fit
pub blocks_fail : (K : ℕ) (blocks : List ℕ) (cs : List Chart) → (blocks_fit K blocks cs ≡ false) ↔ UnfitBlocks K blocks cs
unfolding blocks_fit long_enough
blocks_fail K blocks cs = ((λ e. out (and_cases (leb (offset blocks (length cs)) K) _ e)), back)
  where
    short : (h : ℕ) → h < length cs → long_enough blocks cs h ≡ false → UnfitBlocks K blocks cs
    short h b e =
        let n = nth_below cs h b in
        too_short h n.0 n.1 (leb-false n.0.timers (get_or blocks h 0) (rw (n.1, long_enough) at e))

    out : (leb (offset blocks (length cs)) K ≡ false) ⊎ (every_below (long_enough blocks cs) (length cs) ≡ false) → UnfitBlocks K blocks cs
    out (inl e) = too_long (leb-false (offset blocks (length cs)) K e)
    out (inr e) = let f = every_fails (long_enough blocks cs) (length cs) e in short f.0 f.1 f.2

    back : UnfitBlocks K blocks cs → blocks_fit K blocks cs ≡ false
    back (too_long l) = is_no _ (λ e. omega (arith, blocks_end K blocks cs e))
    back (too_short h c n l) = is_no _ (λ e. omega (arith, blocks_long K blocks cs e h c n))

module _ (c : Chart) (o : ℕ) (d : Head) (counts : List ℕ) where
  abbrev own : List ℕ
  own = stretch o c.timers counts

  abbrev count_fits : ℕ → Bool
  count_fits j = leb (get_or (stretch o c.timers counts) j 0) (d.time + largest_time)

  head_out : sound_head c d own ≡ false → UnsoundHead c o d counts
  unfolding sound_head sound_waiting
  head_out e = one (and_cases (ltb d.location c.locations) _ e)
    where
      waiting : (w : Bool) → waits d ≡ w → (not w || (leb d.waiting_time largest_time && leb d.time d.waiting_time)) ≡ false
          → UnsoundHead c o d counts
      waiting false w e = absurd (true≢false e)
      waiting true w e = go (and_cases (leb d.waiting_time largest_time) _ e)
        where
          go : (leb d.waiting_time largest_time ≡ false) ⊎ (leb d.time d.waiting_time ≡ false) → UnsoundHead c o d counts
          go (inl f) = waiting_over w (leb-false d.waiting_time largest_time f)
          go (inr f) = waiting_before w (leb-false d.time d.waiting_time f)

      three : (sound_waiting d ≡ false) ⊎ (every_below count_fits c.timers ≡ false) → UnsoundHead c o d counts
      three (inl f) = waiting (waits d) refl f
      three (inr f) =
          let x = every_fails count_fits c.timers f in
          count_over x.0 x.1 (omega (arith, stretch_at o c.timers counts x.0 x.1, leb-false _ (d.time + largest_time) x.2))

      two : (leb d.time largest_time ≡ false) ⊎ ((sound_waiting d && every_below count_fits c.timers) ≡ false) → UnsoundHead c o d counts
      two (inl f) = time_over (leb-false d.time largest_time f)
      two (inr f) = three (and_cases (sound_waiting d) _ f)

      one : (ltb d.location c.locations ≡ false)
          ⊎ ((leb d.time largest_time && (sound_waiting d && every_below count_fits c.timers)) ≡ false) → UnsoundHead c o d counts
      one (inl f) = no_location (ltb-false d.location c.locations f)
      one (inr f) = two (and_cases (leb d.time largest_time) _ f)

  head_back : sound_head c d own ≡ true → UnsoundHead c o d counts → ⊥
  unfolding sound_head sound_waiting
  head_back e u = go u
    where
      a : Bool
      a = ltb d.location c.locations

      b : Bool
      b = leb d.time largest_time

      f : Bool
      f = every_below count_fits c.timers

      after_location : (b && (sound_waiting d && f)) ≡ true
      after_location = and_right a (b && (sound_waiting d && f)) e

      after_time : (sound_waiting d && f) ≡ true
      after_time = and_right b (sound_waiting d && f) after_location

      waiting : waits d ≡ true → (leb d.waiting_time largest_time && leb d.time d.waiting_time) ≡ true
      waiting w = let x = and_left (sound_waiting d) f after_time in rw w at x

      go : UnsoundHead c o d counts → ⊥
      go (no_location l) = omega (arith, ltb-true d.location c.locations (and_left a (b && (sound_waiting d && f)) e))
      go (time_over l) = omega (arith, leb-true d.time largest_time (and_left b (sound_waiting d && f) after_location))
      go (waiting_over w l) = omega (arith, leb-true d.waiting_time largest_time (and_left (leb d.waiting_time largest_time) _ (waiting w)))
      go (waiting_before w l) =
          omega (arith, leb-true d.time d.waiting_time (and_right (leb d.waiting_time largest_time) _ (waiting w)))
      go (count_over j l m) =
          omega (
            arith,
            stretch_at o c.timers counts j l,
            leb-true _ (d.time + largest_time) (every_out count_fits c.timers (and_right (sound_waiting d) f after_time) j l),
          )

-- the state is not sound
pub state_fails : (blocks : List ℕ) (cs : List Chart) (s : Controller) → (sound_state blocks cs s ≡ false) ↔ UnsoundState blocks cs s
unfolding sound_state sound_at
state_fails blocks cs s = ((λ e. out (and_cases (ltb s.turn (length cs)) _ e)), (λ u. is_no _ (λ e. back e u)))
  where
    head : (h : ℕ) → h < length cs → sound_at blocks cs s h ≡ false → UnsoundState blocks cs s
    head h b e =
        let n = nth_below cs h b in
        at_head h n.0 n.1 (head_out n.0 (offset blocks h) (head_at s h) s.counts (rw (n.1, sound_at) at e))

    out : (ltb s.turn (length cs) ≡ false) ⊎ (every_below (sound_at blocks cs s) (length cs) ≡ false) → UnsoundState blocks cs s
    out (inl e) = no_turn (ltb-false s.turn (length cs) e)
    out (inr e) = let f = every_fails (sound_at blocks cs s) (length cs) e in head f.0 f.1 f.2

    back : sound_state blocks cs s ≡ true → UnsoundState blocks cs s → ⊥
    back e (no_turn l) = omega (arith, ltb-true s.turn (length cs) (and_left (ltb s.turn (length cs)) _ e))
    back e (at_head h c n u) =
        let x = every_out (sound_at blocks cs s) (length cs) (and_right (ltb s.turn (length cs)) _ e) h (below_nth cs h n) in
        head_back c (offset blocks h) (head_at s h) s.counts (rw (n, sound_at) at x) u
