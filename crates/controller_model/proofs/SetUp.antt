-- What a judgement that refuses nothing says of the heads, and that they stand at the beginnings of their runs after set-up. Hard: the starting
-- counts of each head, which the writing of a later head leaves.
use mathlib.Core.Path.{◌≡◌, refl, sym, ◌∙◌, subst}
use mathlib.Core.Logic.{◌⊎◌, inl, inr, ◌↔◌}
use mathlib.Core.Bool.{true}
use mathlib.Core.Option.{some}
use mathlib.Core.List.{List, []}
use Prim.Native.Nat.{ℕ, zero, suc, ◌+◌, ◌≤◌, ◌<◌}
use native.Mathlib.Decide.{ℕ_discrete}
use native.Mathlib.Omega.{arith}
use lib.Dec.{leb}
use lib.ListN.{length, get_or, get_elem?, length-replicate}
use borrow.Author.Tests.{leb-true, le-leb}
use Rattle.lists.proofs.Bools.{and_left, and_right, and_both}
use Rattle.lists.proofs.Gather.{length_up_to, get_d_up_to}
use Rattle.lists.proofs.Nth.{below_nth, nth_below, up_to_nth}
use Rattle.lists.proofs.Zeros.{get_d_zeros}
use Rattle.model.specs.Answer.{Answer, returned, then, unless, nowhere}
use Rattle.model.specs.Chart.{Chart}
use Rattle.model.specs.Version.{width_of}
use Rattle.model.specs.Valid.{Valid}
use Rattle.model.specs.PlayerTerms.{CountsAllowed}
use Rattle.model.proofs.Answers.{result_same, unless_result, then_result}
use Rattle.file_format.specs.Parse.{Bytes}
use Rattle.file_format.proofs.File.{reads_valid}
use Rattle.judgement.specs.Judging.{judged_in}
use Rattle.judgement.proofs.Corollaries.{judged_result}
use Rattle.controller_model.specs.declared.Head.{Head}
use Rattle.controller_model.specs.declared.Controller.{Controller}
use Rattle.controller_model.specs.declared.Heads.{Heads}
use Rattle.controller_model.specs.declared.Parts.{Parts}
use Rattle.controller_model.specs.Parts.{offset, every_below}
use Rattle.controller_model.specs.Heads.{allowed_number, head_file, charts_in, charts_judged, counts_in_order, long_enough, blocks_fit, blocks_judged}
use Rattle.controller_model.specs.Heads.{head_counts, set_up_judged, heads_judged}
use Rattle.controller_model.specs.Serving.{standing}
use Rattle.controller_model.specs.Controlling.{start_head, start_counts, at_start, set_up, sound_state, state_judged, Call, done_by, called}
use Rattle.controller_model.proofs.ListParts.{offset_apart, all_part, written_before, written_in, written_behind, length_written, every_out}
use Rattle.controller_model.proofs.InOrder.{in_order_lem}
use Rattle.controller_model.proofs.CountsInOrder.{counts_passed}
use Rattle.controller_model.proofs.Standing.{Stands, begun}
use Rattle.controller_model.proofs.Turns.{Fits, AllStand}

-- ---- what is judged

-- the number of heads
pub number_passes : (n : ℕ) → (allowed_number n ≡ true) ↔ ((1 ≤ n) × (n ≤ 8))
unfolding allowed_number
number_passes n = (
  (λ e. (leb-true 1 n (and_left (leb 1 n) (leb n 8) e), leb-true n 8 (and_right (leb 1 n) (leb n 8) e))),
  (λ x. and_both (le-leb 1 n x.0) (le-leb n 8 x.1)),
)

-- nothing of the heads is refused
pub record Accepted (files : List ℕ) (hs : Heads) (K : ℕ) (cs : List Chart) : Type 0 where
  pub number : allowed_number hs.number ≡ true
  pub are : charts_in files hs ≡ returned cs
  pub timers : leb K 64 ≡ true
  pub blocks : blocks_fit K hs.blocks cs ≡ true

module _ (files : List ℕ) (hs : Heads) (K : ℕ) (cs : List Chart) where
  pub charts_judged_lem : allowed_number hs.number ≡ true → charts_in files hs ≡ returned cs → leb K 64 ≡ true
      → charts_judged files hs K ≡ returned cs
  unfolding charts_judged
  charts_judged_lem a b c = rw (a, b, c) refl

  -- and the other way round
  pub judged_charts : charts_judged files hs K ≡ returned cs
      → (allowed_number hs.number ≡ true) × (charts_in files hs ≡ returned cs) × (leb K 64 ≡ true)
  unfolding charts_judged
  judged_charts e =
      let last : List Chart → Answer (List Chart) = λ ds. unless (leb K 64) 11 nowhere (returned ds) in
      let a = unless_result (allowed_number hs.number) 25 nowhere (then (charts_in files hs) last) e in
      let b = then_result (charts_in files hs) last a.1 in
      let c = unless_result (leb K 64) 11 nowhere (returned b.0) b.2 in
      (a.0, b.1 ∙ c.1, c.0)

  pub accepted_judged : Accepted files hs K cs → heads_judged files hs K ≡ returned cs
  unfolding heads_judged
  accepted_judged a = rw (charts_judged_lem a.number a.are a.timers, a.blocks) refl

module _ {files : List ℕ} {hs : Heads} {K : ℕ} {cs : List Chart} where
  pub heads_accepted : heads_judged files hs K ≡ returned cs → Accepted files hs K cs
  unfolding heads_judged
  heads_accepted e =
      let rest : List Chart → Answer (List Chart) = λ ds. blocks_judged K hs.blocks ds (returned ds) in
      let a = then_result (charts_judged files hs K) rest e in
      let b = unless_result (blocks_fit K hs.blocks a.0) 25 nowhere (returned a.0) a.2 in
      let d = judged_charts files hs K a.0 a.1 in
      subst (Accepted files hs K) (result_same b.1) (record { number = d.0; are = d.1; timers = d.2; blocks = b.0 })

-- and the state passes after them
pub state_passed : (files : List ℕ) (hs : Heads) (K : ℕ) (s : Controller) {cs : List Chart} → state_judged files hs K s ≡ returned cs
    → (heads_judged files hs K ≡ returned cs) × (sound_state hs.blocks cs s ≡ true)
unfolding state_judged
state_passed files hs K s {cs} e =
    let a = then_result (heads_judged files hs K) (λ ds. unless (sound_state hs.blocks ds s) 32 nowhere (returned ds)) e in
    let b = unless_result (sound_state hs.blocks a.0 s) 32 nowhere (returned a.0) a.2 in
    let q = result_same b.1 in
    (a.1 ∙ b.1, subst (λ (ds : List Chart). sound_state hs.blocks ds s ≡ true) q b.0)

-- then the call alone decides
pub called_is : (files : List ℕ) (hs : Heads) (K : ℕ) (s : Controller) {cs : List Chart} → state_judged files hs K s ≡ returned cs
    → (k : Call) → called files hs K s k ≡ done_by hs.blocks cs s k
unfolding called
called_is files hs K s e k = rw e refl

-- ---- the charts

module _ (files : List ℕ) (hs : Heads) (cs : List Chart) (e : charts_in files hs ≡ returned cs) where
  pub as_many : length cs ≡ hs.number
  unfolding charts_in
  as_many = (in_order_lem _ e).as_many ∙ length_up_to _ hs.number

  -- the chart of each head is its file's
  pub chart_of_lem : (h : ℕ) (c : Chart) → get_elem? cs h ≡ some c → judged_in (head_file files hs h) ≡ returned c
  unfolding charts_in
  chart_of_lem h c n = (up_to_nth (λ h. judged_in (head_file files hs h)) hs.number h ((in_order_lem _ e).each h c n)).1

  pub chart_valid : Bytes files → (h : ℕ) (c : Chart) → get_elem? cs h ≡ some c → Valid (width_of c.version) c
  chart_valid bytes h c n =
      let b : Bytes (head_file files hs h) = all_part (λ x. x < 256) hs.lengths h files bytes in
      reads_valid (head_file files hs h) c b ((judged_result (head_file files hs h) b c).0 (chart_of_lem h c n)).reads

-- ---- the blocks

module _ (K : ℕ) (blocks : List ℕ) (cs : List Chart) (fit : blocks_fit K blocks cs ≡ true) where
  pub blocks_end : offset blocks (length cs) ≤ K
  unfolding blocks_fit
  blocks_end =
      leb-true (offset blocks (length cs)) K (and_left (leb (offset blocks (length cs)) K) (every_below (long_enough blocks cs) (length cs)) fit)

  pub blocks_long : (h : ℕ) (c : Chart) → get_elem? cs h ≡ some c → c.timers ≤ get_or blocks h 0
  unfolding blocks_fit long_enough
  blocks_long h c n =
      let x = every_out (long_enough blocks cs) (length cs)
      (and_right (leb (offset blocks (length cs)) K) (every_below (long_enough blocks cs) (length cs)) fit) h (below_nth cs h n) in
      leb-true c.timers (get_or blocks h 0) (rw (n, long_enough) at x)

module _ (files : List ℕ) (bytes : Bytes files) (hs : Heads) (K : ℕ) (cs : List Chart) (a : Accepted files hs K cs) where
  pub accepted_fits : Fits K hs.blocks cs
  accepted_fits = record {
    some_head = omega (arith, as_many files hs cs a.are, ((number_passes hs.number).0 a.number).0);
    few_heads = omega (arith, as_many files hs cs a.are, ((number_passes hs.number).0 a.number).1);
    few_timers = leb-true K 64 a.timers;
    on_board = λ h c n. record {
      in_block = blocks_long K hs.blocks cs a.blocks h c n;
      on_board = omega (arith, offset_apart hs.blocks h (length cs) (below_nth cs h n), blocks_end K hs.blocks cs a.blocks);
      apart = λ g b m. offset_apart hs.blocks h g b;
    };
    valid = chart_valid files hs cs a.are bytes;
  }

-- ---- the starting counts

-- n heads' counts over zeros
module _ (blocks : List ℕ) (counts : ℕ → List ℕ) where
  abbrev pub InBlocks : ℕ → Type 0
  InBlocks n = (g : ℕ) → g < n → length (counts g) ≤ get_or blocks g 0

  start_length : (n : ℕ) → offset blocks n ≤ 64 → InBlocks n → length (start_counts blocks counts n) ≡ 64
  unfolding start_counts
  start_length zero b f = length-replicate {A = ℕ} 64 0
  start_length (suc n) b f =
      let end = offset_apart blocks n (suc n) (omega arith) in
      let l = start_length n (omega arith) (λ g m. f g (omega arith)) in
      length_written (offset blocks n) (counts n) (start_counts blocks counts n) (omega (arith, f n (omega arith))) ∙ l

  -- the counts of the next head begin on the board
  start_begins : (n : ℕ) → offset blocks (suc n) ≤ 64 → InBlocks (suc n) → offset blocks n ≤ length (start_counts blocks counts n)
  start_begins n b f =
      let end = offset_apart blocks n (suc n) (omega arith) in
      omega (arith, start_length n (omega arith) (λ g m. f g (omega arith)))

  start_at : (n : ℕ) → offset blocks n ≤ 64 → InBlocks n → (h j : ℕ) → h < n → j < length (counts h)
      → get_or (start_counts blocks counts n) (offset blocks h + j) 0 ≡ get_or (counts h) j 0
  unfolding start_counts
  start_at zero b f h j m i = absurd (omega arith)
  start_at (suc n) b f h j m i =
      go (ℕ_discrete h n) (start_at n (omega (arith, offset_apart blocks n (suc n) (omega arith))) (λ g q. f g (omega arith)) h j)
    where
      begins : offset blocks n ≤ length (start_counts blocks counts n)
      begins = start_begins n b f

      go : Dec (h ≡ n) → (h < n → j < length (counts h) → get_or (start_counts blocks counts n) (offset blocks h + j) 0 ≡ get_or (counts h) j 0)
          → get_or (start_counts blocks counts (suc n)) (offset blocks h + j) 0 ≡ get_or (counts h) j 0
      go (yes e) ih = rw e (written_in (offset blocks n) (counts n) (start_counts blocks counts n) begins j (rw e at i))
      go (no d) ih =
          let l : h < n = omega (arith, d) in
          written_before (offset blocks n) (counts n) (start_counts blocks counts n) begins (offset blocks h + j)
          (omega (arith, offset_apart blocks h n l, f h m)) ∙ ih l i

  -- what is no head's is 0
  pub start_elsewhere : (n : ℕ) → offset blocks n ≤ 64 → InBlocks n → (i : ℕ)
      → ((h : ℕ) → h < n → (i < offset blocks h) ⊎ (offset blocks h + length (counts h) ≤ i)) → get_or (start_counts blocks counts n) i 0 ≡ 0
  unfolding start_counts
  start_elsewhere zero b f i e = get_d_zeros 64 i
  start_elsewhere (suc n) b f i e =
      go (e n (omega arith))
      ∙ start_elsewhere n (omega (arith, offset_apart blocks n (suc n) (omega arith))) (λ g q. f g (omega arith)) i (λ h l. e h (omega arith))
    where
      go : (i < offset blocks n) ⊎ (offset blocks n + length (counts n) ≤ i)
          → get_or (start_counts blocks counts (suc n)) i 0 ≡ get_or (start_counts blocks counts n) i 0
      go (inl l) = written_before (offset blocks n) (counts n) (start_counts blocks counts n) (start_begins n b f) i l
      go (inr l) = written_behind (offset blocks n) (counts n) (start_counts blocks counts n) (start_begins n b f) i l

-- ---- set-up

module _ (K : ℕ) (blocks : List ℕ) (cs : List Chart) (fits : Fits K blocks cs) (end : offset blocks (length cs) ≤ K) (counts : ℕ → List ℕ)
    (allowed : (h : ℕ) (c : Chart) → get_elem? cs h ≡ some c → CountsAllowed c (counts h)) where
  in_blocks : InBlocks blocks counts (length cs)
  in_blocks g b = let n = nth_below cs g b in omega (arith, (allowed g n.0 n.1).one_each, (fits.on_board g n.0 n.1).in_block)

  -- no step is taken yet
  pub start_stands : AllStand blocks cs counts (at_start blocks counts cs) (λ h. [])
  unfolding at_start start_head
  start_stands = record {
    turn = fits.some_head;
    as_many_heads = length_up_to (start_head cs) 8;
    as_many_counts = start_length blocks counts (length cs) (omega (arith, fits.few_timers)) in_blocks;
    each = λ h c n.
        let is : start_head cs h ≡ standing c.initial 0 = rw (n, start_head) refl in
        subst (λ (d : Head). Stands c (offset blocks h) (λ j. get_or (counts h) j 0) d (start_counts blocks counts (length cs)) [])
        (sym (get_d_up_to (start_head cs) 8 h (standing 0 0) (omega (arith, below_nth cs h n, fits.few_heads)) ∙ is))
        (begun c (offset blocks h) (counts h) (start_counts blocks counts (length cs)) (fits.valid h c n).initial
        (λ j b. start_at blocks counts (length cs) (omega (arith, fits.few_timers)) in_blocks h j (below_nth cs h n)
        (omega (arith, (allowed h c n).one_each))) (allowed h c n).small);
  }

module _ (files : List ℕ) (hs : Heads) (K : ℕ) (counts : List ℕ) (ns : Parts) where
  pub record SetUpAccepted (cs : List Chart) : Type 0 where
    pub accepted : Accepted files hs K cs
    pub allowed : (h : ℕ) (c : Chart) → get_elem? cs h ≡ some c → CountsAllowed c (head_counts counts ns h)

  pub set_up_accepted : (cs : List Chart) → set_up_judged files hs K counts ns ≡ returned cs → SetUpAccepted cs
  unfolding set_up_judged
  set_up_accepted cs e =
      let rest : List Chart → Answer (List Chart) = λ ds. blocks_judged K hs.blocks ds (returned ds) in
      let a = then_result (charts_judged files hs K) (λ ds. counts_in_order (head_counts counts ns) 0 ds (rest ds)) e in
      let b = counts_passed (head_counts counts ns) 0 a.0 (rest a.0) a.2 in
      let c = unless_result (blocks_fit K hs.blocks a.0) 25 nowhere (returned a.0) b.1 in
      let d = judged_charts files hs K a.0 a.1 in
      subst SetUpAccepted (result_same c.1) (record {
        accepted = record { number = d.0; are = d.1; timers = d.2; blocks = c.0 };
        allowed = λ h q n. b.0 h h q (omega arith) n;
      })

  pub record IsSetUp (s₀ : Controller) : Type 0 where
    pub charts : List Chart
    pub accepts : SetUpAccepted charts
    pub is : s₀ ≡ at_start hs.blocks (head_counts counts ns) charts

  pub is_set_up : {s₀ : Controller} → set_up files hs K counts ns ≡ returned s₀ → IsSetUp s₀
  unfolding set_up
  is_set_up {s₀} e =
      let a = then_result (set_up_judged files hs K counts ns) (λ cs. returned (at_start hs.blocks (head_counts counts ns) cs)) e in
      record { charts = a.0; accepts = set_up_accepted a.0 a.1; is = sym (result_same a.2) }
