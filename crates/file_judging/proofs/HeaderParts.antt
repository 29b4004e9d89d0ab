-- The header, read as the code reads it: its first numbers, the accepting locations, the number of transitions.
use mathlib.Core.Path.{◌≡◌, refl, sym, ap, ◌∙◌}
use mathlib.Core.List.{List}
use Prim.Native.Nat.{ℕ, suc, ◌≤◌}
use native.Mathlib.Omega.{arith}
use lib.Dec.{leb}
use lib.ListN.{length}
use Rattle.model.specs.Answer.{nowhere}
use Rattle.file_format.specs.Parse.{Parsed, value, refusal, bind, number, below, rising, entry}
use Rattle.file_format.specs.Body.{FileHeader, read_header}
use Rattle.file_format.proofs.Parsed.{value_refused, same_value, bind_assoc, bind_guard, bind_value, guard_value}
use Rattle.file_format.proofs.Parsed.{below_limit, kept_value, kept_refused}
use Rattle.file_format.proofs.Items.{many_length}
use Rattle.chart_lists.specs.declared.Header.{Header}
use Rattle.file_judging.specs.declared.header.Limits.{Limits}
use Rattle.file_judging.specs.Parts.{read_limits, skip_accepting, read_count, chart_header, skip_header}

-- ---- the parts make up the header

abbrev header_from : Limits → List ℕ → Parsed FileHeader
header_from l b₁ =
    bind (rising 2 l.locations 5 nowhere l.accepting b₁) (λ accepting b₂.
    bind (below 2 513 4 nowhere b₂) (λ count b₃.
    value (record { locations = l.locations; initial = l.initial; timers = l.timers; accepting = accepting; count = count }) b₃))

header_parts : (bs : List ℕ) → bind (read_limits bs) header_from ≡ read_header bs
unfolding read_limits read_header
header_parts bs = simp (bind_assoc, bind_guard)

pub accepting_length : (locations n : ℕ) (bs : List ℕ) {xs t : List ℕ} → rising 2 locations 5 nowhere n bs ≡ value xs t → length xs ≡ n
unfolding rising
accepting_length locations n bs {xs} {t} e = many_length (λ (lo x : ℕ). suc x) (entry 2 locations 5 nowhere) 0 n bs xs t e

-- ---- the header from its parts

module _ (v : ℕ) (bs : List ℕ) where
  pub header_limits : {n p : ℕ} → read_limits bs ≡ refusal n p → refusal n p ≡ skip_header v bs
  unfolding skip_header
  header_limits e = rw (← header_parts bs, e)

  module _ {l : Limits} {b₁ : List ℕ} (e₀ : read_limits bs ≡ value l b₁) where
    abbrev entries_read : Parsed (List ℕ)
    entries_read = rising 2 l.locations 5 nowhere l.accepting b₁

    pub header_accepting : {n p : ℕ} → skip_accepting l.locations l.accepting b₁ ≡ refusal n p → refusal n p ≡ skip_header v bs
    unfolding skip_accepting skip_header
    header_accepting e = let h = kept_refused length entries_read e in rw (← header_parts bs, e₀, h)

    -- the number of transitions decides it
    pub header_rest : {x : ℕ} {b₂ : List ℕ} → skip_accepting l.locations l.accepting b₁ ≡ value x b₂
        → read_count v l.locations l.initial l.timers l.accepting b₂ ≡ skip_header v bs
    unfolding skip_accepting skip_header read_count chart_header
    header_rest {x} {b₂} e =
        let f = kept_value length entries_read e in
        let q = accepting_length _ _ _ f.1 in
        rw (← header_parts bs, e₀, f.1) (go f.0 q (below 2 513 4 nowhere b₂))
      where
        chart_with : ℕ → Header
        chart_with n =
            record { version = v; locations = l.locations; initial = l.initial; timers = l.timers; accepting = l.accepting; transitions = n }

        file_with : List ℕ → ℕ → FileHeader
        file_with xs n = record { locations = l.locations; initial = l.initial; timers = l.timers; accepting = xs; count = n }

        go : (xs : List ℕ) → length xs ≡ l.accepting → (y : Parsed ℕ)
            → bind y (λ n t. value (chart_with n) t) ≡ bind (bind y (λ n t. value (file_with xs n) t)) (λ h t. value (chart_header v h) t)
        go xs q (value n t) = rw q
        go xs q (refusal n p) = refl

  -- a header that is refused was not read
  pub header_never : {n p : ℕ} → refusal n p ≡ skip_header v bs → (h : FileHeader) (t : List ℕ) → read_header bs ≡ value h t → ⊥
  unfolding skip_header
  header_never e h t k = let z : refusal _ _ ≡ value (chart_header v h) t = rw k at e in value_refused refl (sym z)

module _ (bs : List ℕ) where
  -- the accepting locations of a header that was read
  pub header_entries : {l : Limits} {b₁ : List ℕ} → read_limits bs ≡ value l b₁ → (h : FileHeader) (t : List ℕ) → read_header bs ≡ value h t
      → (b₂ : List ℕ) × (rising 2 l.locations 5 nowhere l.accepting b₁ ≡ value h.accepting b₂)
  header_entries {l} {b₁} e₀ h t e =
      let k : header_from l b₁ ≡ value h t = rw e₀ at (header_parts bs ∙ e) in
      let i = bind_value (rising 2 l.locations 5 nowhere l.accepting b₁) _ h t k in
      let j = bind_value (below 2 513 4 nowhere i.1) _ h t i.3 in
      let q : i.0 ≡ h.accepting = ap (λ (x : FileHeader). x.accepting) (same_value j.3) in
      (i.1, rw q at i.2)

-- ---- the numbers of a header that was read are within the limits

pub limits_few : (bs : List ℕ) {l : Limits} {t : List ℕ} → read_limits bs ≡ value l t → l.locations ≤ 256
unfolding read_limits
limits_few bs {l} {t} e =
    let i₀ = bind_value (below 2 257 4 nowhere bs) _ l t e in
    let g = guard_value (leb 1 i₀.0) 4 nowhere _ i₀.3 in
    let i₁ = bind_value (below 2 i₀.0 5 nowhere i₀.1) _ l t g.1 in
    let i₂ = bind_value (below 1 65 4 nowhere i₁.1) _ l t i₁.3 in
    let i₃ = bind_value (number 2 i₂.1) _ l t i₂.3 in
    let q : i₀.0 ≡ l.locations = ap (λ (x : Limits). x.locations) (same_value i₃.3) in
    omega (arith, below_limit 2 257 4 nowhere bs i₀.2)

pub record Few (m : Header) : Type 0 where
  pub locations : m.locations ≤ 256
  pub timers : m.timers ≤ 64
  pub transitions : m.transitions ≤ 512

pub header_few : (v : ℕ) (bs : List ℕ) {m : Header} {t : List ℕ} → skip_header v bs ≡ value m t → Few m
unfolding skip_header read_header chart_header
header_few v bs {m} {t} e =
    let k = kept_value (chart_header v) (read_header bs) e in
    let h = k.0 in
    let i₀ = bind_value (below 2 257 4 nowhere bs) _ h t k.1 in
    let g = guard_value (leb 1 i₀.0) 4 nowhere _ i₀.3 in
    let i₁ = bind_value (below 2 i₀.0 5 nowhere i₀.1) _ h t g.1 in
    let i₂ = bind_value (below 1 65 4 nowhere i₁.1) _ h t i₁.3 in
    let i₃ = bind_value (number 2 i₂.1) _ h t i₂.3 in
    let i₄ = bind_value (rising 2 i₀.0 5 nowhere i₃.0 i₃.1) _ h t i₃.3 in
    let i₅ = bind_value (below 2 513 4 nowhere i₄.1) _ h t i₄.3 in
    let q = same_value i₅.3 in
    let l : i₀.0 ≡ m.locations = ap (λ (x : FileHeader). x.locations) q ∙ ap (λ (x : Header). x.locations) k.2 in
    let j : i₂.0 ≡ m.timers = ap (λ (x : FileHeader). x.timers) q ∙ ap (λ (x : Header). x.timers) k.2 in
    let n : i₅.0 ≡ m.transitions = ap (λ (x : FileHeader). x.count) q ∙ ap (λ (x : Header). x.transitions) k.2 in
    record {
      locations = omega (arith, below_limit 2 257 4 nowhere bs i₀.2);
      timers = omega (arith, below_limit 1 65 4 nowhere i₁.1 i₂.2);
      transitions = omega (arith, below_limit 2 513 4 nowhere i₄.1 i₅.2);
    }

pub ruleset header_steps = (header_limits, header_accepting, header_rest)
