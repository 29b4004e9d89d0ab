-- What the file's header says of its chart, and how the judgement goes on from there.
use mathlib.Core.Path.{◌≡◌, refl, sym}
use mathlib.Core.List.{List, [], ◌∷◌}
use Prim.Native.Nat.{ℕ, suc, ◌<◌}
use lib.ListN.{get_or}
use Rattle.model.specs.Answer.{Answer, returned, refused}
use Rattle.model.specs.Chart.{Chart}
use Rattle.file_format.specs.File.{chart_in}
use Rattle.file_format.specs.Parse.{Bytes}
use Rattle.file_format.proofs.Answers.{result_refused}
use Rattle.chart_lists.specs.declared.Header.{Header}
use Rattle.chart_lists.specs.Header.{header_of}
use Rattle.filling.specs.Filling.{header_read}
use Rattle.judgement.specs.Judging.{judged_in, judged_header, header_judged}

-- a slice of bytes holds bytes
pub bytes_are : (bs : List ℕ) → ((i : ℕ) → get_or bs i 0 < 256) → Bytes bs
bytes_are [] h = tt
bytes_are (b ∷ bs) h = (h 0, bytes_are bs (λ i. h (suc i)))

module _ (bs : List ℕ) where
  -- a chart was read
  module _ {m : Header} (e : returned m ≡ header_read bs) where
    pub header_read_lem : {c : Chart} → chart_in bs ≡ returned c → m ≡ header_of c
    unfolding header_read
    header_read_lem q = let z : returned m ≡ returned (header_of _) = rw q at e in cc

    pub chart_read : (c : Chart) × (chart_in bs ≡ returned c)
    unfolding header_read
    chart_read = go (chart_in bs) refl
      where
        go : (y : Answer Chart) → chart_in bs ≡ y → (c : Chart) × (chart_in bs ≡ returned c)
        go (returned c) q = (c, q)
        go (refused n p) q = let z : returned m ≡ refused n p = rw q at e in absurd (result_refused refl z)

  pub judged_read : {c : Chart} → chart_in bs ≡ returned c → {a : Answer Header} → a ≡ header_judged c → a ≡ judged_header bs
  unfolding header_judged judged_header judged_in
  judged_read q e = rw q e

  -- none was read
  module _ {n p : ℕ} (e : refused n p ≡ header_read bs) where
    none_read : chart_in bs ≡ refused n p
    unfolding header_read
    none_read = go (chart_in bs) refl
      where
        go : (y : Answer Chart) → chart_in bs ≡ y → chart_in bs ≡ refused n p
        go (returned c) q = let z : refused n p ≡ returned (header_of c) = rw q at e in absurd (result_refused refl (sym z))
        go (refused k i) q =
            let z : ◌≡◌ {A = Answer Header} (refused n p) (refused k i) = rw q at e in
            let a : n ≡ k = cc in
            let b : p ≡ i = cc in
            rw (a, b) q

    pub refused_judged : refused n p ≡ judged_header bs
    unfolding judged_header judged_in
    refused_judged = rw none_read

    pub refused_none : (c : Chart) → chart_in bs ≡ returned c → ⊥
    refused_none c q = result_refused q none_read
