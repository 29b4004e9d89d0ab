-- Files that are judged one after another: their charts and the array of their headers grow at their ends.
use mathlib.Core.Path.{◌≡◌, refl, sym, ap, ◌∙◌}
use mathlib.Core.Option.{some, some-injective, none-ne-some}
use mathlib.Core.List.{List, [], ◌∷◌, ◌++◌}
use Prim.Native.Nat.{ℕ, zero, suc, ◌+◌, ◌<◌}
use native.Mathlib.Omega.{arith}
use lib.ListN.{length, get_elem?, set, length-set, length-append}
use Rattle.lists.specs.Lists.{gather, up_to}
use Rattle.lists.proofs.Growing.{gather_next}
use Rattle.lists.proofs.Nth.{nth_below, up_to_nth, nth_up_to}
use Rattle.model.specs.Answer.{Answer, returned, refused, then}
use Rattle.model.specs.Chart.{Chart}
use Rattle.chart_lists.specs.declared.Header.{Header}
use Rattle.chart_lists.specs.Header.{header_of}
use Rattle.model.proofs.Answers.{then_id}
use Rattle.judgement.specs.Judging.{judged_in}
use Rattle.controller_model.specs.declared.Heads.{Heads}
use Rattle.controller_model.specs.Parts.{in_order, part_of}
use Rattle.controller_model.specs.Heads.{head_file, charts_in}
use Rattle.controller_model.proofs.InOrder.{in_order_lem, in_order_refused}
use Rattle.controller_model.specs.Headers.{HeadersOf}

module _ {A : Type 0} where
  in_order_append : (xs ys : List (Answer A))
      → in_order (xs ++ ys) ≡ then (in_order xs) (λ cs. then (in_order ys) (λ ds. returned (cs ++ ds)))
  unfolding in_order
  in_order_append [] ys = sym (then_id (in_order ys))
  in_order_append (refused n p ∷ xs) ys = refl
  in_order_append (returned a ∷ xs) ys = rw (in_order_append xs ys) (go (in_order xs) (in_order ys))
    where
      go : (x y : Answer (List A)) → then (then x (λ cs. then y (λ ds. returned (cs ++ ds)))) (λ ys. returned (a ∷ ys))
          ≡ then (then x (λ ys. returned (a ∷ ys))) (λ cs. then y (λ ds. returned (cs ++ ds)))
      go (returned cs) (returned ds) = refl
      go (returned cs) (refused n p) = refl
      go (refused n p) y = refl

  module _ (f : ℕ → Answer A) where
    in_order_next : (h : ℕ) {cs : List A} {c : A} → in_order (up_to f h) ≡ returned cs → f h ≡ returned c
        → in_order (up_to f (h + 1)) ≡ returned (cs ++ (c ∷ []))
    unfolding in_order up_to
    in_order_next h e d = rw (gather_next (λ i. f i ∷ []) h, in_order_append (gather (λ i. f i ∷ []) h) (f h ∷ []), e, d)

-- the header of the next chart is stored behind the others
next_header : (cs : List Chart) (headers : List Header) (c : Chart) → length cs < length headers
    → ((k : ℕ) (d : Chart) → get_elem? cs k ≡ some d → get_elem? headers k ≡ some (header_of d))
    → (k : ℕ) (d : Chart) → get_elem? (cs ++ (c ∷ [])) k ≡ some d → get_elem? (set headers (length cs) (header_of c)) k ≡ some (header_of d)
next_header [] [] c l each k d e = absurd (omega arith)
next_header [] (x ∷ xs) c l each zero d e = ap (λ (d : Chart). some (header_of d)) (some-injective _ _ e)
next_header [] (x ∷ xs) c l each (suc k) d e = absurd (none-ne-some _ e)
next_header (b ∷ cs) [] c l each k d e = absurd (omega arith)
next_header (b ∷ cs) (x ∷ xs) c l each zero d e = each 0 d e
next_header (b ∷ cs) (x ∷ xs) c l each (suc k) d e = next_header cs xs c (omega arith) (λ k. each (suc k)) k d e

-- the first h answers are the charts of these headers
pub record FirstJudged (f : ℕ → Answer Chart) (h : ℕ) (headers : List Header) : Type 0 where
  pub charts : List Chart
  pub are : in_order (up_to f h) ≡ returned charts
  pub number : length charts ≡ h
  pub headers_are : HeadersOf charts headers

module _ (f : ℕ → Answer Chart) where
  pub none_judged : {headers : List Header} → length headers ≡ 8 → FirstJudged f 0 headers
  unfolding in_order up_to gather
  none_judged l = record {
    charts = [];
    are = refl;
    number = refl;
    headers_are = record { number = l; few = omega arith; header = λ h c e. absurd (none-ne-some _ e) };
  }

  pub next_judged : {h : ℕ} {headers : List Header} (j : FirstJudged f h headers) {c : Chart} {m : Header}
      → h < 8 → f h ≡ returned c → m ≡ header_of c
      → FirstJudged f (h + 1) (set headers h m)
  next_judged {h} {headers} j {c} {m} l d s =
      let q = j.headers_are in
      let n = j.number in record {
        charts = j.charts ++ (c ∷ []);
        are = in_order_next f h j.are d;
        number = length-append j.charts (c ∷ []) ∙ ap (λ (k : ℕ). k + 1) n;
        headers_are = record {
          number = length-set headers h m ∙ q.number;
          few = omega (arith, length-append j.charts (c ∷ []));
          header = rw (s, ← n) (next_header j.charts headers c (omega (arith, q.number)) q.header);
        };
      }

-- ---- the files of the heads

module _ (files : List ℕ) (hs : Heads) where
  -- the first h files have the charts of these headers
  abbrev pub FilesJudged : (h : ℕ) → List Header → Type 0
  FilesJudged h headers = FirstJudged (λ g. judged_in (part_of hs.lengths g files)) h headers

  pub file_refused : {h k p : ℕ} {headers : List Header} → FilesJudged h headers → h < hs.number → judged_in (head_file files hs h) ≡ refused k p
      → charts_in files hs ≡ refused k p
  unfolding charts_in
  file_refused {h} j l d =
      let f : ℕ → Answer Chart = λ g. judged_in (part_of hs.lengths g files) in
      (in_order_refused _ _ (up_to f hs.number)).1 (record {
        place = h;
        is_nth = nth_up_to f hs.number h l ∙ ap some d;
        before = λ g b.
            let x = nth_below j.charts g (omega (arith, j.number)) in
            (x.0, nth_up_to f hs.number g (omega arith) ∙ ap some (up_to_nth f h g ((in_order_lem (up_to f h) j.are).each g x.0 x.1)).1);
      })

  pub files_passed : {h : ℕ} {headers : List Header} (j : FilesJudged h headers) → h ≡ hs.number → charts_in files hs ≡ returned j.charts
  unfolding charts_in
  files_passed j e = rw e at j.are
