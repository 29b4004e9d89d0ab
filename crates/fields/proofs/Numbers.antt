-- Numbers that are read byte by byte.
use mathlib.Core.Path.{◌≡◌, refl, sym, ap, ◌∙◌, subst}
use mathlib.Core.List.{List}
use Prim.Native.Nat.{ℕ, zero, suc, ◌+◌, ◌-◌, ◌*◌, ◌^◌, ◌≤◌, ◌<◌}
use native.Mathlib.Nat.{pow-suc, add-zero, add-suc, mul-le-mul_right, suc-mul, pow-le-pow_right}
use native.Mathlib.Numerals.{add-one}
use native.Mathlib.Omega.{arith}
use lib.ListN.{length, get_or, drop}
use Rattle.std.specs.Prelude.{Result, Ok, Err}
use Rattle.model.specs.Answer.{nowhere}
use Rattle.refusal.specs.declared.Reason.TheVariants.{CutOff}
use Rattle.refusal.specs.declared.Refusal.{Refusal}
use Rattle.file_format.specs.Parse.{value, refusal, bind, byte, number}
use Rattle.file_format.proofs.Reading.{byte_in, byte_out}
use Rattle.fields.specs.Meaning.{NumberAt}

-- a number that is cut stays cut, however many bytes more it has
cut_longer : (k v : ℕ) (bs : List ℕ) {n p : ℕ} → number k bs ≡ refusal n p → number (k + v) bs ≡ refusal n p
unfolding number
cut_longer k zero bs e = rw add-zero e
cut_longer k (suc v) bs e = rw (add-suc, cut_longer k v bs e)

same_value : {x y n m : ℕ} → ◌≡◌ {A = Result (ℕ × ℕ) Refusal} (Ok (x, n)) (Ok (y, m)) → x ≡ y
same_value {x} {y} {n} {m} e = let q : ◌≡◌ {A = ℕ × ℕ} (x, n) (y, m) = cc in ap (λ (p : ℕ × ℕ). p.0) q

not_refused : {x n : ℕ} {f : Refusal} → ◌≡◌ {A = Result (ℕ × ℕ) Refusal} (Err f) (Ok (x, n)) → ⊥
not_refused e = cc

digit_less : {x y a b : ℕ} → x < a → y < b → x * b + y < a * b
digit_less {x} {y} {a} {b} p q = let h : suc x * b ≤ a * b = mul-le-mul_right b p in omega (arith, suc-mul x b)

-- k bytes from `at` on are read, and make up v
pub record Taken (s : List ℕ) (at v next k : ℕ) : Type 0 where
  pub is : number k (drop at s) ≡ value v (drop next s)
  pub small : v < 256 ^ k

pub taken_none : (s : List ℕ) (at : ℕ) → Taken s at 0 at 0
unfolding number
taken_none s at = record { is = refl; small = omega arith }

module _ {s : List ℕ} {at v next k : ℕ} (h : Taken s at v next k) where
  next_number : number (suc k) (drop at s) ≡ bind (byte (drop next s)) (λ b t. value (v * 256 + b) t)
  unfolding number
  next_number = rw h.is

  pub taken_all : {w : ℕ} → k ≡ w → NumberAt w s at (Ok (v, next))
  taken_all e = rw (← e) (record { reads = sym h.is; small = λ y n q. subst (λ (z : ℕ). z < 256 ^ k) (same_value q) h.small })

  -- no byte is left for the next one
  pub taken_cut : (w : ℕ) → k < w → length s ≤ next → NumberAt w s at (Err record { reason = CutOff; place = nowhere })
  taken_cut w l o =
      let q : suc k + (w - suc k) ≡ w = omega arith in
      let e : number (suc k) (drop at s) ≡ refusal 3 nowhere = next_number ∙ rw (byte_out s next o) in
      record {
        reads = sym (subst (λ (n : ℕ). number n (drop at s) ≡ refusal 3 nowhere) q (cut_longer (suc k) (w - suc k) (drop at s) e));
        small = λ y n q. absurd (not_refused q);
      }

  -- it is b
  pub taken_more : {b : ℕ} → next < length s → b ≡ get_or s next 0 → b < 256 → Taken s at (v * 256 + b) (next + 1) (k + 1)
  taken_more {b} i e l = subst (Taken s at (v * 256 + b) (next + 1)) (sym (add-one k)) (record {
    is = next_number ∙ rw (byte_in s next i, e);
    small = rw pow-suc (digit_less h.small l);
  })

  -- it does not overflow where a number has at most 8 bytes
  pub taken_fits : {w b : ℕ} → k < w → w ≤ 8 → b < 256 → v * 256 + b < 256 ^ 8
  taken_fits {w} {b} m n l =
      let q : suc k ≤ 8 = omega arith in
      let p : 256 ^ suc k ≤ 256 ^ 8 = pow-le-pow_right (omega arith) q in
      let d : v * 256 + b < 256 ^ k * 256 = digit_less h.small l in
      omega (arith, pow-suc 256 k)
