-- What a file's version is to its chart: the first byte is the chart's version; what is not a file of version 3 is read as it was before there was
-- one, and what is of neither 2 nor 3 as document 01 has it; and a chart may be stored as another version and back.
-- Nothing is hard: the round trips of File, at another version. Assumes nothing.
use mathlib.Core.Path.{◌≡◌, refl, ap, ◌∙◌, subst}
use mathlib.Core.Logic.{◌↔◌}
use mathlib.Core.Bool.{Bool, true, false, ◌&&◌}
use mathlib.Core.Option.{some}
use mathlib.Core.List.{List, [], ◌∷◌}
use Prim.Native.Nat.{ℕ, ◌+◌, ◌*◌, ◌%◌, ◌≤◌}
use native.Mathlib.Omega.{arith}
use lib.Dec.{leb, eqb}
use lib.ListN.{length, get_elem?}
use borrow.Author.Tests.{leb-true, le-leb}
use Rattle.lists.proofs.Bools.{same_bool, same_number}
use Rattle.model.specs.Answer.{Answer, returned, then, unless, nowhere}
use Rattle.model.specs.Chart.{Chart}
use Rattle.model.specs.Version.{known_version, width_of, in_version, widest, large_constant}
use Rattle.model.specs.Valid.{Valid, Storable}
use Rattle.model.proofs.Versions.{known_some, known_most, storable_iff, narrowed, narrow_small, valid_in}
use Rattle.file_format.specs.Parse.{Bytes, Parsed, value, refusal, number, digits}
use Rattle.file_format.specs.Body.{read_body}
use Rattle.file_format.specs.File.{Frame, Versioned, read_frame, judge_frame, answered, read_file, write_file, chart_in, file_of}
use Rattle.file_format.specs.Versions.{chart_in_version1, chart_in_version12, StoredAs}
use Rattle.file_format.proofs.Parsed.{value_refused, same_value, bind_value}
use Rattle.file_format.proofs.Bytes.{file_bytes}
use Rattle.file_format.proofs.File.{chart_survives, file_survives, reads_storable}

-- ---- stored as another version

-- there and back
back : (version : ℕ) (c : Chart) → in_version c.version (in_version version c) ≡ c
unfolding in_version
back version c = refl

module _ (bs : List ℕ) (c : Chart) (by : Bytes bs) (e : chart_in bs ≡ returned c) where
  stored : (version : ℕ) → Storable (in_version version c) → StoredAs version bs c
  stored version s = let r = chart_survives (in_version version c) s in record {
    reads = r;
    returns = rw r (ap returned (ap file_of (back version c) ∙ file_survives bs c by e));
  }

  -- as any version that holds it, and as no other
  pub stored_iff : (version : ℕ) → StoredAs version bs c ↔ Storable (in_version version c)
  unfolding file_of
  stored_iff version =
      (λ s. reads_storable (file_of (in_version version c)) (in_version version c) (file_bytes _ (in_version version c)) s.reads, stored version)

  wide : Valid widest c
  wide = ((storable_iff c).0 (reads_storable bs c by e)).valid

  -- every chart as version 2 and as version 3
  pub stored_as_2 : StoredAs 2 bs c
  unfolding in_version known_version width_of
  stored_as_2 = stored 2 (record { known = refl; valid = valid_in 4 2 c wide })

  pub stored_as_3 : StoredAs 3 bs c
  unfolding in_version known_version width_of
  stored_as_3 = stored 3 (record { known = refl; valid = valid_in 4 3 c wide })

  -- as version 1 exactly when no constant is over 65,535
  pub stored_as_1 : StoredAs 1 bs c ↔ (large_constant c ≡ false)
  unfolding in_version known_version width_of
  stored_as_1 = (
    λ s. narrow_small c (valid_in 2 c.version (in_version 1 c) ((stored_iff 1).0 s).valid),
    λ f. stored 1 (record { known = refl; valid = valid_in 2 1 c (narrowed c f wide) }),
  )

-- ---- the version is the first byte

-- of a file that is read as a chart it is the chart's version
pub version_first : (bs : List ℕ) (c : Chart) → Bytes bs → chart_in bs ≡ returned c → get_elem? bs 0 ≡ some c.version
unfolding file_of write_file digits
version_first bs c by e =
    let q : c.version % 256 ≡ c.version = omega (arith, known_most c.version (reads_storable bs c by e).known) in
    subst (λ (x : List ℕ). get_elem? x 0 ≡ some c.version) (file_survives bs c by e) (ap some q)

-- a frame begins with the first byte
first_byte : (bs : List ℕ) {f : Frame} {body : List ℕ} → read_frame bs ≡ value f body → get_elem? bs 0 ≡ some f.version
unfolding read_frame number
first_byte [] e = absurd (value_refused e refl)
first_byte (b ∷ t) {f} e =
    let i = bind_value (number 4 t) _ _ _ e in
    let q : 0 * 256 + b ≡ f.version = ap (λ (f : Frame). f.version) (same_value i.3) in
    let v : b ≡ f.version = omega (arith, q) in
    ap some v

-- two readers that know a frame's version alike, and read it with the same width if they know it, answer alike
module _ (known known' : ℕ → Bool) (width width' : ℕ → ℕ) where
  alike : (x : Parsed Frame)
      → ((f : Frame) (body : List ℕ) → x ≡ value f body → (known f.version ≡ known' f.version)
      × (known' f.version ≡ true → width f.version ≡ width' f.version))
      → then (judge_frame known x) (λ b. answered (read_body b.version (width b.version) b.body))
      ≡ then (judge_frame known' x) (λ b. answered (read_body b.version (width' b.version) b.body))
  unfolding judge_frame
  alike (refusal n p) h = refl
  alike (value f body) h = let k = h f body refl in rw k.0 (go (eqb f.follow (length body)) (known' f.version) k.1)
    where
      go : (a b : Bool) → (b ≡ true → width f.version ≡ width' f.version)
          → then (unless a 1 nowhere (unless b 2 nowhere (returned (record { version = f.version; body = body }))))
          (λ (b : Versioned). answered (read_body b.version (width b.version) b.body))
          ≡ then (unless a 1 nowhere (unless b 2 nowhere (returned (record { version = f.version; body = body }))))
          (λ (b : Versioned). answered (read_body b.version (width' b.version) b.body))
      go false b h = refl
      go true false h = refl
      go true true h = ap (λ W. answered (read_body f.version W body)) (h refl)

-- on files: two readers that know the first byte alike as a version, and read it with the same width if they know it, answer alike
pub reads_alike : (known known' : ℕ → Bool) (width width' : ℕ → ℕ) (bs : List ℕ)
    → ((v : ℕ) → get_elem? bs 0 ≡ some v → (known v ≡ known' v) × (known' v ≡ true → width v ≡ width' v))
    → read_file known width bs ≡ read_file known' width' bs
unfolding read_file
reads_alike known known' width width' bs h = alike known known' width width' (read_frame bs) (λ f body e. h f.version (first_byte bs e))

-- the only known version below 3 but 2 is 1
known_1 : (v : ℕ) → (v ≡ 2 → ⊥) → (v ≡ 3 → ⊥) → known_version v ≡ eqb v 1
unfolding known_version
known_1 v h h' = same_bool (known_version v) (eqb v 1) (λ e. one (known_some v e) (known_most v e)) (λ e. yes (same_number e))
  where
    one : 1 ≤ v → v ≤ 3 → eqb v 1 ≡ true
    one l m = let q : v ≡ 1 = omega (arith, h, h') in ap (λ x. eqb x 1) q

    yes : v ≡ 1 → known_version v ≡ true
    yes q = ap known_version q

-- what is of neither version 2 nor 3 is read as document 01 has it: the same chart, or the same refusal
pub reads_as_version_1 : (bs : List ℕ) → (get_elem? bs 0 ≡ some 2 → ⊥) → (get_elem? bs 0 ≡ some 3 → ⊥) → chart_in bs ≡ chart_in_version1 bs
unfolding chart_in chart_in_version1 width_of
reads_as_version_1 bs h h' =
    reads_alike known_version (λ v. eqb v 1) width_of (λ v. 2) bs
    (λ v e. (known_1 v (λ q. h (e ∙ ap some q)) (λ q. h' (e ∙ ap some q)), λ k. two v (same_number k)))
  where
    two : (v : ℕ) → v ≡ 1 → width_of v ≡ 2
    two v q = ap width_of q

-- the known versions but 3 are those that there were
known_12 : (v : ℕ) → (v ≡ 3 → ⊥) → known_version v ≡ (leb 1 v && leb v 2)
unfolding known_version
known_12 v h = ap (λ (b : Bool). leb 1 v && b) (same_bool (leb v 3) (leb v 2)
    (λ e. le-leb v 2 (omega (arith, leb-true v 3 e, h)))
    (λ e. le-leb v 3 (omega (arith, leb-true v 2 e))))

-- what is not of version 3 is read as it was before there was one
pub reads_as_before : (bs : List ℕ) → (get_elem? bs 0 ≡ some 3 → ⊥) → chart_in bs ≡ chart_in_version12 bs
unfolding chart_in chart_in_version12
reads_as_before bs h =
    reads_alike known_version (λ v. leb 1 v && leb v 2) width_of width_of bs (λ v e. (known_12 v (λ q. h (e ∙ ap some q)), λ k. refl))

-- and so is whatever follows from the reading
pub follows_as_before : {A : Type 0} (f : Chart → Answer A) (bs : List ℕ) → (get_elem? bs 0 ≡ some 3 → ⊥)
    → then (chart_in bs) f ≡ then (chart_in_version12 bs) f
follows_as_before f bs h = ap (λ x. then x f) (reads_as_before bs h)
