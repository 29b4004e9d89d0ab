-- Reading and writing a chart file undo one another: what is written for a chart that a file can hold is read as that chart, and a file that is read
-- as a chart is the one that is written for it. Both for any versions and any widths of their constants, then for the versions there are. Hard: the
-- length in the frame must hold the body's: four bytes do.
use mathlib.Core.Path.{◌≡◌, refl, sym, ap, ◌∙◌, subst}
use mathlib.Core.Bool.{Bool, true}
use mathlib.Core.List.{List, ◌++◌, append_assoc, append-nil}
use Prim.Native.Nat.{ℕ, suc, ◌^◌, ◌≤◌, ◌<◌}
use native.Mathlib.Omega.{arith}
use lib.Dec.{eqb}
use lib.ListN.{length}
use Rattle.lists.proofs.Bools.{eqb_self, same_number}
use Rattle.model.specs.Answer.{returned, nowhere}
use Rattle.model.specs.Chart.{Chart}
use Rattle.model.specs.Version.{known_version, width_of}
use Rattle.model.specs.Valid.{Valid, Storable}
use Rattle.model.specs.Live.{live_rounds}
use Rattle.model.proofs.Versions.{known_most, width_most}
use Rattle.model.proofs.LiveRounds.{rounds_most}
use Rattle.file_format.specs.Parse.{Parsed, value, refusal, digits, Bytes}
use Rattle.file_format.specs.Body.{read_body, write_body}
use Rattle.file_format.specs.File.{Frame, Versioned, read_frame, judge_frame, read_file, write_file, chart_in, file_of, ReadAs}
use Rattle.file_format.specs.Lengths.{file_length}
use Rattle.file_format.proofs.Answers.{result_refused, then_result, unless_result, answered_result}
use Rattle.file_format.proofs.RoundTrip.{bytes_rest, RoundTrip, restated, field, end}
use Rattle.file_format.proofs.Fields.{number_trip}
use Rattle.file_format.proofs.Body.{body_reads, body_written}
use Rattle.file_format.proofs.Lengths.{length_body, file_most}

-- ---- version and length

pub record FrameFits (f : Frame) : Type 0 where
  pub version : f.version < 256
  pub follow : f.follow < 256 ^ 4

abbrev write_frame : Frame → List ℕ
write_frame f = digits 1 f.version ++ digits 4 f.follow

frame_trip : RoundTrip FrameFits write_frame read_frame
unfolding read_frame
frame_trip =
    restated (λ f h. record { version = h.1.0; follow = h.1.1.0 }) (λ f v. (tt, (v.version, (v.follow, tt)))) (λ f. simp append-nil)
    (field (λ f. Unit {0}) (λ (f : Frame). f.version) _ (number_trip 1)
    (λ version p. field _ (λ (f : Frame). f.follow) _ (number_trip 4)
    (λ follow q. end _ (record { version = version; follow = follow }) ((tt, refl), refl)
    (λ f c j. record { version = c.0.1 j; follow = c.1 j }))))

-- what a frame says that lets the body be read
pub record FrameReads (known : ℕ → Bool) (x : Parsed Frame) (b : Versioned) : Type 0 where
  pub frame : Frame
  pub reads : x ≡ value frame b.body
  pub follow : frame.follow ≡ length b.body
  pub version : frame.version ≡ b.version
  pub is_known : known b.version ≡ true

pub judged_frame : (known : ℕ → Bool) (x : Parsed Frame) {b : Versioned} → judge_frame known x ≡ returned b → FrameReads known x b
unfolding judge_frame
judged_frame known (refusal n p) e = absurd (result_refused e refl)
judged_frame known (value f body) {b} e =
    let g = unless_result (eqb f.follow (length body)) 1 nowhere _ e in
    let g' = unless_result (known f.version) 2 nowhere _ g.1 in
    let q : record { version = f.version; body = body } ≡ b = cc in
    let v : f.version ≡ b.version = ap (λ (b : Versioned). b.version) q in
    let s : body ≡ b.body = ap (λ (b : Versioned). b.body) q in
    record { frame = f; reads = ap (value f) s; follow = same_number g.0 ∙ ap length s; version = v; is_known = rw (← v) g'.0 }

-- ---- the file, for any versions and widths

body_fits : (W : ℕ) → W ≤ 8 → (c : Chart) → Valid W c → length (write_body W c) < 256 ^ 4
unfolding file_length
body_fits W narrow c v = omega (arith, length_body W c, file_most W c v)

module _ (known : ℕ → Bool) (width : ℕ → ℕ) where
  pub read_written : (c : Chart) → known c.version ≡ true → c.version < 256 → width c.version ≤ 8 → Valid (width c.version) c
      → read_file known width (write_file (width c.version) c) ≡ returned c
  unfolding read_file write_file judge_frame
  read_written c k h narrow v =
      let W = width c.version in
      let frame : Frame = record { version = c.version; follow = length (write_body W c) } in
      let e : read_frame (digits 1 c.version ++ (digits 4 (length (write_body W c)) ++ write_body W c)) ≡ value frame (write_body W c) =
      rw append_assoc at (frame_trip.reads frame (write_body W c) (record { version = h; follow = body_fits W narrow c v })) in
      rw (e, eqb_self (length (write_body W c)), k, body_reads W narrow c v)

  pub written_read : ((version : ℕ) → width version ≤ 8) → (bs : List ℕ) (c : Chart) → Bytes bs → read_file known width bs ≡ returned c
      → ReadAs known width bs c
  unfolding read_file write_file
  written_read narrow bs c by e =
      let i = then_result (judge_frame known (read_frame bs)) _ e in
      let b = i.0 in
      let W = width b.version in
      let f = judged_frame known (read_frame bs) i.1 in
      let j = frame_trip.written bs f.frame b.body by f.reads in
      let r = answered_result (read_body b.version W b.body) i.2 in
      let rest = bytes_rest (write_frame f.frame) b.body (subst Bytes j.1 by) in
      let k = body_written W (narrow b.version) b.version b.body c r.0 rest r.1 in
      let v : c.version ≡ b.version = k.0.0 in
      record {
        is_known = ap known v ∙ f.is_known;
        valid = subst (λ x. Valid (width x) c) (sym v) k.0.1;
        written = subst (λ x. bs ≡ write_file (width x) c) (sym v) (joined f.frame b.body W f.follow (f.version ∙ sym v) j.1 k.1);
      }
    where
      joined : (f : Frame) (body : List ℕ) (W : ℕ) → f.follow ≡ length body → f.version ≡ c.version → bs ≡ write_frame f ++ body
          → body ≡ write_body W c → bs ≡ digits 1 c.version ++ (digits 4 (length (write_body W c)) ++ write_body W c)
      joined f body W l v e q = rw (← q, ← l, ← v, ← append_assoc) e

-- ---- the versions there are

-- what is written for a chart that a file can hold is read as that chart
pub chart_survives : (c : Chart) → Storable c → chart_in (file_of c) ≡ returned c
unfolding chart_in file_of
chart_survives c s =
    read_written known_version width_of c s.known
    (omega (arith, known_most c.version s.known)) (omega (arith, width_most c.version)) s.valid

module _ (bs : List ℕ) (c : Chart) (by : Bytes bs) (e : chart_in bs ≡ returned c) where
  read_as_lem : ReadAs known_version width_of bs c
  unfolding chart_in
  read_as_lem = written_read known_version width_of (λ v. omega (arith, width_most v)) bs c by e

  -- a file that is read as a chart is the one that is written for it, byte for byte
  pub file_survives : file_of c ≡ bs
  unfolding file_of
  file_survives = sym read_as_lem.written

  pub reads_storable : Storable c
  reads_storable = record { known = read_as_lem.is_known; valid = read_as_lem.valid }

  -- valid for the constants of its version
  pub reads_valid : Valid (width_of c.version) c
  reads_valid = reads_storable.valid

  -- accepted or not, it has at most one round more than locations
  pub reads_rounds : live_rounds c ≤ suc c.locations
  reads_rounds = rounds_most reads_valid
