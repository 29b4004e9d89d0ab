-- A chart file: version, length, body (document 01, "The chart file"; versions: document 02, P2).
use Rattle.std.specs.Prelude.{◌≡◌, Bool, true, List, ◌++◌, ℕ, length, eqb}
use Rattle.model.specs.Answer.{Answer, returned, refused, then, unless, nowhere}
use Rattle.model.specs.Chart.{Chart}
use Rattle.model.specs.Version.{known_version, width_of}
use Rattle.model.specs.Valid.{Valid}
use Rattle.file_format.specs.Parse.{Bytes, Parsed, value, refusal, bind, number, digits}
use Rattle.file_format.specs.Body.{read_body, write_body}

-- the version byte, and the number of the bytes that follow
pub record Frame : Type 0 where
  pub version : ℕ
  pub follow : ℕ

-- both, or a refusal where the file ends before
unfoldable pub read_frame : List ℕ → Parsed Frame
read_frame bs = bind (number 1 bs) (λ version b₁. bind (number 4 b₁) (λ follow b₂. value (record { version = version; follow = follow }) b₂))

-- a version and the body that is to be read by it
pub record Versioned : Type 0 where
  pub version : ℕ
  pub body : List ℕ

-- 1, then 2 unless the version is known, else the version and the body
unfoldable pub judge_frame : (known : ℕ → Bool) → Parsed Frame → Answer Versioned
judge_frame known (refusal n p) = refused 1 nowhere
judge_frame known (value f body) =
    unless (eqb f.follow (length body)) 1 nowhere (
    unless (known f.version) 2 nowhere (
    returned (record { version = f.version; body = body })))

-- what reading to the end answers
abbrev pub answered : {A : Type 0} → Parsed A → Answer A
answered (value a t) = returned a
answered (refusal n p) = refused n p

-- the chart of a file, or its refusal, for any versions and any widths of their constants
unfoldable pub read_file : (known : ℕ → Bool) → (width : ℕ → ℕ) → List ℕ → Answer Chart
read_file known width bs =
    then (judge_frame known (read_frame bs)) (λ f. answered (read_body f.version (width f.version) f.body))

-- the file of a chart, its constants in W bytes
unfoldable pub write_file : (W : ℕ) → Chart → List ℕ
write_file W c = let body = write_body W c in digits 1 c.version ++ (digits 4 (length body) ++ body)

-- the chart of a file, or its refusal, 1 to 8
unfoldable pub chart_in : List ℕ → Answer Chart
chart_in bs = read_file known_version width_of bs

-- some bytes are read as c
pub record ReadFrom (c : Chart) : Type 0 where
  pub file : List ℕ
  pub bytes : Bytes file
  pub reads : chart_in file ≡ returned c

-- the file of a chart, by its version
unfoldable pub file_of : Chart → List ℕ
file_of c = write_file (width_of c.version) c

-- what a file is that is read as a chart, for any versions and widths: its version is known, its limits are kept, and it is what is written for it
pub record ReadAs (known : ℕ → Bool) (width : ℕ → ℕ) (bs : List ℕ) (c : Chart) : Type 0 where
  pub is_known : known c.version ≡ true
  pub valid : Valid (width c.version) c
  pub written : bs ≡ write_file (width c.version) c
