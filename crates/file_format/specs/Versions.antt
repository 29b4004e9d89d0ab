-- The readers of before, and a chart stored as another version (document 02, P2 and P7). Assumes nothing.
use Rattle.std.specs.Prelude.{◌≡◌, ◌&&◌, List, ℕ, leb, eqb}
use Rattle.model.specs.Answer.{Answer, returned, then}
use Rattle.model.specs.Chart.{Chart}
use Rattle.model.specs.Version.{width_of, in_version}
use Rattle.file_format.specs.File.{read_file, chart_in, file_of}

-- the chart of a file, or its refusal, as document 01 has it: only version 1 is known, and constants have two bytes
unfoldable pub chart_in_version1 : List ℕ → Answer Chart
chart_in_version1 bs = read_file (λ version. eqb version 1) (λ version. 2) bs

-- and as it was before there was version 3: only versions 1 and 2 are known
unfoldable pub chart_in_version12 : List ℕ → Answer Chart
chart_in_version12 bs = read_file (λ version. leb 1 version && leb version 2) width_of bs

-- nothing is lost when the chart c of the file bs is stored as that version: the new file is read as the same chart in that version, and what is
-- read from it, written in the version of c, is bs again, byte for byte
pub record StoredAs (version : ℕ) (bs : List ℕ) (c : Chart) : Type 0 where
  pub reads : chart_in (file_of (in_version version c)) ≡ returned (in_version version c)
  pub returns : then (chart_in (file_of (in_version version c))) (λ d. returned (file_of (in_version c.version d))) ≡ returned bs
