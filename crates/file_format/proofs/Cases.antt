-- The bytes of charts A and B are read as these charts, those of B as version 2 as the same chart in that version; of files that fail in two ways,
-- reading refuses what comes first. The definitions compute it.
use mathlib.Core.Path.{◌≡◌, refl}
use mathlib.Core.List.{[], ◌∷◌, map}
use Rattle.model.specs.Answer.{returned, refused}
use Rattle.model.specs.Version.{in_version}
use Rattle.model.specs.Cases.{A, B}
use Rattle.file_format.specs.File.{chart_in}
use Rattle.file_format.specs.Cases.{bytes_of_a, bytes_of_b, bytes_of_b2, FileCase, framed, one_location_of, one_location}
use Rattle.file_format.specs.Cases.{record_to_s, record_to_g, file_case, file_cases}
use Rattle.file_format.proofs.Computing.{files_compute}

-- each code from 0 to 4 is read as the comparison that document 01 gives it
pub charts_read : map chart_in (bytes_of_a ∷ bytes_of_b ∷ bytes_of_b2 ∷ []) ≡ returned A ∷ returned B ∷ returned (in_version 2 B) ∷ []
unfolding files_compute A B bytes_of_a bytes_of_b bytes_of_b2
charts_read = refl

pub file_cases_hold : map (λ (x : FileCase). chart_in x.file) file_cases ≡ map (λ (x : FileCase). refused x.number x.place) file_cases
unfolding files_compute framed one_location_of one_location record_to_s record_to_g file_case file_cases
file_cases_hold = refl
