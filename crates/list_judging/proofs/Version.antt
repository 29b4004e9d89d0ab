-- The version decides 2 and 17 alone: the fields come to the same answer in each version that there is, so to what the reader answers for the file of
-- version 2, which has room for any constant. Past the first test the version is only a field of the chart.
use mathlib.Core.Path.{◌≡◌, refl, ◌∙◌}
use mathlib.Core.Bool.{true}
use Prim.Native.Nat.{ℕ}
use native.Mathlib.Omega.{arith}
use Rattle.model.specs.Answer.{returned, then}
use Rattle.model.specs.Version.{known_version, width_of, in_version}
use Rattle.file_format.specs.File.{chart_in}
use Rattle.chart_lists.specs.Lists.{Lists}
use Rattle.chart_lists.specs.declared.Header.{Header}
use Rattle.chart_lists.specs.Header.{header_in_version}
use Rattle.list_judging.specs.FromLists.{fields_from}
use Rattle.list_judging.specs.Typed.{Typed, TypedHeader}
use Rattle.list_judging.specs.FileFrom.{file_from}
use Rattle.model.proofs.Answers.{then_then, then_unless}
use Rattle.list_judging.proofs.FieldOrder.{fields_order}

pub fields_version : (v : ℕ) (m : Header) (l : Lists) → known_version v ≡ true → known_version m.version ≡ true
    → fields_from (header_in_version v m) l ≡ then (fields_from m l) (λ c. returned (in_version v c))
unfolding fields_from in_version header_in_version
fields_version v m l k h = rw (k, h) (simp (then_then, then_unless))

-- in a known version, whatever the constants are
pub fields_as_wide : (m : Header) (l : Lists) → TypedHeader m → Typed l → known_version m.version ≡ true
    → chart_in (file_from (header_in_version 2 m) l) ≡ then (fields_from m l) (λ c. returned (in_version 2 c))
unfolding known_version width_of header_in_version
fields_as_wide m l fits typed known =
    fields_order (header_in_version 2 m) l fits_2 typed typed.constants ∙ fields_version 2 m l refl known
  where
    fits_2 : TypedHeader (header_in_version 2 m)
    fits_2 = record {
      version = omega arith;
      locations = fits.locations;
      initial = fits.initial;
      timers = fits.timers;
      accepting = fits.accepting;
      transitions = fits.transitions;
    }
