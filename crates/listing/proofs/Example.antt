-- The texts for charts A and B with K = 16: that for B is the example of document 01 ("What the four parts hand back"); A, whose floor is that of
-- document 02 (P1), has locations with two live timers. The text for a chart with twins, each listed with the number that they share. That for a file
-- of version 3 with a spare location (P7), which as version 2 is refused. And two first lines, whose used, floor and limit differ: with a floor that
-- was searched for, and with one that was only seen. The definitions compute it.
use mathlib.Core.Path.{◌≡◌, refl}
use mathlib.Core.Bool.{true, false}
use mathlib.Core.List.{List, [], ◌∷◌, ◌++◌}
use Prim.Native.Nat.{ℕ}
use Rattle.model.specs.Answer.{returned}
use Rattle.model.specs.Cases.{started_together, with_spare}
use Rattle.file_format.specs.File.{chart_in}
use Rattle.file_format.specs.Cases.{bytes_of_a, bytes_of_b}
use Rattle.file_format.proofs.Computing.{files_compute}
use Rattle.listing.specs.Text.{decimal_in, decimal, refused_word, used_word, floor_word, seen_word, limit_word, at_word}
use Rattle.listing.specs.Listing.{refused_text, first_line, line_of, chart_text, accepted, text_of}

-- used 3 floor 3 limit 16; at 0; at 1 0>0; at 2 0>0 1>1; at 3 1>1 2>2; at 4 0>0 2>2; at 5 2>2; at 6
pub lines_of_a : List ℕ
lines_of_a =
    (117 ∷ 115 ∷ 101 ∷ 100 ∷ 32 ∷ 51 ∷ 32 ∷ 102 ∷ 108 ∷ 111 ∷ 111 ∷ 114 ∷ 32 ∷ 51 ∷ 32 ∷ 108 ∷ 105 ∷ 109 ∷ 105 ∷ 116 ∷ 32 ∷ 49 ∷ 54 ∷ 10 ∷ [])
    ++ (97 ∷ 116 ∷ 32 ∷ 48 ∷ 10 ∷ [])
    ++ (97 ∷ 116 ∷ 32 ∷ 49 ∷ 32 ∷ 48 ∷ 62 ∷ 48 ∷ 10 ∷ [])
    ++ (97 ∷ 116 ∷ 32 ∷ 50 ∷ 32 ∷ 48 ∷ 62 ∷ 48 ∷ 32 ∷ 49 ∷ 62 ∷ 49 ∷ 10 ∷ [])
    ++ (97 ∷ 116 ∷ 32 ∷ 51 ∷ 32 ∷ 49 ∷ 62 ∷ 49 ∷ 32 ∷ 50 ∷ 62 ∷ 50 ∷ 10 ∷ [])
    ++ (97 ∷ 116 ∷ 32 ∷ 52 ∷ 32 ∷ 48 ∷ 62 ∷ 48 ∷ 32 ∷ 50 ∷ 62 ∷ 50 ∷ 10 ∷ [])
    ++ (97 ∷ 116 ∷ 32 ∷ 53 ∷ 32 ∷ 50 ∷ 62 ∷ 50 ∷ 10 ∷ [])
    ++ (97 ∷ 116 ∷ 32 ∷ 54 ∷ 10 ∷ [])

-- used 1 floor 1 limit 16; at 0; at 1 0>0; at 2 1>0; at 3
pub lines_of_b : List ℕ
lines_of_b =
    (117 ∷ 115 ∷ 101 ∷ 100 ∷ 32 ∷ 49 ∷ 32 ∷ 102 ∷ 108 ∷ 111 ∷ 111 ∷ 114 ∷ 32 ∷ 49 ∷ 32 ∷ 108 ∷ 105 ∷ 109 ∷ 105 ∷ 116 ∷ 32 ∷ 49 ∷ 54 ∷ 10 ∷ [])
    ++ (97 ∷ 116 ∷ 32 ∷ 48 ∷ 10 ∷ [])
    ++ (97 ∷ 116 ∷ 32 ∷ 49 ∷ 32 ∷ 48 ∷ 62 ∷ 48 ∷ 10 ∷ [])
    ++ (97 ∷ 116 ∷ 32 ∷ 50 ∷ 32 ∷ 49 ∷ 62 ∷ 48 ∷ 10 ∷ [])
    ++ (97 ∷ 116 ∷ 32 ∷ 51 ∷ 10 ∷ [])

-- used 1 floor 1 limit 2; at 0; at 1 0>0 1>0; at 2 1>0; at 3
pub lines_of_twins : List ℕ
lines_of_twins =
    (117 ∷ 115 ∷ 101 ∷ 100 ∷ 32 ∷ 49 ∷ 32 ∷ 102 ∷ 108 ∷ 111 ∷ 111 ∷ 114 ∷ 32 ∷ 49 ∷ 32 ∷ 108 ∷ 105 ∷ 109 ∷ 105 ∷ 116 ∷ 32 ∷ 50 ∷ 10 ∷ [])
    ++ (97 ∷ 116 ∷ 32 ∷ 48 ∷ 10 ∷ [])
    ++ (97 ∷ 116 ∷ 32 ∷ 49 ∷ 32 ∷ 48 ∷ 62 ∷ 48 ∷ 32 ∷ 49 ∷ 62 ∷ 48 ∷ 10 ∷ [])
    ++ (97 ∷ 116 ∷ 32 ∷ 50 ∷ 32 ∷ 49 ∷ 62 ∷ 48 ∷ 10 ∷ [])
    ++ (97 ∷ 116 ∷ 32 ∷ 51 ∷ 10 ∷ [])

-- the file of a chart whose location 4 is spare, as that version: model/specs/Cases has the chart, `with_spare`
pub bytes_of_spare : (version : ℕ) → List ℕ
bytes_of_spare version =
    version ∷ 0 ∷ 0 ∷ 0 ∷ 68
    ∷ 0 ∷ 5 ∷ 0 ∷ 0 ∷ 2 ∷ 0 ∷ 1 ∷ 0 ∷ 3 ∷ 0 ∷ 4
    ∷ 0 ∷ 9 ∷ 0 ∷ 0 ∷ 0 ∷ 1 ∷ 0 ∷ 2 ∷ 0 ∷ 1 ∷ 0
    ∷ 0 ∷ 13 ∷ 0 ∷ 1 ∷ 0 ∷ 2 ∷ 0 ∷ 0 ∷ 1 ∷ 0 ∷ 2 ∷ 0 ∷ 0 ∷ 0 ∷ 2
    ∷ 0 ∷ 14 ∷ 0 ∷ 4 ∷ 0 ∷ 1 ∷ 9 ∷ 1 ∷ 0 ∷ 1 ∷ 1 ∷ 0 ∷ 0 ∷ 0 ∷ 0 ∷ 5
    ∷ 0 ∷ 13 ∷ 0 ∷ 2 ∷ 0 ∷ 3 ∷ 0 ∷ 0 ∷ 1 ∷ 1 ∷ 0 ∷ 0 ∷ 0 ∷ 0 ∷ 9 ∷ []

-- used 1 floor 1 limit 1; at 0; at 1 0>0 1>0; at 2 1>0; at 3; at 4
pub lines_of_spare : List ℕ
lines_of_spare =
    (117 ∷ 115 ∷ 101 ∷ 100 ∷ 32 ∷ 49 ∷ 32 ∷ 102 ∷ 108 ∷ 111 ∷ 111 ∷ 114 ∷ 32 ∷ 49 ∷ 32 ∷ 108 ∷ 105 ∷ 109 ∷ 105 ∷ 116 ∷ 32 ∷ 49 ∷ 10 ∷ [])
    ++ (97 ∷ 116 ∷ 32 ∷ 48 ∷ 10 ∷ [])
    ++ (97 ∷ 116 ∷ 32 ∷ 49 ∷ 32 ∷ 48 ∷ 62 ∷ 48 ∷ 32 ∷ 49 ∷ 62 ∷ 48 ∷ 10 ∷ [])
    ++ (97 ∷ 116 ∷ 32 ∷ 50 ∷ 32 ∷ 49 ∷ 62 ∷ 48 ∷ 10 ∷ [])
    ++ (97 ∷ 116 ∷ 32 ∷ 51 ∷ 10 ∷ [])
    ++ (97 ∷ 116 ∷ 32 ∷ 52 ∷ 10 ∷ [])

-- used 3 floor 2 limit 16
pub line_of_floor : List ℕ
line_of_floor = 117 ∷ 115 ∷ 101 ∷ 100 ∷ 32 ∷ 51 ∷ 32 ∷ 102 ∷ 108 ∷ 111 ∷ 111 ∷ 114 ∷ 32 ∷ 50 ∷ 32
    ∷ 108 ∷ 105 ∷ 109 ∷ 105 ∷ 116 ∷ 32 ∷ 49 ∷ 54 ∷ 10 ∷ []

-- used 3 seen 2 limit 16
pub line_of_seen : List ℕ
line_of_seen = 117 ∷ 115 ∷ 101 ∷ 100 ∷ 32 ∷ 51 ∷ 32 ∷ 115 ∷ 101 ∷ 101 ∷ 110 ∷ 32 ∷ 50 ∷ 32 ∷ 108 ∷ 105 ∷ 109 ∷ 105 ∷ 116 ∷ 32 ∷ 49 ∷ 54 ∷ 10 ∷ []

-- of a text: one byte K, then the file of the chart
pub record Texts : Type 0 where
  pub text_of_A : text_of (16 ∷ bytes_of_a) ≡ lines_of_a
  pub text_of_B : text_of (16 ∷ bytes_of_b) ≡ lines_of_b
  pub text_of_twins : chart_text 2 started_together ≡ lines_of_twins
  pub spare_is_read : chart_in (bytes_of_spare 3) ≡ returned with_spare
  pub text_of_spare : text_of (1 ∷ bytes_of_spare 3) ≡ lines_of_spare
  pub spare_in_version_2 : text_of (1 ∷ bytes_of_spare 2) ≡ refused_text 9 4
  pub line_of_floor_lem : first_line 3 2 true 16 ≡ line_of_floor
  pub line_of_seen_lem : first_line 3 2 false 16 ≡ line_of_seen

pub texts : Texts
unfolding files_compute bytes_of_a bytes_of_b bytes_of_spare started_together with_spare lines_of_a lines_of_b lines_of_twins lines_of_spare
    line_of_floor line_of_seen
    decimal_in decimal refused_word used_word floor_word seen_word limit_word at_word refused_text first_line line_of chart_text accepted text_of
texts = record {
  text_of_A = refl;
  text_of_B = refl;
  text_of_twins = refl;
  spare_is_read = refl;
  text_of_spare = refl;
  spare_in_version_2 = refl;
  line_of_floor_lem = refl;
  line_of_seen_lem = refl;
}
