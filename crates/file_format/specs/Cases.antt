-- Files with what documents 01 ("The chart file") and 02 (P2) make of them. The bytes of charts A and B, which have every code of a comparison, and
-- of B as version 2. And files that fail in two ways, or whose place or order is easily mistaken, each with its refusal: the first field that fails
-- ends the reading, a record's length is judged at its g, leftover bytes at the end, and of one field's refusals the lower number counts. That
-- reading gives these charts and these refusals is shown in proofs/Cases.
use Rattle.std.specs.Prelude.{List, [], ◌∷◌, ◌++◌, ℕ, length}
use Rattle.model.specs.Answer.{nowhere}

-- the file of chart A, charts/a.chart
unfoldable pub bytes_of_a : List ℕ
bytes_of_a =
    1 ∷ 0 ∷ 0 ∷ 0 ∷ 98 ∷ 0 ∷ 7 ∷ 0 ∷ 0 ∷ 3 ∷ 0 ∷ 1 ∷ 0 ∷ 6 ∷ 0 ∷ 7 ∷ 0 ∷ 8 ∷ 0 ∷ 0 ∷ 0 ∷ 1 ∷ 0 ∷ 1
    ∷ 0 ∷ 0 ∷ 0 ∷ 8 ∷ 0 ∷ 1 ∷ 0 ∷ 2 ∷ 0 ∷ 1 ∷ 1 ∷ 0 ∷ 0 ∷ 12 ∷ 0 ∷ 2 ∷ 0 ∷ 3 ∷ 0 ∷ 1 ∷ 2 ∷ 1 ∷ 0 ∷ 2
    ∷ 0 ∷ 3 ∷ 0 ∷ 12 ∷ 0 ∷ 2 ∷ 0 ∷ 4 ∷ 0 ∷ 1 ∷ 2 ∷ 1 ∷ 1 ∷ 0 ∷ 0 ∷ 7 ∷ 0 ∷ 11 ∷ 0 ∷ 3 ∷ 0 ∷ 5 ∷ 0 ∷ 0
    ∷ 1 ∷ 1 ∷ 1 ∷ 0 ∷ 9 ∷ 0 ∷ 11 ∷ 0 ∷ 4 ∷ 0 ∷ 5 ∷ 0 ∷ 0 ∷ 1 ∷ 0 ∷ 4 ∷ 0 ∷ 4 ∷ 0 ∷ 11 ∷ 0 ∷ 5 ∷ 0 ∷ 6
    ∷ 0 ∷ 0 ∷ 1 ∷ 2 ∷ 3 ∷ 0 ∷ 2 ∷ []

-- the file of chart B, charts/b.chart
unfoldable pub bytes_of_b : List ℕ
bytes_of_b =
    1 ∷ 0 ∷ 0 ∷ 0 ∷ 48 ∷ 0 ∷ 4 ∷ 0 ∷ 0 ∷ 2 ∷ 0 ∷ 1 ∷ 0 ∷ 3 ∷ 0 ∷ 3 ∷ 0 ∷ 8 ∷ 0 ∷ 0 ∷ 0 ∷ 1 ∷ 0 ∷ 1
    ∷ 0 ∷ 0 ∷ 0 ∷ 12 ∷ 0 ∷ 1 ∷ 0 ∷ 2 ∷ 0 ∷ 1 ∷ 1 ∷ 1 ∷ 0 ∷ 0 ∷ 0 ∷ 2 ∷ 0 ∷ 11 ∷ 0 ∷ 2 ∷ 0 ∷ 3 ∷ 0 ∷ 0
    ∷ 1 ∷ 1 ∷ 2 ∷ 0 ∷ 1 ∷ []

-- the file of chart B as version 2: its two constants have four bytes each
unfoldable pub bytes_of_b2 : List ℕ
bytes_of_b2 =
    2 ∷ 0 ∷ 0 ∷ 0 ∷ 52 ∷ 0 ∷ 4 ∷ 0 ∷ 0 ∷ 2 ∷ 0 ∷ 1 ∷ 0 ∷ 3 ∷ 0 ∷ 3 ∷ 0 ∷ 8 ∷ 0 ∷ 0 ∷ 0 ∷ 1 ∷ 0 ∷ 1
    ∷ 0 ∷ 0 ∷ 0 ∷ 14 ∷ 0 ∷ 1 ∷ 0 ∷ 2 ∷ 0 ∷ 1 ∷ 1 ∷ 1 ∷ 0 ∷ 0 ∷ 0 ∷ 0 ∷ 0 ∷ 2 ∷ 0 ∷ 13 ∷ 0 ∷ 2 ∷ 0 ∷ 3
    ∷ 0 ∷ 0 ∷ 1 ∷ 1 ∷ 2 ∷ 0 ∷ 0 ∷ 0 ∷ 1 ∷ []

-- a file with its refusal
pub record FileCase : Type 0 where
  pub file : List ℕ
  pub number : ℕ
  pub place : ℕ

-- a file of that version, its body shorter than 256 bytes
unfoldable pub framed : (version : ℕ) → (body : List ℕ) → List ℕ
framed version body = version ∷ 0 ∷ 0 ∷ 0 ∷ length body ∷ body

-- one location, one timer, no accepting location, so many transitions
unfoldable pub one_location_of : (version count : ℕ) → (records : List ℕ) → List ℕ
one_location_of version count records = framed version (0 ∷ 1 ∷ 0 ∷ 0 ∷ 1 ∷ 0 ∷ 0 ∷ 0 ∷ count ∷ records)

-- of version 1
unfoldable pub one_location : (count : ℕ) → (records : List ℕ) → List ℕ
one_location count records = one_location_of 1 count records

-- a record up to its count of starts: of that length, from that source to that target, on event 0
unfoldable pub record_to_s : (len source target s : ℕ) → List ℕ
record_to_s len source target s = 0 ∷ len ∷ 0 ∷ source ∷ 0 ∷ target ∷ 0 ∷ s ∷ []

-- a record up to its g: to location 0, starting nothing
unfoldable pub record_to_g : (len source g : ℕ) → List ℕ
record_to_g len source g = record_to_s len source 0 0 ++ (g ∷ [])

-- the same in short
unfoldable pub file_case : List ℕ → (number place : ℕ) → FileCase
file_case file number place = record { file = file; number = number; place = place }

-- in the order of the file; "bad" is not below the number of locations, or of timers
unfoldable pub file_cases : List FileCase
file_cases =
    -- fewer than 5 bytes, a wrong version
    file_case (4 ∷ []) 1 nowhere
    -- a wrong length, a wrong version
    ∷ file_case (4 ∷ 0 ∷ 0 ∷ 0 ∷ 1 ∷ []) 1 nowhere
    -- a wrong version, no locations
    ∷ file_case (framed 4 (0 ∷ 0 ∷ [])) 2 nowhere
    ∷ file_case (framed 3 (0 ∷ 0 ∷ [])) 4 nowhere
    -- version 0, no locations
    ∷ file_case (framed 0 (0 ∷ 0 ∷ [])) 2 nowhere
    -- version 2, no locations
    ∷ file_case (framed 2 (0 ∷ 0 ∷ [])) 4 nowhere
    -- no locations, a bad initial location
    ∷ file_case (framed 1 (0 ∷ 0 ∷ 0 ∷ 0 ∷ [])) 4 nowhere
    -- 257 locations, a bad initial location
    ∷ file_case (framed 1 (1 ∷ 1 ∷ 1 ∷ 1 ∷ [])) 4 nowhere
    -- a bad initial location, 65 timers
    ∷ file_case (framed 1 (0 ∷ 1 ∷ 0 ∷ 1 ∷ 65 ∷ [])) 5 nowhere
    -- 65 timers, the file ends inside the count of accepting locations
    ∷ file_case (framed 1 (0 ∷ 1 ∷ 0 ∷ 0 ∷ 65 ∷ 0 ∷ [])) 4 nowhere
    -- 65 timers, a bad accepting location
    ∷ file_case (framed 1 (0 ∷ 1 ∷ 0 ∷ 0 ∷ 65 ∷ 0 ∷ 1 ∷ 0 ∷ 1 ∷ [])) 4 nowhere
    -- accepting locations 1 and 0: a bad one, one that does not rise
    ∷ file_case (framed 1 (0 ∷ 1 ∷ 0 ∷ 0 ∷ 0 ∷ 0 ∷ 2 ∷ 0 ∷ 1 ∷ 0 ∷ 0 ∷ [])) 5 nowhere
    -- accepting locations 0, 0 and 1: one that does not rise, a bad one
    ∷ file_case (framed 1 (0 ∷ 1 ∷ 0 ∷ 0 ∷ 0 ∷ 0 ∷ 3 ∷ 0 ∷ 0 ∷ 0 ∷ 0 ∷ 0 ∷ 1 ∷ [])) 7 nowhere
    -- a bad accepting location, 513 transitions
    ∷ file_case (framed 1 (0 ∷ 1 ∷ 0 ∷ 0 ∷ 0 ∷ 0 ∷ 1 ∷ 0 ∷ 1 ∷ 2 ∷ 1 ∷ [])) 5 nowhere
    -- accepting locations 0 and 0, 513 transitions
    ∷ file_case (framed 1 (0 ∷ 1 ∷ 0 ∷ 0 ∷ 0 ∷ 0 ∷ 2 ∷ 0 ∷ 0 ∷ 0 ∷ 0 ∷ 2 ∷ 1 ∷ [])) 7 nowhere
    -- 513 transitions, the file ends inside the length of the first record
    ∷ file_case (framed 1 (0 ∷ 1 ∷ 0 ∷ 0 ∷ 0 ∷ 0 ∷ 0 ∷ 2 ∷ 1 ∷ 0 ∷ [])) 4 nowhere
    -- 513 transitions, a bad source
    ∷ file_case (framed 1 (0 ∷ 1 ∷ 0 ∷ 0 ∷ 0 ∷ 0 ∷ 0 ∷ 2 ∷ 1 ∷ record_to_g 7 1 0)) 4 nowhere
    -- a bad source, the file ends inside the target
    ∷ file_case (one_location 1 (0 ∷ 7 ∷ 0 ∷ 1 ∷ 0 ∷ [])) 5 0
    -- a bad source, a wrong length of the record
    ∷ file_case (one_location 1 (record_to_g 8 1 0)) 5 0
    -- a bad target, the file ends before the event
    ∷ file_case (one_location 1 (0 ∷ 7 ∷ 0 ∷ 0 ∷ 0 ∷ 1 ∷ [])) 5 0
    -- a bad target, 65 starts
    ∷ file_case (one_location 1 (record_to_s 72 0 1 65)) 5 0
    -- 65 starts, the file ends before the first
    ∷ file_case (one_location 1 (record_to_s 72 0 0 65)) 4 0
    -- 65 starts, the first bad
    ∷ file_case (one_location 1 (record_to_s 72 0 0 65 ++ (1 ∷ []))) 4 0
    -- starts 1 and 0: a bad one, one that does not rise
    ∷ file_case (one_location 1 (record_to_s 9 0 0 2 ++ (1 ∷ 0 ∷ 0 ∷ []))) 6 0
    -- starts 0, 0 and 1: one that does not rise, a bad one
    ∷ file_case (one_location 1 (record_to_s 10 0 0 3 ++ (0 ∷ 0 ∷ 1 ∷ 0 ∷ []))) 7 0
    -- a bad start, a wrong length of the record
    ∷ file_case (one_location 1 (record_to_s 7 0 0 1 ++ (1 ∷ 0 ∷ []))) 6 0
    -- starts 0 and 0, a wrong length of the record
    ∷ file_case (one_location 1 (record_to_s 7 0 0 2 ++ (0 ∷ 0 ∷ 0 ∷ []))) 7 0
    -- a wrong length of the record, 9 tests
    ∷ file_case (one_location 1 (record_to_g 42 0 9)) 3 nowhere
    -- a wrong length of the record, a bad timer
    ∷ file_case (one_location 1 (record_to_g 12 0 1 ++ (1 ∷ 0 ∷ 0 ∷ 0 ∷ []))) 3 nowhere
    -- version 2, the length that version 1 has for a test of a bad timer
    ∷ file_case (one_location_of 2 1 (record_to_g 11 0 1 ++ (1 ∷ 0 ∷ 0 ∷ 0 ∷ []))) 3 nowhere
    -- version 1, the length that version 2 has for it
    ∷ file_case (one_location 1 (record_to_g 13 0 1 ++ (1 ∷ 0 ∷ 0 ∷ 0 ∷ 0 ∷ 0 ∷ []))) 3 nowhere
    -- version 2, a wrong length of the record, 9 tests
    ∷ file_case (one_location_of 2 1 (record_to_g 43 0 9)) 3 nowhere
    -- version 2, 9 tests, the file ends before the first
    ∷ file_case (one_location_of 2 1 (record_to_g 61 0 9)) 4 0
    -- version 2, the file ends inside the constant
    ∷ file_case (one_location_of 2 1 (record_to_g 13 0 1 ++ (0 ∷ 0 ∷ 0 ∷ 0 ∷ 0 ∷ []))) 3 nowhere
    -- version 2, a bad timer, a code over 4
    ∷ file_case (one_location_of 2 1 (record_to_g 13 0 1 ++ (1 ∷ 5 ∷ 0 ∷ 0 ∷ 0 ∷ 0 ∷ []))) 6 0
    -- 9 tests, the file ends before the first
    ∷ file_case (one_location 1 (record_to_g 43 0 9)) 4 0
    -- 9 tests, the first of a bad timer
    ∷ file_case (one_location 1 (record_to_g 43 0 9 ++ (1 ∷ []))) 4 0
    -- a bad timer, a code over 4
    ∷ file_case (one_location 1 (record_to_g 11 0 1 ++ (1 ∷ 5 ∷ 0 ∷ 0 ∷ []))) 6 0
    -- a bad timer, the file ends before the code
    ∷ file_case (one_location 1 (record_to_g 11 0 1 ++ (1 ∷ []))) 6 0
    -- a code over 4, the file ends inside the constant
    ∷ file_case (one_location 1 (record_to_g 11 0 1 ++ (0 ∷ 5 ∷ 0 ∷ []))) 8 0
    -- a code over 4 in one test, a bad timer in the next
    ∷ file_case (one_location 1 (record_to_g 15 0 2 ++ (0 ∷ 5 ∷ 0 ∷ 0 ∷ 1 ∷ 0 ∷ 0 ∷ 0 ∷ []))) 8 0
    -- a code over 4 in transition 0, a bad timer in transition 1
    ∷ file_case (one_location 2 (record_to_g 11 0 1 ++ (0 ∷ 5 ∷ 0 ∷ 0 ∷ (record_to_g 11 0 1 ++ (1 ∷ 0 ∷ 0 ∷ 0 ∷ []))))) 8 0
    -- a wrong length of the record of transition 1
    ∷ file_case (one_location 2 (record_to_g 7 0 0 ++ record_to_g 8 0 0)) 3 nowhere
    -- a bad source in transition 1, a byte is left
    ∷ file_case (one_location 2 (record_to_g 7 0 0 ++ (record_to_g 7 1 0 ++ (0 ∷ [])))) 5 1
    -- a code over 4, a byte is left
    ∷ file_case (one_location 1 (record_to_g 11 0 1 ++ (0 ∷ 5 ∷ 0 ∷ 0 ∷ 0 ∷ []))) 8 0
    -- a byte is left
    ∷ file_case (one_location 1 (record_to_g 7 0 0 ++ (0 ∷ []))) 3 nowhere
    ∷ []
