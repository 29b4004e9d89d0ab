-- Of the lists of a chart the writer refuses what the reader refuses of the file whose fields are their entries, with the same number at the same
-- place, and both find the same chart, if the constants fit the bytes that the version gives them: the writer judges in the order of the file's
-- fields, and a list that ends before the field that is due is as a file that ends there. Of constants that fit 17 refuses none. For any width of a
-- constant, then for the versions there are. Hard: the place of a transition's tests, which those of the transitions before it make.
use mathlib.Core.Path.{◌≡◌, refl, sym, ap, ◌∙◌}
use mathlib.Core.Logic.{◌⊎◌, inl, inr}
use mathlib.Core.Bool.{Bool, true, false, ◌||◌, not}
use mathlib.Core.Option.{Option, none, some, map, some-injective, none-ne-some}
use mathlib.Core.List.{List, [], ◌∷◌, ◌++◌, append_assoc, append-nil}
use Prim.Native.Nat.{ℕ, zero, suc, ◌+◌, ◌*◌, ◌%◌, ◌^◌, ◌≤◌, ◌<◌}
use native.Mathlib.Nat.{zero-add, mul-le-mul}
use native.Mathlib.Omega.{arith}
use lib.Dec.{leb, ltb, eqb}
use lib.ListN.{length, take, get_or, get_elem?}
use borrow.Author.Tests.{lt-ltb, le-ltb, le-leb, lt-leb}
use Rattle.lists.specs.Lists.{any_of, gather, up_to, sum_of}
use Rattle.lists.specs.Rising.{Rising, All}
use Rattle.lists.proofs.Bools.{eqb_self, lt_or_le}
use Rattle.lists.proofs.Nth.{get_d_nth}
use Rattle.timer_set.specs.Members.{members, all_below}
use Rattle.timer_set.proofs.Members.{members_rising}
use Rattle.comparison.specs.Comparison.{comparison_of}
use Rattle.model.specs.Answer.{Answer, returned, refused, then, unless, nowhere}
use Rattle.model.specs.Chart.{Test, Chart}
use Rattle.model.specs.Version.{known_version, width_of, large_in_version1}
use Rattle.model.proofs.Versions.{width_some, width_most, storable_iff}
use Rattle.file_format.specs.Parse.{Parsed, value, bind, guard, number, below, many, entry, rising, digits, write_all}
use Rattle.file_format.specs.Body.{known, read_comparison, read_test, read_tests, record_length, read_transition, read_transitions}
use Rattle.file_format.specs.Body.{read_header, chart_of, is_end, read_body}
use Rattle.file_format.specs.File.{Versioned, read_frame, judge_frame, answered, read_file, chart_in}
use Rattle.file_format.proofs.Parsed.{bind_assoc, bind_guard}
use Rattle.file_format.proofs.Reading.{one_cut, below_refused}
use Rattle.file_format.proofs.Fields.{number_trip, below_trip}
use Rattle.file_format.proofs.Body.{read_chart, body_is}
use Rattle.file_format.specs.Versions.{chart_in_version1, chart_in_version12}
use Rattle.file_format.proofs.File.{reads_storable}
use Rattle.file_format.proofs.Versions.{reads_as_version_1, reads_as_before}
use Rattle.chart_lists.specs.Lists.{Lists}
use Rattle.chart_lists.specs.declared.Header.{Header}
use Rattle.list_judging.specs.FromLists.{or_refused, entry_at, accepting_from, test_from, tests_from, transition_from, transitions_from}
use Rattle.list_judging.specs.FromLists.{fields_from, chart_from}
use Rattle.list_judging.specs.Typed.{Typed, TypedHeader}
use Rattle.list_judging.specs.FileFrom.{FieldBytes, bytes_of, entry_field, starts_field, test_fields, length_at, transition_fields, tests_before}
use Rattle.list_judging.specs.FileFrom.{record_fields, header_fields, body_from, file_from}
use Rattle.list_judging.proofs.ListEntries.{entry_some}
use Rattle.list_judging.proofs.Parts.{accepting_item, next_lowest, accepting_items_lem, test_item, no_state, tests_items}
use Rattle.list_judging.proofs.Parts.{next_tests, transitions_items}
use Rattle.list_judging.proofs.TransitionOf.{transition_of}
use Rattle.list_judging.proofs.Turns.{members_few}
use Rattle.list_judging.proofs.FieldLengths.{get_d_below, body_most, from_bytes}
use Rattle.list_judging.proofs.FieldsGive.{parsed, FieldsGive, reads_end, bind_unless, reads_then, reads_regrouped, reads_last}
use Rattle.list_judging.proofs.FieldsGive.{reads_unless, reads_true, number_read, limit_read, entry_read, below_read, many_read}

-- ---- accepting locations

accepting_read : (locations : ℕ) (l : List ℕ) (n : ℕ) → All (λ x. x < 65536) l
    → FieldsGive (up_to (entry_field 2 l) n) (rising 2 locations 5 nowhere n) (accepting_from locations l 0 0 n)
unfolding up_to rising entry accepting_item
accepting_read locations l n fits =
    rw (accepting_items_lem locations l 0 0 n)
    (many_read (λ lo x. suc x) (entry 2 locations 5 nowhere) (accepting_item locations l) next_lowest (λ k. entry_field 2 l k ∷ []) (λ k lo z. z ≡ lo)
    each (λ k lo z x e q. refl) _ 0 0 0 n (λ j. rw (zero-add j)) refl)
  where
    each : (k lo z : ℕ) → z ≡ lo → FieldsGive (entry_field 2 l k ∷ []) (entry 2 locations 5 nowhere z) (accepting_item locations l k lo)
    each k lo z e =
        rw e
        (reads_then (entry_field 2 l k ∷ []) (below_read 1 l k locations 5 nowhere fits)
        (λ x q. reads_unless (leb lo x) 7 nowhere (reads_end x)))

-- ---- tests

-- a constant has some bytes
constant_read : (W : ℕ) → 1 ≤ W → (l : List ℕ) (k : ℕ) → All (λ x. x < 256 ^ W) l → FieldsGive (entry_field W l k ∷ []) (number W) (entry_at l k)
constant_read zero wide l k fits = absurd (omega arith)
constant_read (suc w) wide l k fits = entry_read w l k fits

module _ (W : ℕ) (wide : 1 ≤ W) (l : Lists) (typed : Typed l) (constants_fit : All (λ x. x < 256 ^ W) l.constants) (timers : ℕ) where
  code_read : (i k : ℕ)
      → FieldsGive (entry_field 1 l.codes k ∷ []) (read_comparison i) (then (entry_at l.codes k) (λ code. or_refused 8 i (comparison_of code)))
  unfolding read_comparison
  code_read i k = reads_then (entry_field 1 l.codes k ∷ []) (entry_read 0 l.codes k typed.codes) (λ code e. there (comparison_of code))
    where
      there : (o : Option _) → FieldsGive [] (known i o) (or_refused 8 i o)
      there none = record { is = λ gs. refl }
      there (some x) = record { is = λ gs. refl }

  test_read : (i k : ℕ) → FieldsGive (test_fields W l k) (read_test W timers i) (test_from l timers i k)
  unfolding test_fields read_test test_from
  test_read i k =
      reads_then (entry_field 1 l.timers k ∷ []) (below_read 0 l.timers k timers 6 i typed.timers) (λ j e.
      reads_regrouped (entry_at l.codes k) (λ code. or_refused 8 i (comparison_of code)) _
      (reads_then (entry_field 1 l.codes k ∷ []) (code_read i k) (λ x e.
      reads_last _ (constant_read W wide l.constants k constants_fit))))

  tests_read : (i k g : ℕ) → FieldsGive (gather (λ t. test_fields W l (k + t)) g) (read_tests W timers i g) (tests_from l timers i k g)
  unfolding read_tests
  tests_read i k g =
      rw (tests_items l timers i k g)
      (many_read (λ (s : ℕ) (t : Test). s) (read_test W timers) (test_item l timers i) no_state (test_fields W l) (λ k s z. z ≡ i)
      (λ k s z e. rw e (test_read i k)) (λ k s z t e q. e) _ k 0 i g (λ j. refl) refl)

-- ---- started timers

-- a rising list: the first entry that is not below the limit is refused, and none for not rising
starts_rising : (timers i lo : ℕ) (xs : List ℕ) (t : List ℕ) → Rising 64 lo xs
    → many (λ lo x. suc x) (entry 1 timers 6 i) lo (length xs) (write_all (digits 1) xs ++ t)
    ≡ parsed (unless (not (any_of (λ j. leb timers j) xs)) 6 i (returned xs)) t
unfolding many entry below write_all any_of
starts_rising timers i lo [] t r = refl
starts_rising timers i lo (x ∷ xs) t r =
    rw (append_assoc, (number_trip 1).reads x (write_all (digits 1) xs ++ t) (omega (arith, r.0.1)))
    (go (lt_or_le x timers) (starts_rising timers i (suc x) xs t r.1))
  where
    rest : Parsed (List ℕ)
    rest = many (λ lo x. suc x) (entry 1 timers 6 i) (suc x) (length xs) (write_all (digits 1) xs ++ t)

    go : (x < timers) ⊎ (timers ≤ x) → rest ≡ parsed (unless (not (any_of (λ j. leb timers j) xs)) 6 i (returned xs)) t
        → bind (bind (guard (ltb x timers) 6 i (value x (write_all (digits 1) xs ++ t))) (λ y u. guard (leb lo y) 7 i (value y u)))
        (λ y u. bind (many (λ lo x. suc x) (entry 1 timers 6 i) (suc y) (length xs) u) (λ ys v. value (y ∷ ys) v))
        ≡ parsed (unless (not (leb timers x || any_of (λ j. leb timers j) xs)) 6 i (returned (x ∷ xs))) t
    go (inl h) ih =
        rw (lt-ltb x timers h, le-leb lo x r.0.0, lt-leb timers x h, ih)
        (bind_unless (not (any_of (λ j. leb timers j) xs)) 6 i xs t t _ (returned (x ∷ xs)) refl)
    go (inr h) ih = rw (le-ltb x timers h, le-leb timers x h)

-- the count and the timers come from one entry, then the fields that follow
module _ {B : Type 0} (timers i : ℕ) {gs : List FieldBytes} (k : (s : ℕ) → List ℕ → List ℕ → Parsed B) (f : ℕ → Answer B) where
  starts_read : (o : Option ℕ) → ((w : ℕ) → o ≡ some w → FieldsGive gs (k (length (members w)) (members w)) (f w))
      → FieldsGive (map (λ w. digits 1 (length (members w)) ++ write_all (digits 1) (members w)) o ∷ gs)
      (λ bs. bind (below 1 65 4 i bs) (λ s b₁. bind (rising 1 timers 6 i s b₁) (k s)))
      (then (or_refused 3 nowhere o) (λ w. unless (all_below timers w) 6 i (f w)))
  unfolding bytes_of rising all_below
  starts_read none h = record { is = λ hs. rw (below_refused 1 65 4 i [] (one_cut [] 0 (omega arith))) }
  starts_read (some w) h = record {
    is = λ hs.
        let rest = bytes_of (gs ++ hs) in
        let few : length (members w) < 65 = omega (arith, members_few w) in
        let count = (below_trip 1 65 4 i (omega arith)).reads (length (members w)) (write_all (digits 1) (members w) ++ rest) few in
        rw (append_assoc, count, starts_rising timers i 0 (members w) rest (members_rising w))
        (bind_unless (not (any_of (λ j. leb timers j) (members w))) 6 i (members w) rest (bytes_of hs) _ (f w) ((h w refl).is hs));
  }

-- ---- transitions

sum_next : (l : List ℕ) (i : ℕ) {x : ℕ} → get_elem? l i ≡ some x → sum_of (take (suc i) l) ≡ sum_of (take i l) + x
unfolding sum_of
sum_next [] i e = absurd (none-ne-some _ e)
sum_next (y ∷ l) zero e = omega (arith, some-injective _ _ e)
sum_next (y ∷ l) (suc i) e = omega (arith, sum_next l i e)

module _ (W : ℕ) (wide : 1 ≤ W) (narrow : W ≤ 8) (l : Lists) (typed : Typed l) (constants_fit : All (λ x. x < 256 ^ W) l.constants)
    (locations timers : ℕ) where
  length_fits : (i : ℕ) → length_at W l i < 256 ^ 2
  unfolding length_at record_length
  length_fits i =
      let h : 2 + W ≤ 10 = omega arith in
      let few : get_or l.test_counts i 0 ≤ 255 = omega (arith, get_d_below 256 l.test_counts i (omega arith) typed.test_counts) in
      let tests : (2 + W) * get_or l.test_counts i 0 ≤ 10 * 255 = mul-le-mul h few in
      omega (arith, members_few (get_or l.starts i 0))

  transition_read : (i k : ℕ) → FieldsGive (transition_fields W l i k) (read_transition W locations timers i) (transition_from l locations timers i k)
  unfolding transition_fields starts_field length_at read_transition transition_from entry_at
  transition_read i k =
      number_read 2 (length_at W l i) (length_fits i) _
      (reads_then (entry_field 2 l.sources i ∷ []) (below_read 1 l.sources i locations 5 i typed.sources) (λ source e.
      reads_then (entry_field 2 l.targets i ∷ []) (below_read 1 l.targets i locations 5 i typed.targets) (λ target e.
      reads_then (entry_field 1 l.events i ∷ []) (entry_read 0 l.events i typed.events) (λ event e.
      starts_read timers i _ _ (get_elem? l.starts i) (λ w e.
      reads_then (entry_field 1 l.test_counts i ∷ []) (entry_read 0 l.test_counts i typed.test_counts) (λ g f.
      reads_true 3 nowhere (same w g e (count g f))
      (reads_unless (leb g 8) 4 i
      (reads_last _ (tests g (count g f))))))))))
    where
      count : (g : ℕ) → entry_at l.test_counts i ≡ returned g → get_or l.test_counts i 0 ≡ g
      count g f = get_d_nth l.test_counts i 0 (entry_some l.test_counts i f)

      same : (w g : ℕ) → get_elem? l.starts i ≡ some w → get_or l.test_counts i 0 ≡ g
          → eqb (length_at W l i) (record_length W (length (members w)) g) ≡ true
      same w g e f = rw (f, get_d_nth l.starts i 0 e) (eqb_self (record_length W (length (members w)) g))

      tests : (g : ℕ) → get_or l.test_counts i 0 ≡ g
          → FieldsGive (gather (λ t. test_fields W l (k + t)) (get_or l.test_counts i 0)) (read_tests W timers i g) (tests_from l timers i k g)
      tests g f = rw f (tests_read W wide l typed constants_fit timers i k g)

  transitions_read : (n : ℕ) → FieldsGive (record_fields W l n) (read_transitions W locations timers n) (transitions_from l locations timers 0 0 n)
  unfolding record_fields read_transitions tests_before sum_of
  transitions_read n =
      rw (transitions_items l locations timers 0 0 n)
      (many_read (λ i r. suc i) (read_transition W locations timers) (transition_from l locations timers) next_tests
      (λ i. transition_fields W l i (tests_before l i)) (λ i k z. (z ≡ i) × (k ≡ tests_before l i))
      (λ i k z h. rw (h.0, h.1) (transition_read i (tests_before l i)))
      (λ i k z r h e. (ap suc h.0, rw h.1 (sym (sum_next l.test_counts i (transition_of l locations timers i k r e).count))))
      _ 0 0 0 n (λ j. rw (zero-add j)) (refl, refl))

-- ---- the header and the body

reads_known : {A : Type 0} {fs : List FieldBytes} {read : List ℕ → Parsed A} {x : Answer A} {b : Bool} (n p : ℕ) → b ≡ true → FieldsGive fs read x
    → FieldsGive fs read (unless b n p x)
reads_known n p e h = rw e h

module _ (W : ℕ) (wide : 1 ≤ W) (narrow : W ≤ 8) (m : Header) (l : Lists) (fits : TypedHeader m) (typed : Typed l)
    (constants_fit : All (λ x. x < 256 ^ W) l.constants) (known : known_version m.version ≡ true) where
  chart_read : FieldsGive (header_fields m l ++ record_fields W l m.transitions) (λ bs. read_chart m.version W bs) (fields_from m l)
  unfolding header_fields read_header fields_from chart_of
  chart_read =
      simp (append_assoc, bind_assoc, bind_guard)
      (reads_known 2 nowhere known
      (limit_read 2 m.locations fits.locations 257 4 nowhere _
      (reads_unless (leb 1 m.locations) 4 nowhere
      (limit_read 2 m.initial fits.initial m.locations 5 nowhere _
      (limit_read 1 m.timers fits.timers 65 4 nowhere _
      (number_read 2 m.accepting fits.accepting _
      (reads_then (up_to (entry_field 2 l.accepting) m.accepting)
      (accepting_read m.locations l.accepting m.accepting typed.accepting) (λ accepting e.
      limit_read 2 m.transitions fits.transitions 513 4 nowhere _
      (reads_last _ (transitions_read W wide narrow l typed constants_fit m.locations m.timers m.transitions))))))))))

  pub body_order : answered (read_body m.version W (body_from W m l)) ≡ fields_from m l
  unfolding body_from bytes_of
  body_order =
      rw (← body_is m.version W (body_from W m l), ← append-nil (header_fields m l ++ record_fields W l m.transitions), chart_read.is [])
      (ended (fields_from m l))
    where
      ended : (x : Answer Chart) → answered (bind (parsed x []) (λ c t. guard (is_end t) 3 nowhere (value c t))) ≡ x
      ended (returned c) = refl
      ended (refused n p) = refl

-- ---- the file

-- 2 before all fields
pub unknown_refused : (m : Header) (l : Lists) → known_version m.version ≡ false → fields_from m l ≡ refused 2 nowhere
unfolding fields_from
unknown_refused m l e = rw e

module _ (m : Header) (l : Lists) (fits : TypedHeader m) (typed : Typed l)
    (constants_fit : All (λ x. x < 256 ^ width_of m.version) l.constants) where
  -- 2, then 3 to 8
  pub fields_order : chart_in (file_from m l) ≡ fields_from m l
  unfolding chart_in read_file file_from read_frame judge_frame
  fields_order =
      let W = width_of m.version in
      let body = body_from W m l in
      let narrow : W ≤ 8 = omega (arith, width_most m.version) in
      let most : length body < 256 ^ 4 = omega (arith, body_most m l fits typed W narrow) in
      rw (
        (number_trip 1).reads m.version (digits 4 (length body) ++ body) fits.version,
        (number_trip 4).reads (length body) body most,
        eqb_self (length body),
      ) (go (known_version m.version) refl)
    where
      go : (b : Bool) → known_version m.version ≡ b
          → then (unless b 2 nowhere (returned (record { version = m.version; body = body_from (width_of m.version) m l })))
          (λ (f : Versioned). answered (read_body f.version (width_of f.version) f.body))
          ≡ fields_from m l
      go true e = body_order (width_of m.version) (width_some m.version) (omega (arith, width_most m.version)) m l fits typed constants_fit e
      go false e = sym (unknown_refused m l e)

  -- then 17, which a chart that was read does not meet
  pub writer_as_reader : chart_in (file_from m l) ≡ chart_from m l
  unfolding chart_from
  writer_as_reader = fields_order ∙ go (fields_from m l) fields_order
    where
      go : (x : Answer Chart) → chart_in (file_from m l) ≡ x → x ≡ then x (λ c. unless (not (large_in_version1 c)) 17 nowhere (returned c))
      go (refused n p) e = refl
      go (returned c) e =
          let s = reads_storable (file_from m l) c (from_bytes m l fits typed) e in
          let q : large_in_version1 c ≡ false = ((storable_iff c).0 s).not_refused in
          rw q

  -- of another version than 3: as the reader before there was one
  pub writes_as_before_12 : (m.version ≡ 3 → ⊥) → chart_from m l ≡ chart_in_version12 (file_from m l)
  unfolding file_from digits
  writes_as_before_12 h =
      sym writer_as_reader
      ∙ reads_as_before (file_from m l) (λ q.
      let three : m.version % 256 ≡ 3 = some-injective _ _ q in
      h (omega (arith, three, fits.version)))

  -- of version 1: as the reader of version 1 alone, as before there was another
  pub writes_as_before : m.version ≡ 1 → chart_from m l ≡ chart_in_version1 (file_from m l)
  unfolding file_from digits
  writes_as_before e =
      sym writer_as_reader
      ∙ reads_as_version_1 (file_from m l) (λ q. other 2 q (λ z. omega arith)) (λ q. other 3 q (λ z. omega arith))
    where
      other : (v : ℕ) → some (m.version % 256) ≡ some v → (v ≡ 1 → ⊥) → ⊥
      other v q h = h (omega (arith, some-injective _ _ q, e))
