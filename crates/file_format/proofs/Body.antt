-- The header and the body are read and written so that each undoes the other, for constants of W bytes. Hard: limits that an earlier field sets for a
-- later one, and that nothing may follow the body, which is shown apart.
use mathlib.Core.Path.{◌≡◌, refl, sym, ap, ◌∙◌, subst}
use mathlib.Core.List.{List, [], ◌∷◌, ◌++◌, append-nil}
use Prim.Native.Nat.{ℕ, ◌≤◌, ◌<◌}
use native.Mathlib.Omega.{arith}
use lib.Dec.{leb}
use lib.ListN.{length}
use borrow.Author.Tests.{leb-true, le-leb}
use Rattle.lists.specs.Rising.{Rising, All}
use Rattle.model.specs.Answer.{nowhere}
use Rattle.model.specs.Chart.{Chart}
use Rattle.model.specs.Valid.{ValidTransition, Valid}
use Rattle.file_format.specs.Parse.{Parsed, value, refusal, bind, guard, digits, write_all, Bytes}
use Rattle.file_format.specs.Body.{FileHeader, read_header, read_transitions, chart_of, is_end, read_body, write_header, write_body}
use Rattle.file_format.proofs.Parsed.{same_value, value_refused, bind_assoc}
use Rattle.file_format.proofs.RoundTrip.{RoundTrip, restated, field, field_as_lem, condition, end}
use Rattle.file_format.proofs.Fields.{number_trip, below_trip, rising_trip, rising_most}
use Rattle.file_format.proofs.Transitions.{transitions_trip}

pub record ValidHeader (h : FileHeader) : Type 0 where
  pub some_location : 1 ≤ h.locations
  pub few_locations : h.locations ≤ 256
  pub initial : h.initial < h.locations
  pub few_timers : h.timers ≤ 64
  pub accepting : Rising h.locations 0 h.accepting
  pub few_transitions : h.count ≤ 512

abbrev header_of : Chart → FileHeader
header_of c = record { locations = c.locations; initial = c.initial; timers = c.timers; accepting = c.accepting; count = length c.transitions }

-- a header written, as the chart's writer writes it
abbrev written : FileHeader → List ℕ
written h =
    digits 2 h.locations
    ++ (digits 2 h.initial
    ++ (digits 1 h.timers
    ++ (digits 2 (length h.accepting)
    ++ (write_all (digits 2) h.accepting
    ++ digits 2 h.count))))

header_trip : RoundTrip ValidHeader written read_header
unfolding read_header
header_trip =
    restated
    (λ h p. record {
      some_location = leb-true _ _ p.1.1.0;
      few_locations = omega (arith, p.1.0);
      initial = p.1.1.1.0;
      few_timers = omega (arith, p.1.1.1.1.0);
      accepting = p.1.1.1.1.1.1.0;
      few_transitions = omega (arith, p.1.1.1.1.1.1.1.0);
    })
    (λ h v. (
      tt,
      (
        omega (arith, v.few_locations),
        (
          le-leb _ _ v.some_location,
          (
            v.initial,
            (
              omega (arith, v.few_timers),
              (
                omega (arith, rising_most h.locations 256 h.accepting v.few_locations v.accepting),
                (
                  v.accepting,
                  (omega (arith, v.few_transitions), tt),
                ),
              ),
            ),
          ),
        ),
      ),
    ))
    (λ h. simp append-nil)
    (field (λ h. Unit {0}) (λ (h : FileHeader). h.locations) _ (below_trip 2 257 4 nowhere (omega arith))
    (λ locations p₁. condition _ 4 nowhere (λ h. leb 1 h.locations) _ (λ h c. ap (leb 1) c.1)
    (λ q. field_as_lem _ (λ (h : FileHeader). h.initial) (λ h. h.initial < h.locations) _
    (λ h c p. subst (λ l. h.initial < l) (sym c.1) p)
    (λ h c p. subst (λ l. h.initial < l) c.1 p)
    (below_trip 2 locations 5 nowhere (omega arith))
    (λ initial p₂. field _ (λ (h : FileHeader). h.timers) _ (below_trip 1 65 4 nowhere (omega arith))
    (λ timers p₃. field _ (λ (h : FileHeader). length h.accepting) _ (number_trip 2)
    (λ a p₄. field_as_lem _ (λ (h : FileHeader). h.accepting) (λ h. Rising h.locations 0 h.accepting) _
    (λ h c p. subst (λ l. Rising l 0 h.accepting) (sym c.0.0.0.1) p.1)
    (λ h c p. (c.1, subst (λ l. Rising l 0 h.accepting) c.0.0.0.1 p))
    (rising_trip 2 locations 5 nowhere a (omega arith))
    (λ accepting p₅. field _ (λ (h : FileHeader). h.count) _ (below_trip 2 513 4 nowhere (omega arith))
    (λ count p₆. end _ (record { locations = locations; initial = initial; timers = timers; accepting = accepting; count = count })
    ((((((tt, refl), refl), refl), p₅.0), refl), refl)
    (λ h c j. record {
      locations = c.0.0.0.0.0.1 j;
      initial = c.0.0.0.0.1 j;
      timers = c.0.0.0.1 j;
      accepting = c.0.1 j;
      count = c.1 j;
    })))))))))

-- ---- the body

-- the body without the condition that nothing follows it
abbrev pub read_chart : (version W : ℕ) → List ℕ → Parsed Chart
read_chart version W bs =
    bind (read_header bs) (λ h b₁. bind (read_transitions W h.locations h.timers h.count b₁) (λ rs b₂. value (chart_of version h rs) b₂))

-- a chart of that version, valid for constants of W bytes
abbrev pub ValidOf : (version W : ℕ) → Chart → Type 0
ValidOf version W c = (c.version ≡ version) × Valid W c

-- the chart's transitions are valid after that header
abbrev ValidAfter : (W : ℕ) → Chart → FileHeader → Type 0
ValidAfter W c h = All (ValidTransition W h.locations h.timers) c.transitions

chart_trip : (version W : ℕ) → W ≤ 8 → RoundTrip (ValidOf version W) (write_body W) (read_chart version W)
unfolding write_body write_header chart_of
chart_trip version W narrow =
    restated
    (λ c p. let v = p.1.0 in (
      p.0,
      record {
        some_location = v.some_location;
        few_locations = v.few_locations;
        initial = v.initial;
        few_timers = v.few_timers;
        accepting = v.accepting;
        few_transitions = v.few_transitions;
        transitions = p.1.1.0;
      },
    ))
    (λ c p. let v = p.1 in (
      p.0,
      (
        record {
          some_location = v.some_location;
          few_locations = v.few_locations;
          initial = v.initial;
          few_timers = v.few_timers;
          accepting = v.accepting;
          few_transitions = v.few_transitions;
        },
        (v.transitions, tt),
      ),
    ))
    (λ c. simp append-nil)
    (field (λ c. c.version ≡ version) header_of _ header_trip
    (λ h v. field_as_lem _ (λ (c : Chart). c.transitions) (λ c. ValidAfter W c (header_of c)) _
    (λ c q p. subst (ValidAfter W c) (sym q.1) p.1)
    (λ c q p. (ap (λ (h : FileHeader). h.count) q.1, subst (ValidAfter W c) q.1 p))
    (transitions_trip W h.locations h.timers narrow v.few_locations v.few_timers h.count)
    (λ rs p. end _ (chart_of version h rs)
    ((refl, λ j. record { locations = h.locations; initial = h.initial; timers = h.timers; accepting = h.accepting; count = p.0 j }), refl)
    (λ c q j. record {
      version = q.0.0 j;
      locations = (q.0.1 j).locations;
      initial = (q.0.1 j).initial;
      timers = (q.0.1 j).timers;
      accepting = (q.0.1 j).accepting;
      transitions = q.1 j;
    }))))

pub body_is : (version W : ℕ) (bs : List ℕ)
    → bind (read_chart version W bs) (λ c t. guard (is_end t) 3 nowhere (value c t)) ≡ read_body version W bs
unfolding read_body
body_is version W bs = simp bind_assoc

-- what is read to the end leaves nothing
ended : (x : Parsed Chart) (c : Chart) (t : List ℕ) → bind x (λ c t. guard (is_end t) 3 nowhere (value c t)) ≡ value c t → x ≡ value c []
ended (value d []) c t e = let q : d ≡ c = same_value e in rw q
ended (value d (b ∷ u)) c t e = absurd (value_refused e refl)
ended (refusal n p) c t e = absurd (value_refused e refl)

module _ (W : ℕ) (narrow : W ≤ 8) where
  pub body_reads : (c : Chart) → Valid W c → read_body c.version W (write_body W c) ≡ value c []
  body_reads c v =
      let e : read_chart c.version W (write_body W c) ≡ value c [] =
      rw append-nil at ((chart_trip c.version W narrow).reads c [] (refl, v)) in
      sym (body_is c.version W (write_body W c)) ∙ rw e

  pub body_written : (version : ℕ) (bs : List ℕ) (c : Chart) (t : List ℕ) → Bytes bs → read_body version W bs ≡ value c t
      → ValidOf version W c × (bs ≡ write_body W c)
  body_written version bs c t by e =
      let i = (chart_trip version W narrow).written bs c [] by (ended (read_chart version W bs) c t (body_is version W bs ∙ e)) in
      (i.0, rw append-nil at i.1)
