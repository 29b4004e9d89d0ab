-- The loop that keeps the transitions of the part that counts: those of the first i stand over the fronts of the four lists.
use mathlib.Core.Path.{◌≡◌, refl, sym}
use mathlib.Core.Bool.{true, false}
use mathlib.Core.List.{List, [], ◌∷◌, ◌++◌, map}
use Prim.Native.Nat.{ℕ, ◌+◌, ◌<◌}
use native.Mathlib.Omega.{arith}
use lib.ListN.{length, take, set, length-append}
use lib.Seq.{take-length}
use Rattle.lists.specs.Lists.{filtered}
use Rattle.model.specs.Chart.{Transition, Chart, Nth}
use Rattle.model.specs.Valid.{Valid}
use Rattle.model.specs.Live.{starts_set, tests_set, tested_sets, reached_sets}
use Rattle.model.specs.Spare.{leaves_reached, reached_part}
use Rattle.chart_lists.specs.Lists.{lists_of, put, sources_of, targets_of, starts_of}
use Rattle.chart_lists.proofs.Put.{put_next}
use Rattle.chart_lists.proofs.Begins.{begins_self, begins_put}
use Rattle.chart_lists.proofs.Partly.{holds_of}
use Rattle.chart_lists.proofs.InTurn.{take_next}
use Rattle.spare.specs.Part.{PartListed}
use Rattle.spare.specs.declared.Part.{Part}
use Rattle.spare.proofs.Filtered.{filtered_yes, filtered_no}
use Rattle.model.proofs.ReachedPart.{part_valid}

-- those of the first i transitions that leave a reached location
abbrev pub kept_to : Chart → ℕ → List Transition
kept_to c i = filtered (leaves_reached (reached_sets c)) (take i c.transitions)

-- the lists hold those, and behind them what they held at first
pub record PartTo (c : Chart) (first p : Part) (i : ℕ) : Type 0 where
  pub count_is : length (kept_to c i) ≡ p.count
  pub sources_are : p.sources ≡ put (sources_of (kept_to c i)) first.sources
  pub targets_are : p.targets ≡ put (targets_of (kept_to c i)) first.targets
  pub starts_are : p.starts ≡ put (starts_of (kept_to c i)) first.starts
  pub tested_are : p.tested ≡ put (map tests_set (kept_to c i)) first.tested

pub part_none : (c : Chart) (first : Part) → PartTo c first (record first { count = 0 }) 0
unfolding filtered put
part_none c first = record { count_is = refl; sources_are = refl; targets_are = refl; starts_are = refl; tested_are = refl }

module _ {c : Chart} {first p : Part} {i : ℕ} (x : PartTo c first p i) where
  module _ {r : Transition} (n : Nth c i r) where
    pub part_skip : leaves_reached (reached_sets c) r ≡ false → PartTo c first p (i + 1)
    part_skip e =
        let same : kept_to c (i + 1) ≡ kept_to c i = rw (take_next n) (filtered_no (leaves_reached (reached_sets c)) (take i c.transitions) r e) in
        record {
          count_is = rw same x.count_is;
          sources_are = rw same x.sources_are;
          targets_are = rw same x.targets_are;
          starts_are = rw same x.starts_are;
          tested_are = rw same x.tested_are;
        }

    -- what it has is stored behind the others
    module _ {source target started tests : ℕ} (s : source ≡ r.source) (t : target ≡ r.target) (w : started ≡ starts_set r)
        (g : tests ≡ tests_set r) where
      pub part_more : leaves_reached (reached_sets c) r ≡ true
          → p.count < length first.sources → p.count < length first.targets → p.count < length first.starts → p.count < length first.tested
          → PartTo c first (record {
            sources = set p.sources p.count source;
            targets = set p.targets p.count target;
            starts = set p.starts p.count started;
            tested = set p.tested p.count tests;
            count = p.count + 1;
          }) (i + 1)
      part_more e hs ht hw hg =
          let more : kept_to c (i + 1) ≡ kept_to c i ++ (r ∷ []) =
          rw (take_next n) (filtered_yes (leaves_reached (reached_sets c)) (take i c.transitions) r e) in
          record {
            count_is = rw (more, length-append) (omega (arith, x.count_is));
            sources_are = rw (more, s) (put_next (λ r. r.source) (kept_to c i) r first.sources hs x.count_is x.sources_are);
            targets_are = rw (more, t) (put_next (λ r. r.target) (kept_to c i) r first.targets ht x.count_is x.targets_are);
            starts_are = rw (more, w) (put_next starts_set (kept_to c i) r first.starts hw x.count_is x.starts_are);
            tested_are = rw (more, g) (put_next tests_set (kept_to c i) r first.tested hg x.count_is x.tested_are);
          }

  -- all transitions are gone over
  pub part_all : {W : ℕ} → Valid W c → i ≡ length c.transitions → PartListed c p.sources p.targets p.starts p.tested p.count
  unfolding reached_part lists_of tested_sets
  part_all valid e =
      let all : kept_to c i ≡ (reached_part c).transitions = rw (e, take-length) in
      record {
        count = rw all at (sym x.count_is);
        edges =
            holds_of _ _ _ _ _ _ _ _ _ (part_valid valid) (begins_self _) (begins_put _ first.sources (rw all at x.sources_are))
            (begins_put _ first.targets (rw all at x.targets_are)) (begins_self _)
            (begins_put _ first.starts (rw all at x.starts_are)) (begins_self _)
            (begins_self _) (begins_self _) (begins_self _);
        tested_are = begins_put _ first.tested (rw all at x.tested_are);
      }
