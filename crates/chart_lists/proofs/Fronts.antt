-- A header that is a chart's, and the fronts, as long as it says, of lists that begin with the chart's.
use mathlib.Core.Path.{◌≡◌, refl, sym, ap, ◌∙◌}
use mathlib.Core.List.{List, ◌++◌}
use Prim.Native.Nat.{ℕ}
use lib.ListN.{length, take}
use lib.Seq.{take_at}
use Rattle.model.specs.Chart.{Chart}
use Rattle.chart_lists.specs.Lists.{lists_of}
use Rattle.chart_lists.specs.Header.{header_of}
use Rattle.chart_lists.specs.declared.Header.{Header}
use Rattle.chart_lists.specs.Begins.{Begins}
use Rattle.chart_lists.proofs.Begins.{begins_take, begins_part}
use Rattle.chart_lists.proofs.Holds.{sources_each, targets_each, starts_each}

module _ (c : Chart) {m : Header} (e : m ≡ header_of c) where
  pub locations_are : m.locations ≡ c.locations
  unfolding header_of
  locations_are = ap (λ (h : Header). h.locations) e

  pub initial_is : m.initial ≡ c.initial
  unfolding header_of
  initial_is = ap (λ (h : Header). h.initial) e

  pub accepting_are : m.accepting ≡ length c.accepting
  unfolding header_of
  accepting_are = ap (λ (h : Header). h.accepting) e

  pub timers_are : m.timers ≡ c.timers
  unfolding header_of
  timers_are = ap (λ (h : Header). h.timers) e

  pub transitions_are : m.transitions ≡ length c.transitions
  unfolding header_of
  transitions_are = ap (λ (h : Header). h.transitions) e

  module _ {l : List ℕ} where
    -- of a list with an entry for each transition
    pub each_front : {xs : List ℕ} → length xs ≡ length c.transitions → Begins xs l → take m.transitions l ≡ xs
    each_front f b = begins_take b (transitions_are ∙ sym f)

    pub sources_front : Begins (lists_of c).sources l → take m.transitions l ≡ (lists_of c).sources
    sources_front = each_front (sources_each c)

    pub targets_front : Begins (lists_of c).targets l → take m.transitions l ≡ (lists_of c).targets
    targets_front = each_front (targets_each c)

    pub starts_front : Begins (lists_of c).starts l → take m.transitions l ≡ (lists_of c).starts
    starts_front = each_front (starts_each c)

    pub each_part : {xs : List ℕ} → length xs ≡ length c.transitions → Begins xs l → length (take m.transitions l) ≡ m.transitions
    each_part f b = begins_part b (transitions_are ∙ sym f)

-- a part of a lent list that a call leaves as xs, with what stands behind it
pub begins_front : {xs front : List ℕ} (rest : List ℕ) → front ≡ xs → Begins xs (front ++ rest)
begins_front {xs} rest e = rw e (record { is = take_at xs rest (length xs) refl })
