-- When a chart refuses a call by 9 or 10, in the words of paths: exactly when the first head whose chart is not accepted has a version below 3 and an
-- unreached location, or is not refused so and has an unstarted test, at the lowest such; and that no file of version 3 brings 9. One file's
-- judgement is known by paths.
use mathlib.Core.Path.{◌≡◌}
use mathlib.Core.Logic.Iff
use mathlib.Core.Logic.{◌↔◌}
use mathlib.Core.List.{List}
use Prim.Native.Nat.{ℕ, ◌<◌}
use native.Mathlib.Omega.{arith}
use Rattle.model.specs.Answer.{refused}
use Rattle.model.specs.Chart.{Chart}
use Rattle.model.specs.Places.{LowestUnreached, LowestUnstarted, HasUnreached}
use Rattle.file_format.specs.Parse.{Bytes}
use Rattle.judgement.specs.Judging.{judged_in}
use Rattle.judgement.specs.Charts.{HoldsChart}
use Rattle.judgement.proofs.Corollaries.{judged_9, judged_10, judged_result, somewhere, unreached_in_lem, never_unreached}
use Rattle.controller_model.specs.declared.Controller.{Controller}
use Rattle.controller_model.specs.declared.Heads.{Heads}
use Rattle.controller_model.specs.declared.Parts.{Parts}
use Rattle.controller_model.specs.Heads.{head_file}
use Rattle.controller_model.specs.Controlling.{set_up, Call, called}
use Rattle.controller_model.specs.Refusals.{SomeHeads, FirstRefused, FirstWith, AllVersion3}
use Rattle.controller_model.proofs.ListParts.{all_part}
use Rattle.controller_model.proofs.Exactly.{set_up_1_to_10, called_1_to_10}

module _ (files : List ℕ) (bytes : Bytes files) (hs : Heads) where
  own : (h : ℕ) → Bytes (head_file files hs h)
  own h = all_part (λ x. x < 256) hs.lengths h files bytes

  -- a refusal that says P of one file says it of the first that is refused
  first_with : (n p : ℕ) (P : Chart → Type 0) → ((bs : List ℕ) → Bytes bs → (judged_in bs ≡ refused n p) ↔ HoldsChart bs P)
      → FirstRefused files hs n p ↔ FirstWith files hs P
  first_with n p P one = (
    (λ f. record {
      head = f.head;
      is_head = f.is_head;
      holds = (one (head_file files hs f.head) (own f.head)).0 f.is_refused;
      before = λ g l. let c = f.before g l in (c.0, (judged_result (head_file files hs g) (own g) c.0).0 c.1);
    }),
    (λ f. record {
      head = f.head;
      is_head = f.is_head;
      is_refused = (one (head_file files hs f.head) (own f.head)).1 f.holds;
      before = λ g l. let c = f.before g l in (c.0, (judged_result (head_file files hs g) (own g) c.0).1 c.1);
    }),
  )

  first_9 : (q : ℕ) → FirstRefused files hs 9 q ↔ FirstWith files hs (λ c. LowestUnreached c q)
  first_9 q = first_with 9 q (λ c. LowestUnreached c q) (λ bs b. judged_9 bs b q)

  -- 9 at whatever place: the first chart that is not accepted has a version below 3 and some location that no path reaches
  first_when : ((q : ℕ) × (SomeHeads hs × FirstWith files hs (λ c. LowestUnreached c q))) ↔ (SomeHeads hs × FirstWith files hs HasUnreached)
  first_when = (
    (λ x. let f = x.1.1 in (
      x.1.0,
      record {
        head = f.head;
        is_head = f.is_head;
        holds = (unreached_in_lem (head_file files hs f.head) (own f.head)).0 (x.0, f.holds);
        before = f.before;
      },
    )),
    (λ x.
        let f = x.1 in
        let y = (unreached_in_lem (head_file files hs f.head) (own f.head)).1 f.holds in
        (y.0, (x.0, record { head = f.head; is_head = f.is_head; holds = y.1; before = f.before }))),
  )

  never_first : AllVersion3 files hs → FirstWith files hs HasUnreached → ⊥
  never_first v f = never_unreached (head_file files hs f.head) (own f.head) (v f.head f.is_head) f.holds

  first_10 : (i : ℕ) → FirstRefused files hs 10 i ↔ FirstWith files hs (λ c. LowestUnstarted c i)
  first_10 i = first_with 10 i (λ c. LowestUnstarted c i) (λ bs b. judged_10 bs b i)

  -- the number of heads passes, and the rest in other words
  in_words : {A B C : Type 0} → A ↔ (SomeHeads hs × B) → B ↔ C → A ↔ (SomeHeads hs × C)
  in_words x y = ((λ a. let z = x.0 a in (z.0, y.0 z.1)), (λ z. x.1 (z.0, y.1 z.1)))

  -- set-up
  module _ (K : ℕ) (counts : List ℕ) (ns : Parts) where
    pub set_up_9 : (q : ℕ) → (set_up files hs K counts ns ≡ refused 9 q) ↔ (SomeHeads hs × FirstWith files hs (λ c. LowestUnreached c q))
    set_up_9 q = in_words (set_up_1_to_10 files bytes hs K counts ns 9 q (omega arith)) (first_9 q)

    pub set_up_9_when : ((q : ℕ) × (set_up files hs K counts ns ≡ refused 9 q)) ↔ (SomeHeads hs × FirstWith files hs HasUnreached)
    set_up_9_when = Iff.trans (somewhere set_up_9) first_when

    pub set_up_never_9 : AllVersion3 files hs → (q : ℕ) → set_up files hs K counts ns ≡ refused 9 q → ⊥
    set_up_never_9 v q e = never_first v (set_up_9_when.0 (q, e)).1

    pub set_up_10 : (i : ℕ) → (set_up files hs K counts ns ≡ refused 10 i) ↔ (SomeHeads hs × FirstWith files hs (λ c. LowestUnstarted c i))
    set_up_10 i = in_words (set_up_1_to_10 files bytes hs K counts ns 10 i (omega arith)) (first_10 i)

  -- an event or a turn
  module _ (K : ℕ) (s : Controller) (k : Call) where
    pub called_9 : (q : ℕ) → (called files hs K s k ≡ refused 9 q) ↔ (SomeHeads hs × FirstWith files hs (λ c. LowestUnreached c q))
    called_9 q = in_words (called_1_to_10 files bytes hs K s k 9 q (omega arith)) (first_9 q)

    pub called_9_when : ((q : ℕ) × (called files hs K s k ≡ refused 9 q)) ↔ (SomeHeads hs × FirstWith files hs HasUnreached)
    called_9_when = Iff.trans (somewhere called_9) first_when

    pub called_never_9 : AllVersion3 files hs → (q : ℕ) → called files hs K s k ≡ refused 9 q → ⊥
    called_never_9 v q e = never_first v (called_9_when.0 (q, e)).1

    pub called_10 : (i : ℕ) → (called files hs K s k ≡ refused 10 i) ↔ (SomeHeads hs × FirstWith files hs (λ c. LowestUnstarted c i))
    called_10 i = in_words (called_1_to_10 files bytes hs K s k 10 i (omega arith)) (first_10 i)
