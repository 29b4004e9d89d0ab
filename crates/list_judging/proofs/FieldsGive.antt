-- Reading fields that stand one after another comes to an answer. A field that is not there ends the bytes, so reading it is refused with 3 as an
-- entry that is not there is.
use mathlib.Core.Path.{◌≡◌, refl, ap, ◌∙◌}
use mathlib.Core.Bool.{Bool, true, false}
use mathlib.Core.Option.{Option, none, some}
use mathlib.Core.List.{List, [], ◌∷◌, ◌++◌, append_assoc}
use Prim.Native.Nat.{ℕ, zero, suc, ◌+◌, ◌^◌, ◌<◌}
use native.Mathlib.Nat.{add-zero}
use native.Mathlib.Omega.{arith}
use lib.Dec.{ltb}
use lib.ListN.{get_elem?}
use Rattle.lists.specs.Lists.{gather}
use Rattle.lists.specs.Rising.{All}
use Rattle.lists.proofs.Growing.{gather_first}
use Rattle.model.specs.Answer.{Answer, returned, refused, then, unless}
use Rattle.file_format.specs.Parse.{Parsed, value, refusal, bind, guard, number, below, many, digits}
use Rattle.file_format.proofs.Reading.{number_cut}
use Rattle.file_format.proofs.Fields.{number_trip}
use Rattle.file_format.proofs.Parsed.{bind_assoc, bind_guard}
use Rattle.list_judging.specs.FromLists.{entry_at, limited, entry_below}
use Rattle.list_judging.specs.FileFrom.{FieldBytes, bytes_of, entry_field}
use Rattle.list_judging.proofs.Items.{items}
use Rattle.list_judging.proofs.FromValid.{all_nth}

-- an answer as what a reader comes to that leaves the rest
abbrev pub parsed : {A : Type 0} → Answer A → (rest : List ℕ) → Parsed A
parsed (returned a) t = value a t
parsed (refused n p) t = refusal n p

-- reading the fields comes to x, whatever follows them, and leaves that
pub record FieldsGive {A : Type 0} (fs : List FieldBytes) (read : List ℕ → Parsed A) (x : Answer A) : Type 0 where
  pub is : (gs : List FieldBytes) → read (bytes_of (fs ++ gs)) ≡ parsed x (bytes_of gs)

pub reads_end : {A : Type 0} (a : A) → FieldsGive [] (λ t. value a t) (returned a)
reads_end a = record { is = λ gs. refl }

module _ {A B : Type 0} where
  pub bind_parsed : (x : Answer A) (t u : List ℕ) (k : A → List ℕ → Parsed B) (f : A → Answer B)
      → ((a : A) → x ≡ returned a → k a t ≡ parsed (f a) u) → bind (parsed x t) k ≡ parsed (then x f) u
  bind_parsed (returned a) t u k f h = h a refl
  bind_parsed (refused n p) t u k f h = refl

  pub bind_unless : (b : Bool) (n p : ℕ) (a : A) (t u : List ℕ) (k : A → List ℕ → Parsed B) (x : Answer B) → k a t ≡ parsed x u
      → bind (parsed (unless b n p (returned a)) t) k ≡ parsed (unless b n p x) u
  bind_unless true n p a t u k x h = h
  bind_unless false n p a t u k x h = refl

  -- some fields, then those that follow them
  pub reads_then : (fs : List FieldBytes) {gs : List FieldBytes} {read : List ℕ → Parsed A} {x : Answer A}
      {k : A → List ℕ → Parsed B} {f : A → Answer B} → FieldsGive fs read x → ((a : A) → x ≡ returned a → FieldsGive gs (k a) (f a))
      → FieldsGive (fs ++ gs) (λ bs. bind (read bs) k) (then x f)
  reads_then fs {gs} {read} {x} {k} {f} h g = record {
    is = λ hs. rw (append_assoc, h.is (gs ++ hs)) (bind_parsed x _ _ k f (λ a e. (g a e).is hs));
  }

  pub reads_regrouped : {C : Type 0} {fs : List FieldBytes} {read : List ℕ → Parsed C} (x : Answer A) (f : A → Answer B) (g : B → Answer C)
      → FieldsGive fs read (then (then x f) g) → FieldsGive fs read (then x (λ a. then (f a) g))
  reads_regrouped (returned a) f g h = h
  reads_regrouped (refused n p) f g h = h

  -- what is kept of the last ones
  pub reads_last : {fs : List FieldBytes} {read : List ℕ → Parsed A} {x : Answer A} (f : A → B) → FieldsGive fs read x
      → FieldsGive fs (λ bs. bind (read bs) (λ a t. value (f a) t)) (then x (λ a. returned (f a)))
  reads_last {x = x} f h = record { is = λ gs. rw (h.is gs) (bind_parsed x _ _ _ _ (λ a e. refl)) }

module _ {A : Type 0} {fs : List FieldBytes} {read : List ℕ → Parsed A} {x : Answer A} where
  pub reads_unless : (b : Bool) (n p : ℕ) → FieldsGive fs read x → FieldsGive fs (λ bs. guard b n p (read bs)) (unless b n p x)
  reads_unless true n p h = h
  reads_unless false n p h = record { is = λ gs. refl }

  -- a condition that holds
  pub reads_true : {b : Bool} (n p : ℕ) → b ≡ true → FieldsGive fs read x → FieldsGive fs (λ bs. guard b n p (read bs)) x
  reads_true n p e h = rw e h

-- ---- numbers

-- one that is known, then the fields that follow it
module _ {A : Type 0} (w v : ℕ) (fits : v < 256 ^ w) where
  pub number_read : (k : ℕ → List ℕ → Parsed A) {gs : List FieldBytes} {x : Answer A} → FieldsGive gs (k v) x
      → FieldsGive (some (digits w v) ∷ gs) (λ bs. bind (number w bs) k) x
  unfolding bytes_of
  number_read k {gs} h = record { is = λ hs. rw ((number_trip w).reads v (bytes_of (gs ++ hs)) fits) (h.is hs) }

  pub limit_read : (limit n p : ℕ) (k : ℕ → List ℕ → Parsed A) {gs : List FieldBytes} {x : Answer A} → FieldsGive gs (k v) x
      → FieldsGive (some (digits w v) ∷ gs) (λ bs. bind (below w limit n p bs) k) (unless (ltb v limit) n p x)
  unfolding below
  limit_read limit n p k h = simp (bind_assoc, bind_guard) (number_read _ (reads_unless (ltb v limit) n p h))

-- an entry of a list
pub entry_read : (w : ℕ) (l : List ℕ) (k : ℕ) → All (λ x. x < 256 ^ suc w) l
    → FieldsGive (entry_field (suc w) l k ∷ []) (number (suc w)) (entry_at l k)
unfolding entry_field entry_at bytes_of
entry_read w l k fits = go (get_elem? l k) refl
  where
    go : (o : Option ℕ) → get_elem? l k ≡ o → FieldsGive (entry_field (suc w) l k ∷ []) (number (suc w)) (entry_at l k)
    go none e = record { is = λ gs. rw e (number_cut [] 0 w (omega arith)) }
    go (some v) e = record { is = λ gs. rw e ((number_trip (suc w)).reads v (bytes_of gs) (all_nth (λ x. x < 256 ^ suc w) l k fits e)) }

pub below_read : (w : ℕ) (l : List ℕ) (k limit n p : ℕ) → All (λ x. x < 256 ^ suc w) l
    → FieldsGive (entry_field (suc w) l k ∷ []) (below (suc w) limit n p) (entry_below l k limit n p)
unfolding below limited
below_read w l k limit n p fits =
    reads_then (entry_field (suc w) l k ∷ []) (entry_read w l k fits) (λ v e. reads_unless (ltb v limit) n p (reads_end v))

-- ---- items

-- At i s z: at item i the answer's state is s and the reader's is z
module _ {S A : Type 0} (next : S → A → S) (read : S → List ℕ → Parsed A) (item : (i s : ℕ) → Answer A) (after : ℕ → A → ℕ)
    (fields : ℕ → List FieldBytes) (At : (i s : ℕ) → S → Type 0) (each : (i s : ℕ) (z : S) → At i s z → FieldsGive (fields i) (read z) (item i s))
    (more : (i s : ℕ) (z : S) (a : A) → At i s z → item i s ≡ returned a → At (suc i) (after s a) (next z a)) where
  pub many_read : (fs : ℕ → List FieldBytes) (i s : ℕ) (z : S) (n : ℕ) → ((j : ℕ) → fs j ≡ fields (i + j)) → At i s z
      → FieldsGive (gather fs n) (many next read z n) (items item after i s n)
  unfolding gather many items
  many_read fs i s z zero e h = reads_end []
  many_read fs i s z (suc n) e h =
      let first : fs 0 ≡ fields i = e 0 ∙ ap fields (add-zero i) in
      rw (gather_first fs n, first)
      (reads_then (fields i) (each i s z h) (λ a q.
      reads_last (λ xs. a ∷ xs)
      (many_read (λ j. fs (suc j)) (suc i) (after s a) (next z a) n (λ j. e (suc j) ∙ ap fields (later j)) (more i s z a h q))))
    where
      later : (j : ℕ) → i + suc j ≡ suc i + j
      later j = omega arith
