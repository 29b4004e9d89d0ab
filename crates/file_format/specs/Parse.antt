-- Reading a list of bytes front to back: the first field that fails ends the reading (document 01, "The chart file").
use Rattle.std.specs.Prelude.{Bool, true, false, List, [], ◌∷◌, ◌++◌, ℕ, zero, suc, ◌+◌, ◌*◌, ◌/◌, ◌%◌, ◌<◌, leb, ltb}
use Rattle.lists.specs.Rising.{All}
use Rattle.model.specs.Answer.{nowhere}

-- each element is a byte
abbrev pub Bytes : List ℕ → Type 0
Bytes bs = All (λ b. b < 256) bs

-- a value with the bytes that are left, or a refusal's number and place
pub data Parsed (A : Type 0) : Type 0 where
  value : A → (rest : List ℕ) → Parsed A
  refusal : (number place : ℕ) → Parsed A

-- go on from a value; a refusal stands
abbrev pub bind : {A B : Type 0} → Parsed A → (A → List ℕ → Parsed B) → Parsed B
bind (value a t) k = k a t
bind (refusal n p) k = refusal n p

-- x where the condition holds, else the refusal
abbrev pub guard : {A : Type 0} → Bool → (number place : ℕ) → Parsed A → Parsed A
guard true n p x = x
guard false n p x = refusal n p

-- 3, the file ends inside a field
abbrev pub byte : List ℕ → Parsed ℕ
byte [] = refusal 3 nowhere
byte (b ∷ t) = value b t

-- a number of w bytes, the highest first
unfoldable pub number : (w : ℕ) → List ℕ → Parsed ℕ
number zero bs = value 0 bs
number (suc w) bs = bind (number w bs) (λ high t. bind (byte t) (λ low u. value (high * 256 + low) u))

-- a number of w bytes that is below the limit, else the refusal n at the place p
unfoldable pub below : (w limit n p : ℕ) → List ℕ → Parsed ℕ
below w limit n p bs = bind (number w bs) (λ x t. guard (ltb x limit) n p (value x t))

-- n items, each read by what the items before it left: `next` makes the state for the item that follows
module _ {S A : Type 0} (next : S → A → S) (read : S → List ℕ → Parsed A) where
  unfoldable pub many : S → (n : ℕ) → List ℕ → Parsed (List A)
  many s zero bs = value [] bs
  many s (suc n) bs = bind (read s bs) (λ a t. bind (many (next s a) n t) (λ xs u. value (a ∷ xs) u))

-- an entry of a strictly rising list, at least lo: the refusal n if it is not below the limit, 7 if it does not rise
unfoldable pub entry : (w limit n p lo : ℕ) → List ℕ → Parsed ℕ
entry w limit n p lo bs = bind (below w limit n p bs) (λ x t. guard (leb lo x) 7 p (value x t))

-- such a list of k entries
unfoldable pub rising : (w limit n p k : ℕ) → List ℕ → Parsed (List ℕ)
rising w limit n p k bs = many (λ lo x. suc x) (entry w limit n p) 0 k bs

-- ---- the same written

-- the w bytes of a number, the highest first
unfoldable pub digits : (w v : ℕ) → List ℕ
digits zero v = []
digits (suc w) v = digits w (v / 256) ++ (v % 256 ∷ [])

-- the items one after another
unfoldable pub write_all : {A : Type 0} → (A → List ℕ) → List A → List ℕ
write_all w [] = []
write_all w (a ∷ xs) = w a ++ write_all w xs
