-- Text as ASCII codes: numbers in decimal, and the words that the program prints (document 01, "What the four parts hand back").
use Rattle.std.specs.Prelude.{true, false, List, [], ◌∷◌, ◌++◌, ℕ, zero, suc, ◌+◌, ◌/◌, ◌%◌, ltb}

-- a number in decimal, with no leading zeros; k is at least the number of its digits
unfoldable pub decimal_in : (k n : ℕ) → List ℕ
decimal_in zero n = []
decimal_in (suc k) n = elim (ltb n 10) [ true ↦ (48 + n) ∷ [] | false ↦ decimal_in k (n / 10) ++ ((48 + n % 10) ∷ []) ]

-- 20 digits hold every number of 64 bits
unfoldable pub decimal : ℕ → List ℕ
decimal n = decimal_in 20 n

-- " "
abbrev pub space : ℕ
space = 32

-- the end of a line
abbrev pub line_feed : ℕ
line_feed = 10

-- ">"
abbrev pub greater : ℕ
greater = 62

-- "refused "
unfoldable pub refused_word : List ℕ
refused_word = 114 ∷ 101 ∷ 102 ∷ 117 ∷ 115 ∷ 101 ∷ 100 ∷ 32 ∷ []

-- "used "
unfoldable pub used_word : List ℕ
used_word = 117 ∷ 115 ∷ 101 ∷ 100 ∷ 32 ∷ []

-- " floor "
unfoldable pub floor_word : List ℕ
floor_word = 32 ∷ 102 ∷ 108 ∷ 111 ∷ 111 ∷ 114 ∷ 32 ∷ []

-- " seen "
unfoldable pub seen_word : List ℕ
seen_word = 32 ∷ 115 ∷ 101 ∷ 101 ∷ 110 ∷ 32 ∷ []

-- " limit "
unfoldable pub limit_word : List ℕ
limit_word = 32 ∷ 108 ∷ 105 ∷ 109 ∷ 105 ∷ 116 ∷ 32 ∷ []

-- "at "
unfoldable pub at_word : List ℕ
at_word = 97 ∷ 116 ∷ 32 ∷ []
