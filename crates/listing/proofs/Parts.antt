-- Each line by the parts in which it is put, and how long it is. Lists in another order of brackets.
use mathlib.Core.Path.{◌≡◌, sym, ap, ◌∙◌}
use mathlib.Core.Bool.{Bool, true, false}
use mathlib.Core.Option.{some}
use mathlib.Core.List.{List, [], ◌∷◌, ◌++◌, append_assoc}
use Prim.Native.Nat.{ℕ, ◌+◌, ◌*◌, ◌≤◌}
use native.Mathlib.Omega.{arith}
use lib.ListN.{length, length-append}
use Rattle.listing.specs.Text.{decimal, refused_word, used_word, floor_word, seen_word, limit_word, space, line_feed, at_word}
use Rattle.listing.specs.Listing.{refused_text, word_of, first_line, entry_text}
use Rattle.listing.specs.Cells.{entries_in, line_in}

module _ (n p : ℕ) where
  pub refused_parts : ((refused_word ++ decimal n) ++ ((space ∷ []) ++ decimal p)) ++ (line_feed ∷ []) ≡ refused_text n p
  unfolding refused_text
  refused_parts = simp append_assoc

  pub refused_length : length (refused_text n p) ≡ 10 + (length (decimal n) + length (decimal p))
  unfolding refused_word
  refused_length = ap length (sym refused_parts) ∙ simp length-append (omega arith)

pub word_most : (s : Bool) → length (word_of s) ≤ 7
unfolding floor_word seen_word
word_most true = omega arith
word_most false = omega arith

module _ (u f : ℕ) (s : Bool) (k : ℕ) where
  pub first_parts : (((used_word ++ decimal u) ++ (word_of s ++ decimal f)) ++ (limit_word ++ decimal k)) ++ (line_feed ∷ []) ≡ first_line u f s k
  unfolding first_line
  first_parts = simp append_assoc

  pub first_length : length (first_line u f s k) ≡ 13 + (length (decimal u) + (length (word_of s) + (length (decimal f) + length (decimal k))))
  unfolding used_word limit_word
  first_length = ap length (sym first_parts) ∙ simp length-append (omega arith)

pub entry_length : (j k : ℕ) → length (entry_text j (some k)) ≡ 2 + (length (decimal j) + length (decimal k))
entry_length j k = simp length-append (omega arith)

module _ (cells : List ℕ) (timers q : ℕ) where
  pub line_parts : ((at_word ++ decimal q) ++ entries_in cells (64 * q) timers) ++ (line_feed ∷ []) ≡ line_in cells timers q
  unfolding line_in
  line_parts = append_assoc (at_word ++ decimal q) (entries_in cells (64 * q) timers) (line_feed ∷ [])

  pub line_length : length (line_in cells timers q) ≡ 4 + (length (decimal q) + length (entries_in cells (64 * q) timers))
  unfolding at_word
  line_length = ap length (sym line_parts) ∙ simp length-append (omega arith)
