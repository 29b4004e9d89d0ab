-- First fit over any pairs and links: who holds a number, whose family a placed one is, which number a pair has. The rule on a chart is in
-- `SharingRule`.
use Rattle.std.specs.Prelude.{◌≡◌, true, List, ℕ}
use mathlib.Core.Option.{some}
use lib.ListN.{get_elem?}
use Rattle.model.specs.Family.{Pairs, is_pair, Family, family_of, meets}
use Rattle.model.specs.FirstFit.{Placed, first_fit}

-- a family of the list that f meets holds k
pub record HeldBy (f : Family) (k : ℕ) (ps : List Placed) : Type 0 where
  pub place : ℕ
  pub holder : Placed
  pub is_nth : get_elem? ps place ≡ some holder
  pub met : meets f holder.family ≡ true
  pub number : holder.number ≡ k

-- f is the family of a pair, the pair of its first location
pub record FamilyOfPair (p : Pairs) (f : Family) : Type 0 where
  pub pair : is_pair p f.first f.timer ≡ true
  pub whole : f ≡ family_of p f.first f.timer

-- the family of the pair (q, j) was given the number k
pub record PairNumber (p : Pairs) (q j k : ℕ) : Type 0 where
  pub pair : is_pair p q j ≡ true
  pub place : ℕ
  pub placed : Placed
  pub is_nth : get_elem? (first_fit p) place ≡ some placed
  pub family : placed.family ≡ family_of p q j
  pub number : placed.number ≡ k
