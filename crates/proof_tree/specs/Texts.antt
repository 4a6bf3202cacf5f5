-- How a tree is written.
use Rattle.std.specs.Prelude.{ℕ, ◌<◌, ◌≤◌, ◌≡◌, ⊤, Option, Some, None, List, [], ◌∷◌, ◌++◌}
use Rattle.std.specs.Fmt.{decimal}
use Rattle.bundle_bounds.specs.declared.nodes.Leaf.{Leaf}
use Rattle.bundle_bounds.specs.Offers.{OfferData, places_of}
use Rattle.bundle_bounds.specs.declared.nodes.Leaf.TheVariants.{Plain, Budget, Credits, Number}
use Rattle.proof_tree.specs.declared.signs.Sign.{Sign}
use Rattle.proof_tree.specs.declared.signs.Sign.TheVariants.{Champion, Shut, Pruned, Forced, Open, Passed}
use Rattle.proof_tree.specs.Trees.{Tree, Wins, Bars, Cuts, Takes, Splits, Passes, IsTree}

-- a bound by a letter and its place: n, b, c, m
abbrev pub leaf_text : Leaf → List ℕ
leaf_text Plain = 110 ∷ []
leaf_text (Budget place) = 98 ∷ decimal place
leaf_text (Credits place) = 99 ∷ decimal place
leaf_text (Number place) = 109 ∷ decimal place

-- the symbol of a sign: *, x, a bound, !, +, -
abbrev pub symbol : Sign → List ℕ
symbol Champion = 42 ∷ []
symbol Shut = 120 ∷ []
symbol (Pruned leaf) = leaf_text leaf
symbol Forced = 33 ∷ []
symbol Open = 43 ∷ []
symbol Passed = 45 ∷ []

-- the text of a tree: the symbol of its first node, and the texts of the trees below it in their
-- order
abbrev pub spelled : Tree → List ℕ
spelled Wins = symbol Champion
spelled Bars = symbol Shut
spelled (Cuts leaf) = symbol (Pruned leaf)
spelled (Takes with_it) = symbol Forced ++ spelled with_it
spelled (Splits with_it without) = symbol Open ++ (spelled with_it ++ spelled without)
spelled (Passes without) = symbol Passed ++ spelled without

-- the text is that of the champion's tree: the canonical one, or with a required place the forced
-- one
abbrev pub IsTreeText : OfferData → Option ℕ → List ℕ → List ℕ → Type 0
IsTreeText offer required champion text =
    (tree : Tree) × IsTree offer required (places_of offer.menu champion) 0 [] tree
    × (text ≡ spelled tree)

-- a byte that is a decimal digit
abbrev pub IsDigit : ℕ → Type 0
IsDigit byte = (48 ≤ byte) × (byte ≤ 57)

-- no digit stands first
abbrev pub NoDigitFirst : List ℕ → Type 0
NoDigitFirst [] = ⊤
NoDigitFirst (byte ∷ bytes) = ¬ IsDigit byte

-- the number in a sign's symbol, where it has one
abbrev pub number_of : Sign → Option ℕ
number_of (Pruned (Budget place)) = Some place
number_of (Pruned (Credits place)) = Some place
number_of (Pruned (Number place)) = Some place
number_of sign = None

-- that number has one or two digits
abbrev pub IsShort : Sign → Type 0
IsShort sign = (place : ℕ) → number_of sign ≡ Some place → place < 100

-- the symbol of the sign stands first in the text, before this rest: as many digits are taken as
-- follow, one or two
pub record Stands (sign : Sign) (text rest : List ℕ) : Type 0 where
  pub spelled : text ≡ symbol sign ++ rest
  pub short : IsShort sign
  pub whole : (place : ℕ) → number_of sign ≡ Some place → NoDigitFirst rest
