-- Trees that prove a champion best: the canonical tree, and with a required place, one that must be
-- taken, the forced tree.
use Rattle.std.specs.Prelude.{ℕ, ◌+◌, ◌≤◌, ◌<◌, ◌≡◌, ◌≢◌, true, false, Option, Some, List, [], ◌∷◌, ◌++◌, length}
use Rattle.bundle_bounds.specs.declared.nodes.Leaf.{Leaf}
use Rattle.bundle_bounds.specs.Offers.{OfferData}
use Rattle.proof_tree.specs.declared.signs.Sign.{Sign}
use Rattle.proof_tree.specs.declared.signs.Sign.TheVariants.{Champion, Shut, Pruned, Forced, Open, Passed}
use Rattle.bundle_bounds.specs.Opens.{is_open}
use Rattle.bundle_bounds.specs.Bounds.{bounds, IsFirstPruning, NonePrunes}

-- a tree, by the sign of its first node and the trees below it: with the next place, without it
pub data Tree : Type 0 where
  Wins : Tree
  Bars : Tree
  Cuts : (leaf : Leaf) → Tree
  Takes : (with_it : Tree) → Tree
  Splits : (with_it without : Tree) → Tree
  Passes : (without : Tree) → Tree

-- the sign of its first node
abbrev pub sign_of : Tree → Sign
sign_of Wins = Champion
sign_of Bars = Shut
sign_of (Cuts leaf) = Pruned leaf
sign_of (Takes with_it) = Forced
sign_of (Splits with_it without) = Open
sign_of (Passes without) = Passed

-- all places are decided, and the chosen ones are the champion's
abbrev pub IsChampionsEnd : OfferData → List ℕ → ℕ → List ℕ → Type 0
IsChampionsEnd offer champion k chosen = (k ≡ length offer.menu.places) × (chosen ≡ champion)

-- the required place is undecided and not open
abbrev pub IsShut : OfferData → Option ℕ → ℕ → List ℕ → Type 0
IsShut offer required k chosen =
    (place : ℕ) × (required ≡ Some place) × (k ≤ place) × (is_open offer chosen place ≡ false)

-- neither of these: the bounds are asked
pub record IsUnsettled (offer : OfferData) (required : Option ℕ) (champion : List ℕ) (k : ℕ)
    (chosen : List ℕ) : Type 0 where
  pub no_end : ¬ IsChampionsEnd offer champion k chosen
  pub not_shut : ¬ IsShut offer required k chosen

-- nor does a bound prune the node, and a place is left
pub record GoesOn (offer : OfferData) (required : Option ℕ) (champion : List ℕ) (k : ℕ)
    (chosen : List ℕ) : Type 0 where
  pub unsettled : IsUnsettled offer required champion k chosen
  pub none_prunes : NonePrunes offer k chosen champion (bounds offer k chosen)
  pub left : k < length offer.menu.places

-- the canonical sign of a node: the first that fits, also where a node below it has no tree
abbrev pub IsSign : OfferData → Option ℕ → List ℕ → ℕ → List ℕ → Sign → Type 0
IsSign offer required champion k chosen Champion = IsChampionsEnd offer champion k chosen
IsSign offer required champion k chosen Shut =
    (¬ IsChampionsEnd offer champion k chosen) × IsShut offer required k chosen
IsSign offer required champion k chosen (Pruned leaf) =
    IsUnsettled offer required champion k chosen
    × IsFirstPruning offer k chosen champion (bounds offer k chosen) leaf
IsSign offer required champion k chosen Forced =
    GoesOn offer required champion k chosen × (required ≡ Some k)
IsSign offer required champion k chosen Open =
    GoesOn offer required champion k chosen × (required ≢ Some k) × (is_open offer chosen k ≡ true)
IsSign offer required champion k chosen Passed =
    GoesOn offer required champion k chosen × (required ≢ Some k) × (is_open offer chosen k ≡ false)

-- the tree of a champion at a node, where these places are chosen: the canonical sign, and below it
-- the trees of the nodes below
abbrev pub IsTree : OfferData → Option ℕ → List ℕ → ℕ → List ℕ → Tree → Type 0
IsTree offer required champion k chosen Wins = IsSign offer required champion k chosen Champion
IsTree offer required champion k chosen Bars = IsSign offer required champion k chosen Shut
IsTree offer required champion k chosen (Cuts leaf) =
    IsSign offer required champion k chosen (Pruned leaf)
IsTree offer required champion k chosen (Takes with_it) =
    IsSign offer required champion k chosen Forced
    × IsTree offer required champion (k + 1) (chosen ++ k ∷ []) with_it
IsTree offer required champion k chosen (Splits with_it without) =
    IsSign offer required champion k chosen Open
    × IsTree offer required champion (k + 1) (chosen ++ k ∷ []) with_it
    × IsTree offer required champion (k + 1) chosen without
IsTree offer required champion k chosen (Passes without) =
    IsSign offer required champion k chosen Passed
    × IsTree offer required champion (k + 1) chosen without

-- a node without a sign: all places are decided, the chosen ones are not the champion's, and no
-- bound prunes it
pub record HasNoSign (offer : OfferData) (required : Option ℕ) (champion : List ℕ) (k : ℕ)
    (chosen : List ℕ) : Type 0 where
  pub unsettled : IsUnsettled offer required champion k chosen
  pub none_prunes : NonePrunes offer k chosen champion (bounds offer k chosen)
  pub all : k ≡ length offer.menu.places
