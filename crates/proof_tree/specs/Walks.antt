-- The walk of a tree together with a text: a node first, then the nodes below it, in their order.
use Rattle.std.specs.Prelude.{ℕ, ◌+◌, ◌≡◌, Option, List, [], ◌∷◌, ◌++◌}
use Rattle.bundle_bounds.specs.Offers.{OfferData, places_of}
use Rattle.proof_tree.specs.declared.signs.Sign.{Sign}
use Rattle.proof_tree.specs.declared.signs.Sign.TheVariants.{Champion, Shut, Pruned, Forced, Open, Passed}
use Rattle.proof_tree.specs.Trees.{IsSign}
use Rattle.proof_tree.specs.Texts.{Stands}

-- the nodes below a node of a sign, by the number of decided places and the chosen ones of them:
-- with the next place, without it
abbrev pub below : Sign → ℕ → List ℕ → List (ℕ × List ℕ)
below Champion k chosen = []
below Shut k chosen = []
below (Pruned leaf) k chosen = []
below Forced k chosen = (k + 1, chosen ++ k ∷ []) ∷ []
below Open k chosen = (k + 1, chosen ++ k ∷ []) ∷ (k + 1, chosen) ∷ []
below Passed k chosen = (k + 1, chosen) ∷ []

-- the walk of these nodes with this text comes to those nodes with that text: on the way, the
-- symbol of each node's canonical sign stands first
abbrev pub ComesTo : OfferData → Option ℕ → List ℕ → List Sign → List (ℕ × List ℕ) → List ℕ
    → List (ℕ × List ℕ) → List ℕ → Type 0
ComesTo offer required champion [] nodes text others rest = (nodes ≡ others) × (text ≡ rest)
ComesTo offer required champion (sign ∷ signs) [] text others rest = ⊥
ComesTo offer required champion (sign ∷ signs) (node ∷ nodes) text others rest =
    IsSign offer required champion node.0 node.1 sign
    × ((between : List ℕ) × Stands sign text between
    × ComesTo offer required champion signs (below sign node.0 node.1 ++ nodes) between
    others rest)

-- the walk of the champion's tree from the root on comes to these nodes, and this rest of the text
abbrev pub HasCome : OfferData → Option ℕ → List ℕ → List ℕ → List (ℕ × List ℕ) → List ℕ → Type 0
HasCome offer required champion text nodes rest =
    (signs : List Sign)
    × ComesTo offer required (places_of offer.menu champion) signs ((0, []) ∷ []) text nodes rest
