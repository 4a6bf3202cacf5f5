-- Where a text is not the tree of a champion: the first place at which the walk with it fails.
use Rattle.std.specs.Prelude.{ℕ, ◌-◌, ◌≡◌, ◌≢◌, ◌⊎◌, ◌^◌, min, ⊤, Option, None, List, [], ◌∷◌, length}
use Rattle.bundle_bounds.specs.Offers.{OfferData, places_of}
use Rattle.proof_tree.specs.declared.signs.Sign.{Sign}
use Rattle.proof_tree.specs.declared.signs.Sign.TheVariants.{Shut, Pruned, Forced}
use Rattle.proof_tree.specs.declared.defects.TreeDefect.{TreeDefect}
use Rattle.proof_tree.specs.declared.defects.TreeDefect.TheVariants.{Syntax, NotClosed, Redundant, WrongLeaf, WrongBranch, Rest}
use Rattle.proof_tree.specs.Trees.{IsSign, HasNoSign}
use Rattle.proof_tree.specs.Texts.{Stands}
use Rattle.proof_tree.specs.Walks.{HasCome}

-- the offset of the rest of a text, told as 2 ^ 32 - 1 where it is greater
abbrev pub offset : List ℕ → List ℕ → ℕ
offset text rest = min (length text - length rest) (2 ^ 32 - 1)

-- a leaf: n, b, c, m with their places
abbrev pub IsLeaf : Sign → Type 0
IsLeaf (Pruned leaf) = ⊤
IsLeaf sign = ⊥

-- a sign of canonical trees: one of *, n, b, c, m, +, -
abbrev pub IsCanonical : Sign → Type 0
IsCanonical Shut = ⊥
IsCanonical Forced = ⊥
IsCanonical sign = ⊤

-- a symbol of canonical trees stands first
abbrev pub Reads : List ℕ → Sign → Type 0
Reads rest sign = IsCanonical sign × ((later : List ℕ) × Stands sign rest later)

-- the walk of the canonical tree comes to a node, and what is left of the text there is not as it
-- should be
abbrev pub FailsAt : OfferData → List ℕ → List ℕ → ℕ → (ℕ → List ℕ → List ℕ → Type 0) → Type 0
FailsAt offer champion text at fault =
    (k : ℕ)
    × ((chosen : List ℕ)
    × ((nodes : List (ℕ × List ℕ))
    × ((rest : List ℕ) × HasCome offer None champion text ((k, chosen) ∷ nodes) rest
    × (at ≡ offset text rest) × fault k chosen rest)))

-- the sign whose symbol stands first is not the canonical one, and this relation holds of the two
abbrev pub Differs : OfferData → List ℕ → (Sign → Sign → Type 0) → ℕ → List ℕ → List ℕ → Type 0
Differs offer champion are k chosen rest =
    (read : Sign) × Reads rest read
    × ((canonical : Sign) × IsSign offer None (places_of offer.menu champion) k chosen canonical
    × (read ≢ canonical) × are read canonical)

-- The first defect of a text, at the node where the walk fails. `Syntax`: no symbol stands there.
-- `NotClosed`: one stands and the node has no canonical sign, or a leaf stands and the canonical
-- sign is no leaf. `Redundant`: the canonical sign is a leaf and what stands is none. `WrongLeaf`,
-- `WrongBranch`: another leaf, another of *, +, -. `Rest`: the walk is at its end, and bytes are
-- left.
abbrev pub IsDefect : OfferData → List ℕ → List ℕ → TreeDefect → Type 0
IsDefect offer champion text (Syntax at) =
    FailsAt offer champion text at (λ k chosen rest. (read : Sign) → ¬ Reads rest read)
IsDefect offer champion text (NotClosed at) = FailsAt offer champion text at (λ k chosen rest.
    (((read : Sign) × Reads rest read)
    × HasNoSign offer None (places_of offer.menu champion) k chosen)
    ⊎ Differs offer champion (λ read canonical. IsLeaf read × (¬ IsLeaf canonical)) k chosen rest)
IsDefect offer champion text (Redundant at) =
    FailsAt offer champion text at
    (Differs offer champion (λ read canonical. (¬ IsLeaf read) × IsLeaf canonical))
IsDefect offer champion text (WrongLeaf at) =
    FailsAt offer champion text at
    (Differs offer champion (λ read canonical. IsLeaf read × IsLeaf canonical))
IsDefect offer champion text (WrongBranch at) =
    FailsAt offer champion text at
    (Differs offer champion (λ read canonical. (¬ IsLeaf read) × (¬ IsLeaf canonical)))
IsDefect offer champion text (Rest at) =
    (rest : List ℕ) × HasCome offer None champion text [] rest × (rest ≢ [])
    × (at ≡ offset text rest)

-- the walk can't go on: no node is left but bytes are, or the symbol of the next node's canonical
-- sign does not stand first, or it has no such sign
abbrev pub IsStuck : OfferData → Option ℕ → List ℕ → List (ℕ × List ℕ) → List ℕ → Type 0
IsStuck offer required champion [] rest = rest ≢ []
IsStuck offer required champion (node ∷ nodes) rest =
    (sign : Sign) (later : List ℕ) → IsSign offer required champion node.0 node.1 sign
    → ¬ Stands sign rest later

-- the walk of the tree with this text first fails at this offset
abbrev pub FirstFailsAt : OfferData → Option ℕ → List ℕ → List ℕ → ℕ → Type 0
FirstFailsAt offer required champion text at =
    (nodes : List (ℕ × List ℕ))
    × ((rest : List ℕ) × HasCome offer required champion text nodes rest
    × (at ≡ offset text rest)
    × IsStuck offer required (places_of offer.menu champion) nodes rest)
