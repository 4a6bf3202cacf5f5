-- A node is put among others.
use Rattle.std.specs.Prelude.{◌≡◌, ◌⊎◌, List, [], ◌∷◌}
use Rattle.demand_oracle.specs.declared.summed_node.SummedNode.{SummedNode}

-- the node stands before the first of the others that it is preferred to
abbrev pub IsInserted : (SummedNode → SummedNode → Type 0) → SummedNode → List SummedNode → List SummedNode → Type 0
IsInserted Precedes node [] put = put ≡ node ∷ []
IsInserted Precedes node (first ∷ others) [] = ⊥
IsInserted Precedes node (first ∷ others) (next ∷ put) =
    (Precedes node first × (next ∷ put ≡ node ∷ first ∷ others))
    ⊎ ((¬ Precedes node first) × (next ≡ first) × IsInserted Precedes node others put)
