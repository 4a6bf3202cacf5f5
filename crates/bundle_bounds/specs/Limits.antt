-- Bounds below a limit.
use Rattle.std.specs.Prelude.{ℤ, ◌<ℤ◌, int_lt, if◌then◌else◌, ◌≡◌, ◌⊎◌, ⊤, Option, None, Some, List, [], ◌∷◌}
use Rattle.bundle_bounds.specs.declared.nodes.Leaf.{Leaf}

-- none of these is below the limit
abbrev pub NoneBelow : ℤ → List (Leaf × ℤ) → Type 0
NoneBelow limit [] = ⊤
NoneBelow limit (b ∷ bs) = (¬ (b.1 <ℤ limit)) × NoneBelow limit bs

-- the leaf of the first that is below the limit
abbrev pub IsFirstBelow : ℤ → List (Leaf × ℤ) → Leaf → Type 0
IsFirstBelow limit [] leaf = ⊥
IsFirstBelow limit (b ∷ bs) leaf =
    ((b.1 <ℤ limit) × (b.0 ≡ leaf)) ⊎ ((¬ (b.1 <ℤ limit)) × IsFirstBelow limit bs leaf)

-- that leaf as a value
abbrev pub first_below : ℤ → List (Leaf × ℤ) → Option Leaf
first_below limit [] = None
first_below limit (b ∷ bs) = if int_lt b.1 limit then Some b.0 else first_below limit bs
