-- What is found wrong at one node of the walk.
use Rattle.std.specs.Prelude.{ℕ, ◌≢◌, List}
use Rattle.proof_tree.specs.declared.signs.Sign.{Sign}
use Rattle.proof_tree.specs.declared.defects.TreeDefect.{TreeDefect}
use Rattle.proof_tree.specs.declared.defects.TreeDefect.TheVariants.{Syntax, NotClosed, Redundant, WrongLeaf, WrongBranch, Rest}
use Rattle.proof_tree.specs.Defects.{IsLeaf, Reads}

-- the offset that a defect tells
abbrev pub offset_in : TreeDefect → ℕ
offset_in (Syntax at) = at
offset_in (NotClosed at) = at
offset_in (Redundant at) = at
offset_in (WrongLeaf at) = at
offset_in (WrongBranch at) = at
offset_in (Rest at) = at

-- what is wrong where one symbol stands, and the canonical sign is another
abbrev pub IsOther : Sign → Sign → TreeDefect → Type 0
IsOther read sign (NotClosed at) = IsLeaf read × (¬ IsLeaf sign)
IsOther read sign (Redundant at) = (¬ IsLeaf read) × IsLeaf sign
IsOther read sign (WrongLeaf at) = IsLeaf read × IsLeaf sign
IsOther read sign (WrongBranch at) = (¬ IsLeaf read) × (¬ IsLeaf sign)
IsOther read sign (Syntax at) = ⊥
IsOther read sign (Rest at) = ⊥

-- what is wrong where the symbol of the canonical sign does not stand first: no symbol of canonical
-- trees does, or another one
abbrev pub IsMismatch : Sign → List ℕ → TreeDefect → Type 0
IsMismatch sign rest (Syntax at) = (read : Sign) → ¬ Reads rest read
IsMismatch sign rest defect =
    (read : Sign) × Reads rest read × (read ≢ sign) × IsOther read sign defect

-- what is wrong where the node has no canonical sign
abbrev pub IsUnsigned : List ℕ → TreeDefect → Type 0
IsUnsigned rest (Syntax at) = (read : Sign) → ¬ Reads rest read
IsUnsigned rest (NotClosed at) = (read : Sign) × Reads rest read
IsUnsigned rest defect = ⊥
