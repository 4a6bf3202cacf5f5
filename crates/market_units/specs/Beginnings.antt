-- Lists that begin with other lists.
use Rattle.std.specs.Prelude.{◌≡◌, List, ◌++◌}

-- the whole is the front, and something after it
abbrev pub BeginsWith : {A : Type 0} → List A → List A → Type 0
BeginsWith whole front = (rest : List _) × (whole ≡ front ++ rest)
