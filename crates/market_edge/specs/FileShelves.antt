-- What a shelf of files shows.
use Rattle.std.specs.Prelude.{ℕ, List, Option, Some, None}
use Rattle.market_edge.specs.declared.file_shelf.FileShelf.{FileShelf}

-- the open file, if there is one
abbrev pub file_of : {R F D : Type 0} → FileShelf R F D → Option F
file_of shelf = shelf.file

-- the bytes that reads of the open file will give, where these are known
abbrev pub known_rest : {F : Type 0} → (F → Option (List ℕ)) → Option F → Option (List ℕ)
known_rest known None = None
known_rest known (Some file) = known file
