-- The bytes of a symbol.
use Rattle.std.specs.Prelude.{ℕ, List, take}
use Rattle.proof_tree.specs.declared.symbol_bytes.Symbol.{Symbol}

-- as many of its three bytes as it has
abbrev pub bytes_of : Symbol → List ℕ
bytes_of symbol = take symbol.len symbol.bytes
