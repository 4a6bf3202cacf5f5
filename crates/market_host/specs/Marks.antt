-- Texts that may begin with a byte order mark.
use Rattle.std.specs.Prelude.{ℕ, List, [], ◌∷◌, take, drop, nat_eq, if◌then◌else◌}
use Rattle.std.specs.Cmp.Lexicographic.{pointwise}

-- a byte order mark
abbrev pub mark : List ℕ
mark = 239 ∷ 187 ∷ 191 ∷ []

-- the bytes without one leading byte order mark
abbrev pub without_mark : List ℕ → List ℕ
without_mark bytes = if pointwise nat_eq (take 3 bytes) mark then drop 3 bytes else bytes
