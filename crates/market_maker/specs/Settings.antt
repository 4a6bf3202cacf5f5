-- The settings of a made market.
use Rattle.std.specs.Prelude.{ℕ, List, [], ◌∷◌, ◌++◌, codes}
use Rattle.std.specs.Fmt.{decimal}
use Rattle.std.specs.List.{join_with_byte}
use Rattle.market_maker.specs.Lines.{text_of}

-- a key in double quotes, a colon, and the value as it is written
abbrev pub member_of : List ℕ → List ℕ → List ℕ
member_of key value = 34 ∷ (key ++ 34 ∷ 58 ∷ value)

-- these members as an object, in braces, with one comma between each two
abbrev pub object_of : List (List ℕ) → List ℕ
object_of members = 123 ∷ (join_with_byte 44 members ++ 125 ∷ [])

-- one line: the eight settings, of which the seed and the accepted error are given
abbrev pub settings_text : ℕ → ℕ → List ℕ
settings_text seed accept = text_of (
    object_of (
    member_of (codes "seed") (decimal seed)
    ∷ member_of (codes "spread") (codes "10")
    ∷ member_of (codes "accept") (decimal accept)
    ∷ member_of (codes "turns") (codes "25")
    ∷ member_of (codes "tabu") (codes "20")
    ∷ member_of (codes "patience") (codes "10")
    ∷ member_of (codes "steps") (codes "[1,10,100]")
    ∷ member_of (codes "raise") (codes "10")
    ∷ []
    )
    ∷ []
    )
