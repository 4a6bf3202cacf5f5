-- The sessions of a made market.
use Rattle.std.specs.Prelude.{ℕ, List, [], ◌∷◌}
use Rattle.market_maker.specs.Sessions.{first_text, second_text}

-- the text of each session
abbrev pub session_texts : ℕ → ℕ → ℕ → List (List ℕ)
session_texts seed students sections =
    first_text seed students sections ∷ second_text seed students sections ∷ []
