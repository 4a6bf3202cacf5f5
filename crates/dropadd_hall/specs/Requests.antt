-- Which request the words of a line spell.
use Rattle.std.specs.Prelude.{ℕ, ◌≢◌, ◌≡◌, ◌⊎◌, List, [], ◌∷◌, codes}
use Rattle.std.specs.List.{AllZip}
use Rattle.market_units.specs.Name.{name_bytes}
use Rattle.utility_language.specs.Commands.{command_lines}
use Rattle.dropadd_desk.specs.declared.command.HallCommand.{HallCommand}
use Rattle.dropadd_desk.specs.declared.command.HallCommand.TheVariants.{Add, Drop, Leave, Unreadable}

-- the words by which a request is written
abbrev pub request_words : HallCommand → List (List ℕ)
request_words (Add student section) = codes "add" ∷ name_bytes student ∷ name_bytes section ∷ []
request_words (Drop student section) = codes "drop" ∷ name_bytes student ∷ name_bytes section ∷ []
request_words (Leave student section) = codes "leave" ∷ name_bytes student ∷ name_bytes section ∷ []
request_words Unreadable = codes "unreadable" ∷ []

-- the words are those of a request that can be read
pub record Spells (words : List (List ℕ)) (request : HallCommand) : Type 0 where
  pub readable : request ≢ Unreadable
  pub written : words ≡ request_words request

-- the request of a line with these words: the one that they spell, and where they spell none,
-- `Unreadable`
abbrev pub IsRequestOf : List (List ℕ) → HallCommand → Type 0
IsRequestOf words request =
    Spells words request ⊎ ((request ≡ Unreadable) × ((other : HallCommand) → ¬ Spells words other))

-- the requests of a text: those of its lines that are neither blank nor comments, in their order
abbrev pub AreRequests : List ℕ → List HallCommand → Type 0
AreRequests text requests = AllZip IsRequestOf (command_lines text) requests
