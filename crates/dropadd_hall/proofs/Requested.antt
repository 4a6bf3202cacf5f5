-- Which requests given words can spell.
use Rattle.std.proofs.Common.{ℕ, ◌≡◌, ◌≢◌, List, [], ◌∷◌, refl}
use Rattle.std.specs.Prelude.{codes}
use Rattle.market_units.specs.declared.names.Name.{Name}
use Rattle.market_units.specs.Name.{name_bytes}
use Rattle.dropadd_desk.specs.declared.command.HallCommand.{HallCommand}
use Rattle.dropadd_desk.specs.declared.command.HallCommand.TheVariants.{Add, Drop, Leave, Unreadable}
use Rattle.dropadd_hall.specs.Requests.{Spells}

-- the words behind the first are no two names
pub no_names : (word : List ℕ) (words : List (List ℕ)) → ((first second : Name) → words ≢ name_bytes first ∷ name_bytes second ∷ []) → (request : HallCommand)
    → Spells (word ∷ words) request → ⊥
no_names word words none (Add student section) spells = none student section (cc spells.written)
no_names word words none (Drop student section) spells = none student section (cc spells.written)
no_names word words none (Leave student section) spells = none student section (cc spells.written)
no_names word words none Unreadable spells = spells.readable refl

-- the first word is that of no request
pub no_request : (word : List ℕ) (words : List (List ℕ)) → word ≢ codes "add" → word ≢ codes "drop" → word ≢ codes "leave" → (request : HallCommand) → Spells (word ∷ words) request → ⊥
no_request word words a b c (Add student section) spells = a (cc spells.written)
no_request word words a b c (Drop student section) spells = b (cc spells.written)
no_request word words a b c (Leave student section) spells = c (cc spells.written)
no_request word words a b c Unreadable spells = spells.readable refl

-- the second word is no name
pub no_section : (words rest : List (List ℕ)) (student : Name) → words ≡ name_bytes student ∷ rest
    → ((name : Name) (more : List (List ℕ)) → rest ≢ name_bytes name ∷ more)
    → (first second : Name) → words ≢ name_bytes first ∷ name_bytes second ∷ []
no_section words rest student e none first second both = none second [] (cc (e, both))
