-- What a form answers, once it has the names of its inputs.
use Rattle.std.specs.Prelude.{ℕ, ◌≡◌, List, ◌∷◌, ◌++◌, Ok, Result}
use Rattle.market_edge.specs.declared.shelf.Shelf as Shelf
use Rattle.market_words.specs.declared.words.Form.{Form}
use Rattle.market_words.specs.declared.words.Form.TheVariants.{Hall}
use Rattle.market_host.specs.declared.ended.Ended.{Ended}
use Rattle.market_host.specs.declared.status.Status.{Status}
use Rattle.market_host.specs.declared.status.Status.TheVariants.{Done, NoPrices, Found, Unknown}
use Rattle.market_host.specs.declared.trouble.Trouble.{Trouble}
use Rattle.market_host.specs.Endings.{bytes_of}
use Rattle.market_host.specs.Outcomes.{Prints, TellsFinding, TellsNoName, TellsNoPrices}
use Rattle.market_host.specs.Markets.{IsMarketOf}
use Rattle.market_host.specs.Requests.{AreRequestStreams}
use Rattle.market_host.specs.Taking.{TakesAll}
use Rattle.course_catalog.specs.Catalog.{CatalogData}
use Rattle.course_catalog.specs.Reading.{catalog_of}
use Rattle.dropadd_desk.specs.declared.command.HallCommand.{HallCommand}
use Rattle.student_roll.specs.Rolls.{roll_of}
use Rattle.student_roll.specs.Students.{RollData}
use Rattle.published_parts.specs.Markets.{Market}
use Rattle.utility_language.specs.declared.commands.Command.{Command}

-- what is written at a status with which the work of a form ends whose inputs have these texts
abbrev pub Ends : Form → List (List ℕ) → Status → List ℕ → Type 0
Ends form texts Done text = Prints form texts text
Ends form texts (NoPrices least) text = TellsNoPrices form texts least text
Ends form texts (Found finding) text = TellsFinding form texts finding text
Ends form texts (Unknown word) text = TellsNoName form texts word text
Ends form texts status text = ⊥

-- the work of a form whose inputs have these names is ended, or one of them stops it, or the want
-- of memory
abbrev pub IsAnswer : {H : Type 0} → Shelf.Ghosts H → Form → List (List ℕ) → H → H
    → Result Ended Trouble → Type 0
IsAnswer shelf form names old new result =
    TakesAll shelf form names (λ texts ended. Ends form texts ended.status (bytes_of ended.output))
    old new result

-- The work of a form is ended so, whatever texts say this market and these streams, and with these
-- texts between them.
abbrev pub EndsFor : Form → Market → List (List ℕ) → List (List Command) → Status → List ℕ → Type 0
EndsFor form market more streams status text =
    (catalog roll settings : List ℕ) (sessions : List (List ℕ))
    → IsMarketOf catalog roll settings sessions market streams
    → Ends form (catalog ∷ roll ∷ settings ∷ (more ++ sessions)) status text

-- The work of `hall` is ended so, whatever texts say this catalogue, this roll, this published text
-- and these streams of requests.
abbrev pub HallEndsFor : CatalogData → RollData → List ℕ → List (List HallCommand) → Status → List ℕ
    → Type 0
HallEndsFor offered enrolled published streams status text =
    (catalog roll : List ℕ) (sessions : List (List ℕ)) → catalog_of catalog ≡ Ok offered
    → roll_of roll ≡ Ok enrolled → AreRequestStreams sessions streams
    → Ends Hall (catalog ∷ roll ∷ published ∷ sessions) status text
