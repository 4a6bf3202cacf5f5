-- What `prefer` prints.
use Rattle.std.proofs.Common.{ℕ, List, ◌∷◌}
use Rattle.course_catalog.specs.Catalog.{CatalogData}
use Rattle.market_words.specs.declared.words.Form.TheVariants.{Prefer}
use Rattle.student_roll.specs.Students.{RollData}
use Rattle.utility_language.specs.declared.commands.Command.{Command}
use Rattle.market_host.specs.declared.status.Status.TheVariants.{Done}
use Rattle.market_host.specs.Markets.{SayTables}
use Rattle.market_host.specs.Preferences.{TellsPreferences}
use Rattle.market_host.specs.Sessions.{AreStreams}
use Rattle.market_host.specs.Works.{Ends}

-- the journal and the preferences of what the inputs say are printed
pub prefer_done : (offered : CatalogData) (enrolled : RollData) (catalog roll : List ℕ) (sessions : List (List ℕ)) (streams : List (List Command))
    (text : List ℕ) → SayTables catalog roll offered enrolled → AreStreams sessions streams → TellsPreferences offered enrolled streams text
    → Ends Prefer (catalog ∷ roll ∷ sessions) Done text
prefer_done offered enrolled catalog roll sessions streams text say are (journal, legal, merges, printed) = (
  offered,
  enrolled,
  journal,
  record { catalog_says = say.catalog_says; roll_says = say.roll_says; legal = legal; merged = (streams, are, merges) },
  printed,
)
