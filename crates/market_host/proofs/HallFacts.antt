-- What `hall` writes.
use Rattle.std.proofs.Common.{ℕ, ◌≡◌, List}
use Rattle.certificate_checker.specs.declared.findings.Finding.{Finding}
use Rattle.certificate_checker.specs.Words.{finding_line}
use Rattle.course_catalog.specs.Catalog.{CatalogData}
use Rattle.dropadd_desk.specs.declared.command.HallCommand.{HallCommand}
use Rattle.dropadd_desk.specs.Market.{Market}
use Rattle.dropadd_hall.specs.Openings.{CanOpen, IsOpeningFinding, tables_in}
use Rattle.dropadd_hall.specs.Told.{IsToldHall}
use Rattle.student_roll.specs.Students.{RollData}
use Rattle.market_host.specs.declared.status.Status.TheVariants.{Done, Found}
use Rattle.market_host.specs.Works.{HallEndsFor}

module _ (offered : CatalogData) (enrolled : RollData) (published : List ℕ) (streams : List (List HallCommand)) where
  abbrev market : Market
  market = record { catalog = offered; roll = enrolled }

  -- the hall that opens with the text is told
  pub hall_done : (text : List ℕ) → IsToldHall market streams published text → HallEndsFor offered enrolled published streams Done text
  hall_done text told catalog roll sessions catalog_says roll_says sessions_say =
      (market, streams, record { catalog_says = catalog_says; roll_says = roll_says }, sessions_say, told)

  -- the first finding on it is told
  pub hall_found : (finding : Finding) (line : List ℕ) → ¬ CanOpen market published → IsOpeningFinding market published finding
      → line ≡ finding_line (tables_in market) finding → HallEndsFor offered enrolled published streams (Found finding) line
  hall_found finding line refused first is catalog roll sessions catalog_says roll_says sessions_say =
      (market, record { catalog_says = catalog_says; roll_says = roll_says }, refused, first, is)
