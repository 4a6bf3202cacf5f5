-- What `hall` prints, and what is told of a published text with which no hall opens.
use Rattle.std.specs.Prelude.{ℕ, ◌≡◌, List, ◌∷◌, Ok}
use Rattle.certificate_checker.specs.declared.findings.Finding.{Finding}
use Rattle.certificate_checker.specs.Words.{finding_line}
use Rattle.course_catalog.specs.Reading.{catalog_of}
use Rattle.dropadd_desk.specs.declared.command.HallCommand.{HallCommand}
use Rattle.dropadd_desk.specs.Market.{Market}
use Rattle.dropadd_hall.specs.Openings.{CanOpen, IsOpeningFinding, tables_in}
use Rattle.dropadd_hall.specs.Told.{IsToldHall}
use Rattle.student_roll.specs.Rolls.{roll_of}
use Rattle.market_host.specs.Requests.{AreRequestStreams}

-- the texts of a catalogue and a roll stand for this market
pub record IsHallMarket (catalog roll : List ℕ) (market : Market) : Type 0 where
  pub catalog_says : catalog_of catalog ≡ Ok market.catalog
  pub roll_says : roll_of roll ≡ Ok market.roll

-- the text tells of a hall that opens with the final bundles of the published text, for the market
-- that the other texts stand for, and in which the sessions make their requests
abbrev pub IsHallOf : List ℕ → List ℕ → List ℕ → List (List ℕ) → List ℕ → Type 0
IsHallOf catalog roll published sessions text =
    (market : Market) × (streams : List (List HallCommand)) × IsHallMarket catalog roll market
    × AreRequestStreams sessions streams × IsToldHall market streams published text

-- no hall opens with the published text, this is the first finding on it, and the text is the line
-- that tells the finding by names
abbrev pub IsNoHallOf : List ℕ → List ℕ → List ℕ → Finding → List ℕ → Type 0
IsNoHallOf catalog roll published finding text =
    (market : Market) × IsHallMarket catalog roll market × (¬ CanOpen market published)
    × IsOpeningFinding market published finding
    × (text ≡ finding_line (tables_in market) finding)

-- what is printed for the texts of a catalogue, a roll, a published text and sessions
abbrev pub PrintsHall : List (List ℕ) → List ℕ → Type 0
PrintsHall (catalog ∷ roll ∷ published ∷ sessions) text =
    IsHallOf catalog roll published sessions text
PrintsHall texts text = ⊥

-- what is told for these texts where no hall opens
abbrev pub TellsNoHall : List (List ℕ) → Finding → List ℕ → Type 0
TellsNoHall (catalog ∷ roll ∷ published ∷ sessions) finding text =
    IsNoHallOf catalog roll published finding text
TellsNoHall texts finding text = ⊥
