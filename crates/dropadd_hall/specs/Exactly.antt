-- A text opens a desk, or has exactly one opening finding.
use Rattle.std.specs.Prelude.{ℕ, ◌≡◌, ◌⊎◌, List}
use Rattle.certificate_checker.specs.declared.findings.Finding.{Finding}
use Rattle.course_catalog.specs.Catalog.{IsCatalog}
use Rattle.dropadd_desk.specs.Market.{Market}
use Rattle.dropadd_hall.specs.Openings.{CanOpen, IsOpeningFinding, IsTextOf}
use Rattle.market_certificate.specs.Publications.{Publication}
use Rattle.student_roll.specs.Students.{IsRoll}

-- two opening findings on one text are one, where the catalogue and the roll are such as can be
-- read
abbrev pub OneOpeningFinding : Type 0
OneOpeningFinding =
    (market : Market) (text : List ℕ) (one other : Finding) → IsCatalog market.catalog
    → IsRoll market.roll
    → IsOpeningFinding market text one → IsOpeningFinding market text other → one ≡ other

-- there is none on a text with which a desk opens
abbrev pub NoFindingWhereOpened : Type 0
NoFindingWhereOpened =
    (market : Market) (text : List ℕ) (finding : Finding) → IsCatalog market.catalog
    → IsRoll market.roll
    → CanOpen market text → ¬ IsOpeningFinding market text finding

-- a desk opens with the text of a publication, or there is one
abbrev pub OpensOrIsFound : Type 0
OpensOrIsFound =
    (market : Market) (text : List ℕ) (p : Publication) → IsTextOf market p text
    → CanOpen market text ⊎ ((finding : Finding) × IsOpeningFinding market text finding)

-- no text, of a publication or not, opens no desk and is without one
abbrev pub FoundWhereNotOpened : Type 0
FoundWhereNotOpened =
    (market : Market) (text : List ℕ) → ¬ CanOpen market text
    → ¬ ((finding : Finding) → ¬ IsOpeningFinding market text finding)
