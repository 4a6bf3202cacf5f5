-- The laws that join publishing and checking.
use Rattle.std.specs.Prelude.{ℕ, ◌<◌, ◌^◌, List, length}
use Rattle.course_catalog.specs.Catalog.{IsCatalog}
use Rattle.student_roll.specs.Students.{IsRoll}
use Rattle.utility_language.specs.declared.commands.Command.{Command}
use Rattle.market_certificate.specs.Publications.{Publication}
use Rattle.market_certificate.specs.Texts.{text_of}
use Rattle.published_parts.specs.Markets.{Market, tables_in}
use Rattle.published_market.specs.Laws.{AreInOrder}
use Rattle.published_market.specs.Publishing.{IsPublished}
use Rattle.certificate_checker.specs.declared.findings.Finding.{Finding}
use Rattle.certificate_checker.specs.Certificates.{Holds, IsAccepted}
use Rattle.certificate_checker.specs.Findings.{IsFirstFinding}

-- the certificate holds of what is published, where the sessions say these streams, in whatever
-- order their commands are taken
abbrev pub CertificateOfPublished : Type 0
CertificateOfPublished =
    (market : Market) (streams : List (List Command)) (order : List ℕ) (p : Publication)
    → IsPublished market streams order p → Holds market streams p

-- the published text of inputs in order is accepted, for the same market and the same streams,
-- where it is not of 2 ^ 64 bytes or more
abbrev pub PublishedIsAccepted : Type 0
PublishedIsAccepted =
    (market : Market) (streams : List (List Command)) (order : List ℕ) (p : Publication)
    → AreInOrder market streams → IsPublished market streams order p
    → length (text_of (tables_in market) p) < 2 ^ 64
    → IsAccepted market streams (text_of (tables_in market) p)

-- every text is accepted or has a first finding: it cannot be neither, where the catalogue and the
-- roll are such as can be read
abbrev pub AcceptedOrFound : Type 0
AcceptedOrFound =
    (market : Market) (streams : List (List Command)) (text : List ℕ) → IsCatalog market.catalog
    → IsRoll market.roll
    → ¬ ((¬ IsAccepted market streams text)
    × ((finding : Finding) → ¬ IsFirstFinding market streams text finding))
