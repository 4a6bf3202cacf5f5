-- Whether a desk opens with the final bundles of a published text, and what is told where it does
-- not.
use Rattle.std.specs.Prelude.{ℕ, ◌≡◌, List}
use Rattle.certificate_checker.specs.declared.findings.Finding.{Finding}
use Rattle.certificate_checker.specs.declared.findings.Finding.TheVariants.{Infeasible, Seats, Text}
use Rattle.certificate_checker.specs.Words.{IsNamedIn}
use Rattle.dropadd_desk.specs.declared.shared.HallState.{HallState}
use Rattle.dropadd_desk.specs.Halls.{opening}
use Rattle.dropadd_desk.specs.Market.{Market}
use Rattle.dropadd_hall.specs.declared.opening.OpeningFault.{OpeningFault}
use Rattle.dropadd_hall.specs.declared.opening.OpeningFault.TheVariants as fault
use Rattle.dropadd_hall.specs.Faults.{IsFaultless, IsFirstInfeasible, IsFirstOverfull}
use Rattle.market_certificate.specs.Finding.{Finds}
use Rattle.market_certificate.specs.Publications.{IsPublication, Publication}
use Rattle.market_certificate.specs.Tables.{Tables, tables_of}
use Rattle.market_certificate.specs.Texts.{ArePublished, text_of}

-- what a published text takes of the catalogue and of the roll
abbrev pub tables_in : Market → Tables
tables_in market = tables_of market.catalog market.roll

-- the text is that of the publication
pub record IsTextOf (market : Market) (p : Publication) (text : List ℕ) : Type 0 where
  pub is_publication : IsPublication (tables_in market) p
  pub written : text ≡ text_of (tables_in market) p

-- students hold the final bundles of the publication, and nobody waits
abbrev pub opened : Market → Publication → HallState
opened market p = opening market p.allocation

-- The text is that of the publication, and its final bundles may be held: no two sections of a
-- student clash, no student passes a cap, and no section has more holders than the catalogue has
-- seats for it. Ratings, prices and budgets play no part.
pub record Opens (market : Market) (text : List ℕ) (p : Publication) : Type 0 where
  pub is_text : IsTextOf market p text
  pub faultless : IsFaultless market (opened market p)

-- a desk opens with the text
abbrev pub CanOpen : Market → List ℕ → Type 0
CanOpen market text = (p : Publication) × Opens market text p

-- The finding tells the first fault of what is held: the first student of whose sections two clash
-- or who passes a cap, and where there is none, the first section with more holders than seats,
-- with both numbers.
abbrev pub TellsFault : Market → HallState → Finding → Type 0
TellsFault market state (Infeasible student) = IsFirstInfeasible market state student.0
TellsFault market state (Seats section used seats) =
    IsFirstOverfull market state section.0 used seats
TellsFault market state finding = ⊥

-- The first finding on a text with which no desk opens: its first defect, where it is the text of
-- no publication; else the first fault of the final bundles.
abbrev pub IsOpeningFinding : Market → List ℕ → Finding → Type 0
IsOpeningFinding market text (Text line kind) =
    Finds (ArePublished (tables_in market)) 1 text line kind
IsOpeningFinding market text finding =
    (p : Publication) × IsTextOf market p text × TellsFault market (opened market p) finding

-- no desk opens with the text, and this is the first finding on it; whom it names is on the roll,
-- or in the catalogue
pub record IsNoOpening (market : Market) (text : List ℕ) (finding : Finding) : Type 0 where
  pub refused : ¬ CanOpen market text
  pub first : IsOpeningFinding market text finding
  pub named : IsNamedIn (tables_in market) finding

-- the finding that tells a fault
abbrev pub finding_of : OpeningFault → Finding
finding_of (fault.Infeasible student) = Infeasible student
finding_of (fault.Overfull section held seats) = Seats section held seats
