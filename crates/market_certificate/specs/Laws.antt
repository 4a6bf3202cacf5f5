-- What holds of published texts.
use Rattle.std.specs.Prelude.{ℕ, ◌≡◌, List}
use Rattle.market_certificate.specs.Tables.{Tables, AreTables}
use Rattle.market_certificate.specs.Publications.{Publication, IsPublication}
use Rattle.market_certificate.specs.Texts.{ArePublished, IsPublished, text_of}
use Rattle.market_certificate.specs.Finding.{Finds}
use Rattle.market_certificate.specs.declared.refusals.LineFault.{LineFault}

-- two publications of one text are one
abbrev pub OnePublicationAText : Type 0
OnePublicationAText =
    (tables : Tables) → AreTables tables → (p q : Publication) → IsPublication tables p
    → IsPublication tables q → text_of tables p ≡ text_of tables q → p ≡ q

-- the text of a publication has no defect
abbrev pub NoDefectInPublished : Type 0
NoDefectInPublished =
    (tables : Tables) → AreTables tables → (text : List ℕ) → IsPublished tables text
    → (at : ℕ) (fault : LineFault) → ¬ Finds (ArePublished tables) 1 text at fault
