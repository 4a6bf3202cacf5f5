-- Why a student of an accepted text does not have a section.
use Rattle.std.specs.Prelude.{ℕ, ◌≡◌, List}
use Rattle.certificate_checker.specs.Certificates.{HoldsBy, IsTextOf}
use Rattle.certificate_checker.specs.Students.{offer_in, proved_in}
use Rattle.published_parts.specs.Offers.{student_in}
use Rattle.course_catalog.specs.Catalog.{CatalogData}
use Rattle.demand_api.specs.Crowds.{CrowdData}
use Rattle.explain_desk.specs.Explanations.{ExplainedData, IsExplained}
use Rattle.explain_desk.specs.Texts.{explained_text}
use Rattle.market_certificate.specs.Publications.{Publication}
use Rattle.course_catalog.specs.Sections.{section_names}
use Rattle.market_certificate.specs.Tables.{name_at}
use Rattle.published_parts.specs.Markets.{Market}
use Rattle.student_roll.specs.Students.{RollData, names_of}
use Rattle.utility_language.specs.declared.commands.Command.{Command}

-- The text tells why the student does not have the section: at the printed prices of the second
-- stage, within the budget that it draws, beside its printed bundle of the second stage; and where
-- some bundle with the section can be had and the student does not have it, the best one, with its
-- tree.
abbrev pub IsTold : CatalogData → RollData → CrowdData → Publication → ℕ → ℕ → List ℕ → Type 0
IsTold catalog roll crowd p student section text =
    (explained : ExplainedData)
    × IsExplained (offer_in crowd p student) (proved_in p student).bundle section explained
    ×
    (text
    ≡ explained_text (section_names catalog.sections) (student_in crowd student).menu
    (name_at (names_of roll.students) student) section (proved_in p student).bundle
    explained)

-- the same of what an accepted text publishes, by the crowd after its order
pub record IsToldOf (market : Market) (streams : List (List Command)) (published : List ℕ)
    (student section : ℕ) (text : List ℕ) : Type 0 where
  pub publication : Publication
  pub is_text : IsTextOf market publication published
  pub crowd : CrowdData
  pub holds : HoldsBy market streams publication crowd
  pub is_told : IsTold market.catalog market.roll crowd publication student section text
