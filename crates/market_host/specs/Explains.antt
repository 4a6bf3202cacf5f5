-- What `explain` prints, and what it tells where a name is not known or the published text is not
-- accepted.
use Rattle.std.specs.Prelude.{ℕ, ◌≡◌, ◌<◌, ◌⊎◌, ◌↔◌, true, false, List, ◌∷◌, length, is_some}
use Rattle.bundle_rules.specs.Given.{SomeHas}
use Rattle.bundle_rules.specs.Menus.{wishes_of}
use Rattle.market_units.specs.Members.{has}
use Rattle.certificate_checker.specs.declared.findings.Finding.{Finding}
use Rattle.certificate_checker.specs.Certificates.{HoldsBy, IsAccepted, IsTextOf}
use Rattle.certificate_checker.specs.Findings.{IsFirstFinding}
use Rattle.certificate_checker.specs.Students.{offer_in, proved_in}
use Rattle.published_parts.specs.Offers.{student_in}
use Rattle.certificate_checker.specs.Words.{finding_line}
use Rattle.demand_api.specs.Crowds.{CrowdData}
use Rattle.explain_desk.specs.Explanations.{ExplainedData, IsExplained}
use Rattle.explain_desk.specs.Texts.{explained_text}
use Rattle.market_certificate.specs.Publications.{Publication}
use Rattle.course_catalog.specs.Sections.{section_names}
use Rattle.market_certificate.specs.Tables.{name_at}
use Rattle.published_parts.specs.Markets.{Market, tables_in}
use Rattle.student_roll.specs.Students.{names_of}
use Rattle.utility_language.specs.declared.commands.Command.{Command}
use Rattle.market_host.specs.declared.status.Status.{Status}
use Rattle.market_host.specs.declared.status.Status.TheVariants.{Done, Found, Unknown}
use Rattle.market_host.specs.Lines.{unknown_line}
use Rattle.market_host.specs.Markets.{IsMarketOf}

-- the name at this place, counted from 0, is this one
abbrev pub IsNameAt : List (List ℕ) → ℕ → List ℕ → Type 0
IsNameAt names place name = (place < length names) × (name_at names place ≡ name)

-- one of these names is this one
abbrev pub IsAmong : List (List ℕ) → List ℕ → Type 0
IsAmong names name = (place : ℕ) × IsNameAt names place name

-- a student of this name is on the roll
abbrev pub IsEnrolled : Market → List ℕ → Type 0
IsEnrolled market student = IsAmong (names_of market.roll.students) student

-- a section of this name is in the catalogue
abbrev pub IsListed : Market → List ℕ → Type 0
IsListed market section = IsAmong (section_names market.catalog.sections) section

-- This word of the command line, counted from 1, is the first that names nothing: the sixth where
-- no student has the name, and the seventh where a student has the name and no section has the
-- other.
abbrev pub IsFirstUnknown : Market → List ℕ → List ℕ → ℕ → Type 0
IsFirstUnknown market student section word =
    ((word ≡ 6) × ¬ IsEnrolled market student)
    ⊎ ((word ≡ 7) × IsEnrolled market student × ¬ IsListed market section)

-- The published text is that of a publication of which the certificate holds, and the text tells
-- why the student does not have the section: at the published prices of the second stage, within
-- the budget that the student draws, beside the published bundle of the second stage, the first
-- reason that applies. The best bundle with the section, with its forced tree, is told exactly
-- where the student does not have the section and some bundle with it can be had.
pub record IsReasonOf (market : Market) (streams : List (List Command))
    (published student section text : List ℕ) : Type 0 where
  pub publication : Publication
  pub is_text : IsTextOf market publication published
  pub crowd : CrowdData
  pub holds : HoldsBy market streams publication crowd
  pub number : ℕ
  pub student_of : IsNameAt (names_of market.roll.students) number student
  pub place : ℕ
  pub section_of : IsNameAt (section_names market.catalog.sections) place section
  pub explained : ExplainedData
  pub is_explained : IsExplained (offer_in crowd publication number)
      (proved_in publication number).bundle place explained
  pub best_told : (is_some explained.best ≡ true)
      ↔ ((has (proved_in publication number).bundle place ≡ false)
      × SomeHas (wishes_of (offer_in crowd publication number).menu)
      (offer_in crowd publication number).price (offer_in crowd publication number).budget
      (offer_in crowd publication number).allowed place)
  pub told : text
      ≡ explained_text (section_names market.catalog.sections) (student_in crowd number).menu
      student place (proved_in publication number).bundle explained

-- both names are known, the published text is not accepted, this is the first finding on it, and
-- the text is the line that tells the finding
pub record IsFindingOf (market : Market) (streams : List (List Command))
    (published student section : List ℕ) (finding : Finding) (text : List ℕ) : Type 0 where
  pub enrolled : IsEnrolled market student
  pub listed : IsListed market section
  pub refused : ¬ IsAccepted market streams published
  pub first : IsFirstFinding market streams published finding
  pub told : text ≡ finding_line (tables_in market) finding

-- the texts stand for a market, and the sessions say streams, of which P holds
abbrev pub InMarketOf : List ℕ → List ℕ → List ℕ → List (List ℕ)
    → (Market → List (List Command) → Type 0) → Type 0
InMarketOf catalog roll settings sessions P =
    (market : Market) × (streams : List (List Command))
    × IsMarketOf catalog roll settings sessions market streams × P market streams

-- How `explain` ends for a market, its streams, a published text and two names: with the reason,
-- with the first finding, or with the first word that names nothing.
abbrev pub IsReasonEnd : Market → List (List Command) → List ℕ → List ℕ → List ℕ → Status → List ℕ
    → Type 0
IsReasonEnd market streams published student section Done text =
    IsReasonOf market streams published student section text
IsReasonEnd market streams published student section (Found finding) text =
    IsFindingOf market streams published student section finding text
IsReasonEnd market streams published student section (Unknown word) text =
    IsFirstUnknown market student section word × (text ≡ unknown_line word)
IsReasonEnd market streams published student section status text = ⊥

-- what is printed of the student and the section of these names, for the texts of a catalogue, a
-- roll, settings, a published text and sessions
abbrev pub PrintsReason : List ℕ → List ℕ → List (List ℕ) → List ℕ → Type 0
PrintsReason student section (catalog ∷ roll ∷ settings ∷ published ∷ sessions) text =
    InMarketOf catalog roll settings sessions
    (λ market streams. IsReasonOf market streams published student section text)
PrintsReason student section texts text = ⊥

-- what is told for these texts where both names are known and the published text is not accepted
abbrev pub TellsFoundOfKnown : List ℕ → List ℕ → List (List ℕ) → Finding → List ℕ → Type 0
TellsFoundOfKnown student section (catalog ∷ roll ∷ settings ∷ published ∷ sessions) finding text =
    InMarketOf catalog roll settings sessions
    (λ market streams. IsFindingOf market streams published student section finding text)
TellsFoundOfKnown student section texts finding text = ⊥

-- what is told for these texts where this word is the first that names nothing, whatever the
-- published text is
abbrev pub TellsUnknown : List ℕ → List ℕ → List (List ℕ) → ℕ → List ℕ → Type 0
TellsUnknown student section (catalog ∷ roll ∷ settings ∷ published ∷ sessions) word text =
    InMarketOf catalog roll settings sessions
    (λ market streams. IsFirstUnknown market student section word × (text ≡ unknown_line word))
TellsUnknown student section texts word text = ⊥
