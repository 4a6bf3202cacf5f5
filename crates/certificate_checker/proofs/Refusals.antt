-- Why a text is refused.
use Rattle.std.proofs.Common.{ℕ, List}
use Rattle.course_catalog.specs.Catalog.{IsCatalog}
use Rattle.student_roll.specs.Students.{IsRoll}
use Rattle.market_certificate.specs.declared.refusals.TextRefusal.{TextRefusal}
use Rattle.market_certificate.specs.declared.refusals.TextRefusal.TheVariants.{Defect}
use Rattle.market_certificate.specs.declared.refusals.TextRefusal.TheVariants as refusals
use Rattle.market_certificate.specs.Finding.{Finds, OnDefect}
use Rattle.market_certificate.specs.Texts.{ArePublished, IsPublished}
use Rattle.utility_language.specs.declared.commands.Command.{Command}
use Rattle.published_parts.specs.Markets.{Market, tables_in}
use Rattle.certificate_checker.specs.declared.findings.Finding.{Finding}
use Rattle.certificate_checker.specs.Findings.{IsFirstFinding, OnFound, end_of}
use Rattle.certificate_checker.specs.Refusals.{IsRefused}
use Rattle.certificate_checker.proofs.Naming.{named_in}
use Rattle.certificate_checker.proofs.Refusing.{no_finding}

-- a text with a first finding is refused
pub first_refuses : (market : Market) (streams : List (List Command)) (text : List ℕ) (finding : Finding) → IsCatalog market.catalog → IsRoll market.roll
    → IsFirstFinding market streams text finding → IsRefused market streams text finding
first_refuses market streams text finding catalog roll is = record {
  first = is;
  refused = λ accepted. no_finding market streams text finding catalog roll accepted is;
  named = named_in market streams text finding is;
}

-- so is one with a defect
pub defect_refuses : (market : Market) (streams : List (List Command)) (text : List ℕ) (refusal : TextRefusal)
    → OnDefect refusal (Finds (ArePublished (tables_in market)) 1 text) → OnDefect refusal (λ _ _. ¬ IsPublished (tables_in market) text)
    → OnFound (end_of refusal) (IsRefused market streams text)
defect_refuses market streams text (Defect line kind) first other = record {
  first = first;
  refused = λ accepted. other (accepted.publication, accepted.is_text.is_publication, accepted.is_text.written);
  named = tt;
}
defect_refuses market streams text refusals.NoMemory first other = tt
