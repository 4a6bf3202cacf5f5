-- Why a text is not accepted.
use Rattle.std.specs.Prelude.{ℕ, List}
use Rattle.utility_language.specs.declared.commands.Command.{Command}
use Rattle.published_parts.specs.Markets.{Market, tables_in}
use Rattle.certificate_checker.specs.declared.findings.Finding.{Finding}
use Rattle.certificate_checker.specs.Certificates.{IsAccepted}
use Rattle.certificate_checker.specs.Findings.{IsFirstFinding}
use Rattle.certificate_checker.specs.Words.{IsNamedIn}

-- a text is refused for its first finding: it is not accepted, and whom the finding names is of the
-- market
pub record IsRefused (market : Market) (streams : List (List Command)) (text : List ℕ)
    (finding : Finding) : Type 0 where
  pub first : IsFirstFinding market streams text finding
  pub refused : ¬ IsAccepted market streams text
  pub named : IsNamedIn (tables_in market) finding
