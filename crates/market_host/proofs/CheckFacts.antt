-- What `check` writes.
use Rattle.std.proofs.Common.{ℕ, ◌≡◌, List, [], ◌∷◌}
use Rattle.certificate_checker.specs.declared.findings.Finding.{Finding}
use Rattle.certificate_checker.specs.Certificates.{IsAccepted}
use Rattle.certificate_checker.specs.Findings.{IsFirstFinding}
use Rattle.certificate_checker.specs.Words.{finding_line}
use Rattle.market_words.specs.declared.words.Form.TheVariants.{Check}
use Rattle.published_parts.specs.Markets.{Market, tables_in}
use Rattle.utility_language.specs.declared.commands.Command.{Command}
use Rattle.market_host.specs.declared.status.Status.TheVariants.{Done, Found}
use Rattle.market_host.specs.Checks.{accepted_line}
use Rattle.market_host.specs.Works.{EndsFor}

module _ (market : Market) (streams : List (List Command)) (published : List ℕ) where
  -- the text is accepted
  pub check_done : (line : List ℕ) → IsAccepted market streams published → line ≡ accepted_line → EndsFor Check market (published ∷ []) streams Done line
  check_done line accepted is catalog roll settings sessions say = ((market, streams, say, accepted), is)

  -- the first finding on it is told
  pub check_found : (finding : Finding) (line : List ℕ) → ¬ IsAccepted market streams published → IsFirstFinding market streams published finding
      → line ≡ finding_line (tables_in market) finding → EndsFor Check market (published ∷ []) streams (Found finding) line
  check_found finding line refused first is catalog roll settings sessions say = (market, streams, say, refused, first, is)
