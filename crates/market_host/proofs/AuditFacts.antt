-- What `audit` writes.
use Rattle.std.proofs.Common.{ℕ, ◌≡◌, List, [], ◌∷◌}
use Rattle.certificate_checker.specs.declared.findings.Finding.{Finding}
use Rattle.certificate_checker.specs.Certificates.{IsAccepted}
use Rattle.certificate_checker.specs.Findings.{IsFirstFinding}
use Rattle.certificate_checker.specs.Words.{finding_line}
use Rattle.fairness_audit.specs.Audits.{IsAuditOf}
use Rattle.market_words.specs.declared.words.Form.TheVariants.{Audit}
use Rattle.published_parts.specs.Markets.{Market, tables_in}
use Rattle.utility_language.specs.declared.commands.Command.{Command}
use Rattle.market_host.specs.declared.status.Status.TheVariants.{Done, Found}
use Rattle.market_host.specs.Works.{EndsFor}

module _ (market : Market) (streams : List (List Command)) (published : List ℕ) (workers : ℕ) where
  -- the text is accepted, and its audit is written
  pub audit_done : (text : List ℕ) → IsAuditOf market streams published text → EndsFor (Audit workers) market (published ∷ []) streams Done text
  audit_done text audited catalog roll settings sessions say = (market, streams, say, audited)

  -- the first finding on it is told
  pub audit_found : (finding : Finding) (line : List ℕ) → ¬ IsAccepted market streams published → IsFirstFinding market streams published finding
      → line ≡ finding_line (tables_in market) finding → EndsFor (Audit workers) market (published ∷ []) streams (Found finding) line
  audit_found finding line refused first is catalog roll settings sessions say = (market, streams, say, refused, first, is)
