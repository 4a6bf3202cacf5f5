-- How a call ends that has looked at a published text.
use Rattle.std.proofs.Common.{ℕ, ◌≡◌, List, subst, sym, Global}
use Rattle.std.specs.Prelude.{Err, IfErr, IfOk, Ok, Result, Vec}
use Rattle.certificate_checker.specs.declared.findings.CheckEnd.{CheckEnd}
use Rattle.certificate_checker.specs.declared.findings.CheckEnd.TheVariants as end
use Rattle.certificate_checker.specs.declared.findings.Finding.{Finding}
use Rattle.certificate_checker.specs.Findings.{OnFound}
use Rattle.certificate_checker.specs.Words.{finding_line}
use Rattle.market_certificate.specs.Tables.{Tables}
use Rattle.market_host.specs.declared.ended.Ended.{Ended}
use Rattle.market_host.specs.declared.status.Status.{Status}
use Rattle.market_host.specs.declared.status.Status.TheVariants.{Done, Found}
use Rattle.market_host.specs.Endings.{IsToldEnd, bytes_of}

same_end : (P : Status → List ℕ → Type 0) (ended : Ended) (status : Status) (text : List ℕ) → ended.status ≡ status → bytes_of ended.output ≡ text
    → P status text → P ended.status (bytes_of ended.output)
same_end P ended status text is same holds = subst (λ (s : Status). P s (bytes_of ended.output)) (sym is) (subst (P status) (sym same) holds)

-- what holds of the text that is told, and of the line of each finding of which these hold, holds of the end
pub told_ends : (tables : Tables) (told : Result (Vec ℕ Global) CheckEnd) (ended : Ended) (P : Status → List ℕ → Type 0) (Q R : Finding → Type 0)
    → IfOk told (λ text. P Done text.items) → IfErr told (λ end. OnFound end Q) → IfErr told (λ end. OnFound end R)
    → ((finding : Finding) → Q finding → R finding → P (Found finding) (finding_line tables finding))
    → IsToldEnd tables told ended → P ended.status (bytes_of ended.output)
told_ends tables (Ok text) ended P Q R done q r found is = same_end P ended Done text.items is.0 is.1 done
told_ends tables (Err (end.Found finding)) ended P Q R done q r found is =
    same_end P ended (Found finding) (finding_line tables finding) is.0 is.1 (found finding q r)
told_ends tables (Err end.NoMemory) ended P Q R done q r found is = absurd is
