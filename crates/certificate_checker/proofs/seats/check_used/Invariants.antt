use Rattle.market_certificate.specs.Views.{publication_of}
use Rattle.certificate_checker.specs.Certificates.{IsUseTold}
use Rattle.certificate_checker.specs.Firsts.{AllBelow}
use Rattle.certificate_checker.proofs.seats.check_used.Given as goal

abbrev pub invariant-loop-place : goal.invariant-loop-place
invariant-loop-place l = AllBelow l.place (IsUseTold l.printed.terms.now.seats.items (publication_of l.printed.publication.now))
