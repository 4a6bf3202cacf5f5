use Rattle.market_certificate.specs.Views.{publication_of}
use Rattle.certificate_checker.specs.Certificates.{IsAllocated}
use Rattle.certificate_checker.specs.Firsts.{AllBelow}
use Rattle.certificate_checker.proofs.allocation.check_allocation.Given as goal

abbrev pub invariant-loop-place : goal.invariant-loop-place
invariant-loop-place l = AllBelow l.place (IsAllocated (publication_of l.printed.publication.now))
