use Rattle.market_certificate.specs.Views.{publication_of}
use Rattle.certificate_checker.specs.Certificates.{IsWithinSeats}
use Rattle.certificate_checker.specs.Firsts.{AllBelow}
use Rattle.certificate_checker.proofs.seats.check_seats.Given as goal

abbrev pub invariant-loop-place : goal.invariant-loop-place
invariant-loop-place l = AllBelow l.place (IsWithinSeats l.printed.terms.now.seats.items (publication_of l.printed.publication.now))
