use Rattle.market_certificate.specs.Views.{publication_of}
use Rattle.certificate_checker.specs.Firsts.{AllBelow}
use Rattle.certificate_checker.specs.Students.{IsProvedBundle}
use Rattle.certificate_checker.specs.Views.{terms_of}
use Rattle.certificate_checker.proofs.bundles.check_bundles.Given as goal

abbrev pub invariant-loop-student : goal.invariant-loop-student
invariant-loop-student l = AllBelow l.student (IsProvedBundle (terms_of l.printed.terms.now).crowd (publication_of l.printed.publication.now))
