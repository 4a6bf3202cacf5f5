use Rattle.market_certificate.specs.Views.{publication_of}
use Rattle.certificate_checker.specs.Firsts.{AllBelow}
use Rattle.certificate_checker.specs.Students.{HasBudget}
use Rattle.certificate_checker.specs.Views.{terms_of}
use Rattle.certificate_checker.proofs.budgets.check_budgets.Given as goal

abbrev pub invariant-loop-place : goal.invariant-loop-place
invariant-loop-place l = AllBelow l.place (HasBudget (terms_of l.printed.terms.now).crowd (publication_of l.printed.publication.now))
