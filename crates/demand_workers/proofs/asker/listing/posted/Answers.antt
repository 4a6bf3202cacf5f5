use Rattle.std.proofs.Common.{None, Option, subst}
use Rattle.std.specs.Prelude.{IsSome}
use Rattle.std.proofs.lemmas.Bool.{false≢true}
use Rattle.bundle_rules.specs.declared.bundle.Bundle.{Bundle}
use Rattle.demand_workers.proofs.asker.listing.posted.Goals as goal

pub unreachable-requires : goal.unreachable-requires
unreachable-requires c =
    let none : IsSome {T = Bundle} None =
    subst (λ (o : Option Bundle). IsSome o) c.in-None.is (c.answer.ensures.some c.requires.listed c.requires.number) in
    absurd (false≢true none)
