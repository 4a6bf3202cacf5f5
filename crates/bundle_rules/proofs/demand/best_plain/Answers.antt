use Rattle.std.proofs.Common.{[], subst}
use Rattle.std.specs.FinSet as set
use Rattle.bundle_rules.specs.Bundles.{sections_of}
use Rattle.bundle_rules.specs.Menus.{wishes_of}
use Rattle.bundle_rules.specs.Demand.{price_in}
use Rattle.bundle_rules.specs.Extensions.{IsBestExtension}
use Rattle.bundle_rules.proofs.Later.{sections}
use Rattle.bundle_rules.specs.Existence.Extending.{best_of_all}
use Rattle.bundle_rules.proofs.Feasibility.{among_sections}
use Rattle.bundle_rules.proofs.demand.best_plain.Goals as goal

pub returns : goal.returns
returns c =
    let start =
    subst
    (λ front. IsBestExtension (wishes_of c.args.menu.now) (price_in c.args.prices.now) c.args.budget.0 (set.contains c.args.allowed.now) front
    (sections c.places.result.now) (sections_of c.best_from.result))
    c.empty.ensures c.best_from.ensures in
    best_of_all (wishes_of c.args.menu.now) (price_in c.args.prices.now) c.args.budget.0 (set.contains c.args.allowed.now) (sections c.args.menu.now.places)
    (sections_of c.best_from.result)
    (λ other choice s is. among_sections c.args.menu.now other choice.feasible.rated s is)
    (subst
    (λ places. IsBestExtension (wishes_of c.args.menu.now) (price_in c.args.prices.now) c.args.budget.0 (set.contains c.args.allowed.now) []
    (sections places) (sections_of c.best_from.result))
    c.places.ensures.value start)
