use Rattle.std.proofs.Common.{ap, sym, ◌∙◌}
use Rattle.market_units.specs.Members.{has}
use Rattle.bundle_rules.specs.Bundles.{sections_of}
use Rattle.bundle_rules.specs.Existence.Places.{section_at-is}
use Rattle.demand_oracle.proofs.keeping.is_wanted.Goals as goal

pub returns-in-Some : goal.returns-in-Some
returns-in-Some c =
    rw c.in-Some.is
    (c.has.ensures
    ∙ ap (has (sections_of c.args.bundle.now)) (sym (section_at-is c.args.menu.now.places c.in-Some.place c.rated.result.now c.rated.ensures.value)))
