use Rattle.std.proofs.Common.{sym, ◌∙◌}
use Rattle.std.specs.Prelude.{nat_le}
use Rattle.dropadd_desk.proofs.BundleParts.{found_place, no_place}
use Rattle.dropadd_desk.proofs.bundles.place_of.Goals as goal

pub returns-in-Some : goal.returns-in-Some
returns-in-Some c = found_place (λ other. nat_le c.args.section.0 other.0) c.args.sections.now c.in-Some.place (sym c.first_from.ensures ∙ c.in-Some.is)

pub returns-in-None : goal.returns-in-None
returns-in-None c = no_place c.args.section.0 c.args.sections.now (sym c.first_from.ensures ∙ c.in-None.is)
