use Rattle.std.proofs.Common.{◌≡◌, ◌∙◌, ap}
use Rattle.course_catalog.specs.Catalog.{CatalogData}
use Rattle.course_catalog.proofs.ClashFacts.{tells_sections_clash, sections_clash-relation}
use Rattle.course_catalog.proofs.catalog.Catalog.clash.Goals as goal

pub returns-clause-test : goal.returns-clause-test
returns-clause-test c =
    let same : c.self.inside.rows.items ≡ c.args.self.now.sections = ap (λ (catalog : CatalogData). catalog.sections) c.self.view_is in
    c.clash.ensures
    ∙ tells_sections_clash c.args.self.now.sections c.self.inside.clashes c.args.a.0 c.args.b.0 c.requires.first c.requires.second
    (rw same at c.self.invariant.clashes)

pub returns-clause-relation : goal.returns-clause-relation
returns-clause-relation c = rw (returns-clause-test c) (sections_clash-relation c.args.self.now.sections c.args.a.0 c.args.b.0)
