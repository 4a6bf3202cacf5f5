use Rattle.std.proofs.Common.{◌≡◌, ◌∙◌, length, ap, arith}
use Rattle.std.proofs.lemmas.List.{get_or_read, length-map}
use Rattle.course_catalog.specs.Courses.{course_number, course_numbers}
use Rattle.course_catalog.specs.Catalog.{CatalogData}
use Rattle.course_catalog.specs.Sections.{Section}
use Rattle.course_catalog.proofs.ClashFacts.{course_number_at}
use Rattle.course_catalog.proofs.catalog.Catalog.course.Goals as goal

pub returns : goal.returns
returns c =
    let sections = c.args.self.now.sections in
    let same : c.self.inside.courses.items ≡ course_numbers sections =
    c.self.invariant.courses ∙ ap (λ (catalog : CatalogData). course_numbers catalog.sections) c.self.view_is in
    let long : length (course_numbers sections) ≡ length sections = length-map sections (λ (s : Section). course_number sections s.course) in
    get_or_read c.self.inside.courses.items _ _ (omega (arith, ap length same, long, c.from.ensures, c.requires)) c.index.ensures 0
    ∙ rw (same, c.from.ensures) (course_number_at sections c.args.section.0 c.requires)
