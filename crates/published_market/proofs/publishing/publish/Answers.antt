use Rattle.std.proofs.Common.{◌≡◌, ◌∙◌, length, subst, sym}
use Rattle.std.proofs.lemmas.List.{length-map}
use Rattle.course_catalog.specs.Sections.{Section}
use Rattle.demand_api.specs.Views.{data_of}
use Rattle.demand_api.proofs.Parts.{students_length}
use Rattle.published_parts.specs.Markets.{tables_in}
use Rattle.published_parts.specs.Views.{market_in}
use Rattle.student_roll.specs.Students.{Student}
use Rattle.published_parts.proofs.Asked.{crowd_count}
use Rattle.published_market.specs.Stages.{AreStages, stages_of}
use Rattle.published_market.proofs.publishing.publish.Goals as goal

pub put_together-requires-clause-stages : goal.put_together-requires-clause-stages
put_together-requires-clause-stages g c κs within =
    subst (λ seats. AreStages (data_of c.args.crowd.now) seats c.args.market.now.settings.now (stages_of c.in_ok-stages.stages))
    c.all_seats-seats.ensures c.in_ok-stages.ensures.stages

pub returns-clause-in_range : goal.returns-clause-in_range
returns-clause-in_range g c =
    let market = market_in c.args.market.now in
    let count : length market.roll.students ≡ length c.args.crowd.now.menus.items =
    sym (crowd_count market c.args.journal.now (data_of c.args.crowd.now) c.requires.is_crowd) ∙ students_length c.args.crowd.now in
    c.in_ok-put_together.ensures.in_range (tables_in market)
    (length-map market.roll.students (λ (student : Student). student.name) ∙ count)
    (length-map market.catalog.sections (λ (section : Section). section.name) ∙ sym c.requires.is_crowd.sections)
