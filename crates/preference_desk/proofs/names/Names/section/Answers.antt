use Rattle.market_units.specs.declared.units.SectionNo.{SectionNo}
use Rattle.course_catalog.specs.Sections.{section_names}
use Rattle.preference_desk.proofs.NameLemmas.{found_below, found_is, found_ordinal, not_found_is_none}
use Rattle.preference_desk.proofs.names.Names.section.Goals as goal

pub returns-clause-has : goal.returns-clause-has
returns-clause-has c = found_is (λ (section : SectionNo). section.0) (section_names c.args.self.now.catalog.sections) c.args.name.now c.find.result c.find.ensures.place

pub returns-clause-ordinal : goal.returns-clause-ordinal
returns-clause-ordinal c = found_ordinal (λ (section : SectionNo). section.0) (section_names c.args.self.now.catalog.sections) c.args.name.now c.find.result c.find.ensures.place

pub returns-clause-within : goal.returns-clause-within
returns-clause-within c = found_below (λ (section : SectionNo). section.0) (section_names c.args.self.now.catalog.sections) c.args.name.now c.find.result c.find.ensures.place

pub returns-clause-none : goal.returns-clause-none
returns-clause-none c = not_found_is_none (λ (section : SectionNo). section.0) (section_names c.args.self.now.catalog.sections) c.args.name.now c.find.result c.find.ensures.place
