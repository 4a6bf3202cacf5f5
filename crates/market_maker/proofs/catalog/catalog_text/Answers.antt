use Rattle.std.proofs.Common.{◌+◌, arith}
use Rattle.market_maker.specs.Catalogs.{catalog_header, section_row}
use Rattle.market_maker.specs.Lines.{ended}
use Rattle.market_maker.proofs.Growing.{line_more}
use Rattle.market_maker.proofs.catalog.catalog_text.Goals as goal

pub sections-preserved : goal.sections-preserved
sections-preserved c =
    line_more (section_row c.args.students) 1 c.sections.earlier (c.sections.earlier + 1) (ended catalog_header) c.sections.text.items
    c.put_section.new.text.items (omega arith) c.sections.invariant c.in_ok-put_section.ensures
