use Rattle.std.proofs.Common.{◌≡◌, ◌++◌, map}
use Rattle.market_maker.specs.Catalogs.{catalog_header, section_row}
use Rattle.market_maker.specs.Lines.{ended, numbers_to, text_of}
use Rattle.market_maker.proofs.catalog.catalog_text.Given as goal

abbrev pub invariant-sections : goal.invariant-sections
invariant-sections l = l.text.items ≡ ended catalog_header ++ text_of (map (section_row l.students) (numbers_to l.earlier))
