use Rattle.std.proofs.Common.{◌≡◌, ◌≤◌, All, map, take}
use Rattle.course_catalog.specs.Sections.{section_names}
use Rattle.price_sheet.specs.Sheets.{price_in}
use Rattle.price_sheet.proofs.reading.in_order.Given as goal

-- the prices of the sections so far
abbrev pub invariant-loop-section : goal.invariant-loop-section
invariant-loop-section l = record {
  prices : map (λ price. price.0) l.prices.items ≡ map (price_in l.sheet.read.now.rows.items) (take l.section (section_names l.catalog.sections));
  range : All (λ price. price.0 ≤ 1000001) l.prices.items;
}
