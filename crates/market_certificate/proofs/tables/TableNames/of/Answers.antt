use Rattle.std.proofs.Common.{map, arith}
use Rattle.market_units.specs.Name.{name_bytes}
use Rattle.market_certificate.proofs.NamesOf.{tables_are}
use Rattle.market_certificate.proofs.tables.TableNames.of.Goals as goal

pub invariant_of-result : goal.invariant_of-result
invariant_of-result c = record {
  of_roll = c.in_ok-students.ensures.names;
  of_catalog = c.in_ok-sections.ensures.names;
  are =
      tables_are c.from.result (map name_bytes c.in_ok-students.students.items) (map name_bytes c.in_ok-sections.sections.items) c.args.roll.now
      c.args.catalog.now (omega arith) c.in_ok-students.ensures.names c.in_ok-sections.ensures.names
      c.in_ok-students.ensures.roll c.in_ok-sections.ensures.catalog;
}
