-- Rows as plain data.
use Rattle.std.specs.Prelude.{option_map}
use Rattle.market_units.specs.declared.units.SectionNo.{SectionNo}
use Rattle.bundle_rules.specs.Bundles.{sections_of}
use Rattle.fairness_audit.specs.declared.row.EnvyRow.{EnvyRow}
use Rattle.fairness_audit.specs.declared.row.Seen.{Seen}
use Rattle.fairness_audit.specs.Rows.{RowData, SeenData}

-- an envied student
abbrev pub seen_of : Seen → SeenData
seen_of seen =
    record {
      student = seen.student.0;
      bundle = sections_of seen.bundle;
      without = option_map (λ (s : SectionNo). s.0) seen.without;
    }

-- a row
abbrev pub row_of : EnvyRow → RowData
row_of row =
    record {
      lower = row.lower;
      higher = row.higher;
      beyond = row.beyond;
      first = option_map seen_of row.first;
    }
