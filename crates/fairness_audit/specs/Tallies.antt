-- Rows that grow by one envied student after another.
use Rattle.std.specs.Prelude.{◌+◌, Bool, cond, is_none, Some, None}
use Rattle.std.specs.Option.{option_or}
use Rattle.fairness_audit.specs.Rows.{RowData, SeenData}

-- nobody is envied
abbrev pub no_envy : RowData
no_envy = record { lower = 0; higher = 0; beyond = 0; first = None }

-- one more is envied, with lower envy or with higher
abbrev pub with_sight : RowData → SeenData → Bool → RowData
with_sight row seen is_lower = record {
  lower = row.lower + cond is_lower 1 0;
  higher = row.higher + cond is_lower 0 1;
  beyond = row.beyond + cond (is_none seen.without) 1 0;
  first = option_or row.first (Some seen);
}
