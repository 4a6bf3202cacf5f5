-- What one student's adjustments are seen as.
use Rattle.std.specs.Prelude.{ℕ, ℤ, map}
use Rattle.std.specs.FinMap.{FinMap, from_sorted}
use Rattle.preference_desk.specs.declared.pairs.Pairs.{Pairs}
use Rattle.preference_desk.specs.Rows.{pair_entry}
use Rattle.preference_desk.specs.StudentPreferences.{pair_cmp}

-- the finite map of the adjustments
abbrev pub pairs_in : Pairs → FinMap {K = ℕ × ℕ} pair_cmp ℤ
pairs_in pairs = from_sorted (map pair_entry pairs.items.items)
