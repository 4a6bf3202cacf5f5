use Rattle.std.proofs.Common.{ℕ, ◌<◌}
use Rattle.bundle_rules.specs.Menus.{ClashesWell}
use Rattle.bundle_rules.proofs.conditions.row_is_sound.Given as goal

abbrev pub invariant-loop-other : goal.invariant-loop-other
invariant-loop-other l = (k : ℕ) → k < l.other → ClashesWell l.row.places.now l.row.clashes.now l.row.place k
