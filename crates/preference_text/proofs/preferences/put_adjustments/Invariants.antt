use Rattle.std.proofs.Common.{◌≡◌, ◌++◌, map, take}
use Rattle.market_units.specs.Name.{name_bytes}
use Rattle.preference_desk.specs.Rows.{pair_entry}
use Rattle.preference_text.specs.Texts.{adjustments_text}
use Rattle.preference_text.proofs.preferences.put_adjustments.Given as goal

abbrev pub invariant-pairs : goal.invariant-pairs
invariant-pairs l =
    l.text.items ≡ l.initial.text.items ++ adjustments_text l.catalog.sections (name_bytes l.student) (map pair_entry (take l.first-index l.pairs))
