use Rattle.std.proofs.Common.{ap, ◌∙◌}
use Rattle.std.specs.Prelude.{map}
use Rattle.preference_desk.specs.StudentPreferences.{pair_cmp}
use Rattle.std.specs.FinMap.{from_sorted}
use Rattle.preference_desk.specs.Rows.{pair_entry}
use Rattle.preference_desk.proofs.RowLemmas.{map-nothing}
use Rattle.preference_desk.proofs.pairs.Pairs.new.Goals as goal

pub returns : goal.returns
returns c = ap (λ items. from_sorted (map pair_entry items)) c.in_ok-with_capacity.ensures.items ∙ map-nothing pair_cmp
