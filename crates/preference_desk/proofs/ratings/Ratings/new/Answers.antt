use Rattle.std.proofs.Common.{nat_cmp, ap, ◌∙◌}
use Rattle.std.specs.Prelude.{map}
use Rattle.std.specs.FinMap.{from_sorted}
use Rattle.preference_desk.specs.Rows.{rating_entry}
use Rattle.preference_desk.proofs.RowLemmas.{map-nothing}
use Rattle.preference_desk.proofs.ratings.Ratings.new.Goals as goal

pub returns : goal.returns
returns c = ap (λ items. from_sorted (map rating_entry items)) c.in_ok-with_capacity.ensures.items ∙ map-nothing nat_cmp
