use Rattle.accepted_publications.proofs.EveryText.{accepted_or_found}
use Rattle.accepted_publications.proofs.laws.accepted_or_found.Goals as goal

pub returns : goal.returns
returns c = accepted_or_found c.each_has_a_menu.ensures
