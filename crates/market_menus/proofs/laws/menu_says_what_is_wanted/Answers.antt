use Rattle.market_menus.proofs.WantedFacts.{menu_agrees}
use Rattle.market_menus.proofs.laws.menu_says_what_is_wanted.Goals as goal

pub returns : goal.returns
returns c = menu_agrees
