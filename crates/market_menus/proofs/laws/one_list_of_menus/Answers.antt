use Rattle.market_menus.proofs.OneMenus.{one_list}
use Rattle.market_menus.proofs.laws.one_list_of_menus.Goals as goal

pub returns : goal.returns
returns c = one_list
