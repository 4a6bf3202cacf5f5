use Rattle.market_menus.proofs.OneMenus.{one_menu}
use Rattle.market_menus.proofs.laws.one_menu.Goals as goal

pub returns : goal.returns
returns c = one_menu
