use Rattle.market_menus.proofs.EachMenu.{each_has_a_menu}
use Rattle.market_menus.proofs.laws.each_has_a_menu.Goals as goal

pub returns : goal.returns
returns c = each_has_a_menu
