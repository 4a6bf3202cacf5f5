use Rattle.std.proofs.Common.{take}
use Rattle.preference_desk.specs.PreferencesView.{preferences_of}
use Rattle.market_menus.specs.MenusOf.{AreMenusOf}
use Rattle.market_menus.proofs.menu.menus.Given as goal

abbrev pub invariant-students : goal.invariant-students
invariant-students l = AreMenusOf l.catalog.sections (take l.student l.roll.students) (take l.student (preferences_of l.preferences)) l.menus.items
