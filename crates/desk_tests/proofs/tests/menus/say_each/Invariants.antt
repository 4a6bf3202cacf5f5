use Rattle.std.proofs.Common.{◌≡◌}
use Rattle.preference_desk.specs.DeskView.{names_of}
use Rattle.desk_tests.proofs.tests.menus.say_each.Given as goal

abbrev pub invariant-loop-line : goal.invariant-loop-line
invariant-loop-line g l = names_of l.desk ≡ names_of l.initial.desk
