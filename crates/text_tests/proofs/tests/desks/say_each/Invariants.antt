use Rattle.std.proofs.Common.{◌≡◌}
use Rattle.preference_desk.specs.DeskView.{names_of}
use Rattle.text_tests.proofs.tests.desks.say_each.Given as goal

abbrev pub invariant-commands : goal.invariant-commands
invariant-commands g l = names_of l.desk ≡ names_of l.initial.desk
