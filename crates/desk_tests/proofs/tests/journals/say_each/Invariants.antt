use Rattle.std.proofs.Common.{◌≡◌}
use Rattle.std.specs.Prelude.{All}
use Rattle.preference_desk.specs.DeskView.{entries_of, names_of}
use Rattle.preference_text.specs.Texts.{HasShortCommand}
use Rattle.desk_tests.proofs.tests.journals.say_each.Given as goal

abbrev pub invariant-loop-session : goal.invariant-loop-session
invariant-loop-session g l = (names_of l.desk ≡ names_of l.initial.desk) × All HasShortCommand (entries_of l.desk)
