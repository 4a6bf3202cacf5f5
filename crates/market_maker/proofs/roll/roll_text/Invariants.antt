use Rattle.std.proofs.Common.{◌≡◌, ◌++◌, map}
use Rattle.market_maker.specs.Lines.{ended, numbers_to, text_of}
use Rattle.market_maker.specs.Rolls.{roll_header, student_row}
use Rattle.market_maker.proofs.roll.roll_text.Given as goal

abbrev pub invariant-students : goal.invariant-students
invariant-students l = l.text.items ≡ ended roll_header ++ text_of (map student_row (numbers_to l.earlier))
