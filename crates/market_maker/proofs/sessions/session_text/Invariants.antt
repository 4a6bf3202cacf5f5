use Rattle.std.proofs.Common.{◌≡◌, ◌%◌}
use Rattle.std.specs.Prelude.{◌==◌}
use Rattle.market_maker.specs.Lines.{text_of}
use Rattle.market_maker.specs.Sessions.{lines_of}
use Rattle.market_maker.proofs.sessions.session_text.Given as goal

abbrev pub invariant-students : goal.invariant-students
invariant-students l = l.text.items ≡ text_of (lines_of (λ i. i % 2 == l.rest) l.wishes.seed l.earlier l.wishes.sections)
