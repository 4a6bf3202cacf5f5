use Rattle.std.proofs.Common.{ap}
use Rattle.std.specs.Prelude.{Some}
use Rattle.utility_language.proofs.Printed.{read_back, short_of}
use Rattle.utility_language.proofs.reading.read_line.Goals as goal

pub returns-clause-printed : goal.returns-clause-printed
returns-clause-printed c =
    λ command short e. ap Some (read_back c.args.line.now _ c.command_of.result command c.in_ok-word.ensures.words c.command_of.ensures short e)

pub returns-clause-short : goal.returns-clause-short
returns-clause-short c = short_of _ _ c.command_of.ensures
