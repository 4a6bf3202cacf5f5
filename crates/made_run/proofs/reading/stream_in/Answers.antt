use Rattle.std.proofs.Common.{sym}
use Rattle.utility_language.proofs.StreamLemmas.{zip_length}
use Rattle.utility_language.specs.Commands.{IsCommandOf, command_lines}
use Rattle.made_run.proofs.reading.stream_in.Goals as goal

pub returns-in-Ok-clause-count : goal.returns-in-Ok-clause-count
returns-in-Ok-clause-count c = sym (zip_length IsCommandOf (command_lines c.args.session.now) c.in-Ok.commands.items c.in-Ok.ensures.commands)
