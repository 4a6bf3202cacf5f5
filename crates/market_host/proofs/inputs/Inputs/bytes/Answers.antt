use Rattle.std.proofs.Common.{◌+◌}
use Rattle.market_host.proofs.Cursor.{reads_next, reads_within}
use Rattle.market_host.proofs.inputs.Inputs.bytes.Goals as goal

pub returns-clause-reads : goal.returns-clause-reads
returns-clause-reads g c = λ form names texts start of has.
    reads_next g.H.Shelf form names texts start c.args.shelf.now c.read_input.new.shelf c.args.self.now c.name-name.result.now c.requires.more c.name-name.ensures has
    c.args.limit c.read_input.result of c.read_input.ensures

pub returns-clause-within : goal.returns-clause-within
returns-clause-within g c =
    reads_within g.H.Shelf c.args.limit c.name-name.result.now (c.args.self.now.read + 1) c.args.shelf.now c.read_input.new.shelf c.read_input.result
    c.read_input.ensures
