use Rattle.std.proofs.Common.{length, map}
use Rattle.market_certificate.specs.Views.{seen, turn_of}
use Rattle.market_certificate.proofs.Blocks.{AreTurnsRead}
use Rattle.market_certificate.proofs.reading.turns.read_turns.Given as goal

abbrev pub invariant-loop-line : goal.invariant-loop-line
invariant-loop-line l = AreTurnsRead (seen l.tables) (map turn_of l.turns.items) l.fn.lines.number l.fn.lines.rest.now l.left.number l.left.rest.now

abbrev pub decreases-loop-line : goal.decreases-loop-line
decreases-loop-line l = length l.left.rest.now
