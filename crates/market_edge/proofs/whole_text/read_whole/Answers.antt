use Rattle.std.proofs.Common.{◌+◌, arith, take}
use Rattle.std.proofs.lemmas.Grind.{common_steps}
use Rattle.market_edge.proofs.Begun.{begun_and_ended}
use Rattle.market_edge.proofs.Reading.{taken_exactly}
use Rattle.market_edge.proofs.whole_text.read_whole.Goals as goal

pub returns-then-count-eq0-clause-read_out : goal.returns-then-count-eq0-clause-read_out
returns-then-count-eq0-clause-read_out g c =
    begun_and_ended _ (g.H.Shelf.shows c.pieces.shelf).openings _ c.args.name.now c.pieces.invariant.opened (c.in_ok-count.ensures.ends c.if-count-eq0.true)

pub returns-then-len-count-clause-too_long : goal.returns-then-len-count-clause-too_long
returns-then-len-count-clause-too_long g c _ =
    taken_exactly (c.args.limit + 1) (g.H.Shelf.shows c.args.shelf.now).holds c.args.name.now c.pieces.text.items (take c.in_ok-count.count c.read.new.room) _ _
    c.pieces.invariant.so_far c.in_ok-count.ensures.bytes (grind (arith, common_steps))
