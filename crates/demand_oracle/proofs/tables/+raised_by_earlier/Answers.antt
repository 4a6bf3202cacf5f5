use Rattle.std.proofs.Common.{arith}
use Rattle.std.proofs.lemmas.Int.{ints}
use Rattle.demand_oracle.proofs.Raised.{raised_with, raised_without}
use Rattle.demand_oracle.proofs.tables.+raised_by_earlier.Goals as goal

pub returns-then-by-gt0 : goal.returns-then-by-gt0
returns-then-by-gt0 t c = raised_with c.args.pairs.now c.raised_by_earlier-word.result c.in-len1-up.len_at_least c.raised_by_earlier-word.ensures c.requires

pub returns-else-by-gt0 : goal.returns-else-by-gt0
returns-else-by-gt0 t c =
    raised_without c.args.pairs.now c.raised_by_earlier-word.result c.in-len1-up.len_at_least c.raised_by_earlier-word.ensures (omega (arith, ints))
