use Rattle.std.proofs.Common.{length, replicate, sym, ◌∙◌, arith}
use Rattle.std.proofs.lemmas.List.{same_lists, length-replicate, get_or-replicate}
use Rattle.row_region.proofs.region.refill.Goals as goal

pub returns : goal.returns
returns g c =
    same_lists c.loop-cell.row (replicate (length c.args.row.now) c.args.fill) (omega (arith, length-replicate (length c.args.row.now) c.args.fill))
    (λ k d within. c.loop-cell.invariant k d (omega arith) ∙ sym (get_or-replicate (length c.args.row.now) k c.args.fill d (omega arith)))
