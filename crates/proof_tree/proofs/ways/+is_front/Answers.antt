use Rattle.std.proofs.Common.{rules}
use Rattle.proof_tree.proofs.OnWay.{ascending_rest, none_before}
use Rattle.proof_tree.proofs.ways.+is_front.Goals as goal

pub is_front-requires : goal.is_front-requires
is_front-requires t c = (search rules, ascending_rest c.args.champion.now c.in-len1-up.len_at_least c.requires)

pub returns-in-empty-chosen : goal.returns-in-empty-chosen
returns-in-empty-chosen t c = none_before c.args.champion.now c.args.chosen.now _ c.args.next.0 c.in-len1-up.len_at_least c.requires c.in-empty-chosen.len_below
