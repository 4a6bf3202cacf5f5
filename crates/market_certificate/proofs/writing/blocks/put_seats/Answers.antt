use Rattle.std.proofs.Common.{length, rules}
use Rattle.market_certificate.specs.Texts.{used_line}
use Rattle.market_certificate.proofs.Joins.{names_more, one_longer, pair_of_turn}
use Rattle.market_certificate.proofs.writing.blocks.put_seats.Goals as goal

pub names-preserved : goal.names-preserved
names-preserved c =
    let at =
    pair_of_turn c.args.names.now c.args.seats.now c.names.yielded c.into_iter-name-iterator.result c.names.name-iterator c.next.new.self c.next.result
    c.names.yielded_by (c.in-Some.name, c.in-Some.used) c.in-Some.is c.next.ensures.steps (search rules) (search rules) in
    names_more used_line c.args.names.now c.args.seats.now (length c.names.yielded) _ c.in-Some.name.now c.in-Some.used.now c.args.text.now.items
    c.names.text.items c.put_used.new.text.items
    (one_longer c.names.yielded (c.in-Some.name, c.in-Some.used)) at.0 at.1 at.2 (at.3 c.in-Some.used.now) c.names.invariant c.in_ok-put_used.ensures
