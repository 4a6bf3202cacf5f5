use Rattle.std.proofs.Common.{length, map, arith, rules}
use Rattle.std.proofs.lemmas.List.{length-map}
use Rattle.market_certificate.specs.Texts.{amount_line}
use Rattle.market_certificate.proofs.Joins.{names_more, one_longer, pair_of_turn, value_at}
use Rattle.market_certificate.proofs.writing.blocks.put_amounts.Goals as goal

pub names-preserved : goal.names-preserved
names-preserved c =
    let at =
    pair_of_turn c.args.names.now c.args.amounts.now c.names.yielded c.into_iter-name-iterator.result c.names.name-iterator c.next.new.self c.next.result
    c.names.yielded_by (c.in-Some.name, c.in-Some.tokens) c.in-Some.is c.next.ensures.steps (search rules) (search rules) in
    names_more (amount_line c.args.kind) c.args.names.now (map (λ tokens. tokens.0) c.args.amounts.now) (length c.names.yielded) _ c.in-Some.name.now
    c.in-Some.tokens.now.0 c.args.text.now.items c.names.text.items c.put_amount.new.text.items
    (one_longer c.names.yielded (c.in-Some.name, c.in-Some.tokens)) at.0 (omega (arith, at.1, length-map c.args.amounts.now (λ tokens. tokens.0))) at.2
    (value_at (λ tokens. tokens.0) c.args.amounts.now (length c.names.yielded) c.in-Some.tokens.now at.1 at.3) c.names.invariant c.in_ok-put_amount.ensures
