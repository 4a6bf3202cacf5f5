use Rattle.std.proofs.Common.{length, map, arith, rules}
use Rattle.std.proofs.lemmas.List.{length-map}
use Rattle.bundle_rules.specs.Bundles.{sections_of}
use Rattle.market_units.specs.Name.{name_bytes}
use Rattle.market_certificate.specs.Publications.{IsProved}
use Rattle.market_certificate.specs.Texts.{bundle_line}
use Rattle.market_certificate.specs.Views.{proved_of}
use Rattle.market_certificate.proofs.Joins.{below_names, names_more, one_longer, pair_of_turn, value_at, value_each}
use Rattle.market_certificate.proofs.writing.blocks.put_bundles.Goals as goal

pub put_proved-requires : goal.put_proved-requires
put_proved-requires c =
    let at =
    pair_of_turn c.args.names.now c.args.bundles.now c.names.yielded c.into_iter-name-iterator.result c.names.name-iterator c.next.new.self c.next.result
    c.names.yielded_by (c.in-Some.name, c.in-Some.proved) c.in-Some.is c.next.ensures.steps (search rules) (search rules) in
    let is =
    value_each (IsProved (map name_bytes c.args.sections.now)) proved_of c.args.bundles.now (length c.names.yielded) c.in-Some.proved.now c.requires.each at.1
    at.3 in
    below_names c.args.sections.now (sections_of c.in-Some.proved.now.bundle) is.bundle

pub names-preserved : goal.names-preserved
names-preserved c =
    let at =
    pair_of_turn c.args.names.now c.args.bundles.now c.names.yielded c.into_iter-name-iterator.result c.names.name-iterator c.next.new.self c.next.result
    c.names.yielded_by (c.in-Some.name, c.in-Some.proved) c.in-Some.is c.next.ensures.steps (search rules) (search rules) in
    names_more (bundle_line (map name_bytes c.args.sections.now)) c.args.names.now (map proved_of c.args.bundles.now) (length c.names.yielded) _
    c.in-Some.name.now (proved_of c.in-Some.proved.now) c.args.text.now.items c.names.text.items c.put_proved.new.text.items
    (one_longer c.names.yielded (c.in-Some.name, c.in-Some.proved)) at.0 (omega (arith, at.1, length-map c.args.bundles.now proved_of)) at.2
    (value_at proved_of c.args.bundles.now (length c.names.yielded) c.in-Some.proved.now at.1 at.3) c.names.invariant c.in_ok-put_proved.ensures
