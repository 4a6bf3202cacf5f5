use Rattle.std.proofs.Common.{◌<◌, length, get_or, arith}
use Rattle.bundle_rules.specs.Bundles.{sections_of}
use Rattle.plain_facts.proofs.Lists.{first_rest}
use Rattle.bundle_rules.proofs.Naming.{next_is_new, next_named, room_left}
use Rattle.bundle_rules.proofs.Positions.{read_at, read_low}
use Rattle.bundle_rules.proofs.ranked.+named_from.Goals as goal

pub rated-requires : goal.rated-requires
rated-requires t c =
    let low : (get_or c.args.positions.now 0 record { 0 = 0 }).0 < length c.args.ranked.now.menu.now.places = c.requires.on_menu 0 record { 0 = 0 } (omega arith) in
    read_low _ c.args.ranked.now.order.now _ c.from.result c.args.ranked.now.renamed.each_once low c.from.ensures

pub put-requires-clause-room : goal.put-requires-clause-room
put-requires-clause-room t c =
    room_left c.args.ranked.now.order.now c.args.ranked.now.menu.now c.args.ranked.now.rows.now c.len.ensures.menu c.len-2.ensures.menu c.args.ranked.now.renamed
    c.args.positions.now _ _ (sections_of c.named_from.result) (first_rest c.args.positions.now record { 0 = 0 } c.in-len1-up.len_at_least) c.requires.few
    c.named_from.ensures

pub put-requires-clause-other : goal.put-requires-clause-other
put-requires-clause-other t c =
    let low : (get_or c.args.positions.now 0 record { 0 = 0 }).0 < length c.args.ranked.now.menu.now.places = c.requires.on_menu 0 record { 0 = 0 } (omega arith) in
    next_is_new c.args.ranked.now.order.now c.args.ranked.now.menu.now c.args.ranked.now.rows.now c.len.ensures.menu c.len-2.ensures.menu c.args.ranked.now.renamed
    c.args.positions.now _ _ (first_rest c.args.positions.now record { 0 = 0 } c.in-len1-up.len_at_least) c.requires.distinct c.requires.on_menu
    c.rated.result.now _ (read_at _ c.args.ranked.now.order.now _ c.from.result c.args.ranked.now.renamed.each_once low c.from.ensures) c.rated.ensures.value
    (sections_of c.named_from.result) c.named_from.ensures

pub returns-in-len1-up : goal.returns-in-len1-up
returns-in-len1-up t c =
    let low : (get_or c.args.positions.now 0 record { 0 = 0 }).0 < length c.args.ranked.now.menu.now.places = c.requires.on_menu 0 record { 0 = 0 } (omega arith) in
    next_named c.args.ranked.now.order.now c.args.ranked.now.menu.now c.args.ranked.now.rows.now c.len.ensures.menu c.len-2.ensures.menu c.args.ranked.now.renamed
    c.args.positions.now _ _ (first_rest c.args.positions.now record { 0 = 0 } c.in-len1-up.len_at_least) c.requires.distinct c.requires.on_menu
    c.rated.result.now _ (read_at _ c.args.ranked.now.order.now _ c.from.result c.args.ranked.now.renamed.each_once low c.from.ensures) c.rated.ensures.value
    (sections_of c.named_from.result) (sections_of c.put.result) c.named_from.ensures c.put.ensures
