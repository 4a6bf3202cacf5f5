use Rattle.std.proofs.Common.{◌≡◌, ◌*◌, pos, length, get_or, length-set, arith}
use Rattle.std.proofs.lemmas.Int.{ints}
use Rattle.std.proofs.lemmas.Nat.{mul-add-lt}
use Rattle.plain_facts.proofs.Lists.{first_rest}
use Rattle.bundle_rules.specs.Menus.{IsPair}
use Rattle.bundle_rules.proofs.Tables.{put_next}
use Rattle.bundle_rules.proofs.rows.+fill.Goals as goal

pub bounds-table-from-in-len1-up : goal.bounds-table-from-in-len1-up
bounds-table-from-in-len1-up t c =
    let is : IsPair c.args.pairs.now.places (get_or c.args.pairs.now.list.now 0 (0, 0, pos 0)) = c.args.pairs.now.each 0 (0, 0, pos 0) (omega arith) in
    let ordered = is.ordered in
    let on_menu = is.on_menu in
    let size : length c.fill.new.table ≡ c.args.pairs.now.places * c.args.pairs.now.places = c.fill.ensures.size in
    let in_table =
    mul-add-lt c.from-in-len1-up-2.result c.args.pairs.now.places c.from-in-len1-up-3.result c.args.pairs.now.places
    (omega (arith, c.from-in-len1-up-2.ensures))
    (omega (arith, c.from-in-len1-up-3.ensures)) in
    rw (length-set, size) in_table

pub returns-in-len1-up : goal.returns-in-len1-up
returns-in-len1-up t c =
    let is : IsPair c.args.pairs.now.places (get_or c.args.pairs.now.list.now 0 (0, 0, pos 0)) = c.args.pairs.now.each 0 (0, 0, pos 0) (omega arith) in
    let low = is.low in
    let high = is.high in
    put_next c.args.pairs.now.places c.args.pairs.now.list.now _ (get_or c.args.pairs.now.list.now 0 (0, 0, pos 0)) c.fill.new.table c.from.result
    c.from-in-len1-up.result
    c.from-in-len1-up-3.result c.from-in-len1-up-2.result _
    (first_rest c.args.pairs.now.list.now (0, 0, pos 0) c.in-len1-up.len_at_least) is c.fill.ensures c.from.ensures c.from-in-len1-up.ensures
    c.from-in-len1-up-2.ensures
    c.from-in-len1-up-3.ensures (omega (arith, ints))
