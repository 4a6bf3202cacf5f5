use Rattle.std.proofs.Common.{◌<◌, ◌+◌, ◌∙◌, ap, arith, length, length-set, take}
use Rattle.dropadd_desk.proofs.FrontRows.{fronts_length, item_pushed, lists_written, live_written, row_of, shown_at}
use Rattle.dropadd_desk.proofs.lists.WaitingLists.push.Goals as goal

pub index-front-requires : goal.index-front-requires
index-front-requires c =
    omega (
      arith,
      ap (λ l. length l.lists) c.self.view_is,
      fronts_length c.self.inside.region.live c.self.inside.fronts.items,
      c.self.inside.fronts.ok.0,
      c.requires.list,
    )

pub row_mut-requires : goal.row_mut-requires
row_mut-requires c =
    (shown_at c.self.inside.region c.self.inside.fronts.items c.args.self.now c.args.list c.index-front.result.now c.self.view_is c.requires.list
    c.index-front.ensures c.self.invariant.live).live

pub put-requires : goal.put-requires
put-requires c =
    let at =
    shown_at c.self.inside.region c.self.inside.fronts.items c.args.self.now c.args.list c.index-front.result.now c.self.view_is c.requires.list
    c.index-front.ensures c.self.invariant.live in
    let row =
    row_of c.self.inside.region c.self.inside.fronts.items c.args.self.now c.args.list c.index-front.result.now c.row_mut.result.now at c.row_mut.ensures.row
    c.row_mut.ensures.width in
    let width = ap (λ l. l.width) c.self.view_is in
    omega (arith, row.size, width, c.row_mut.ensures.width, c.requires.room, c.from.ensures)

pub overflow_add-front : goal.overflow_add-front
overflow_add-front c =
    let at =
    shown_at c.self.inside.region c.self.inside.fronts.items c.args.self.now c.args.list c.index-front.result.now c.self.view_is c.requires.list
    c.index-front.ensures c.self.invariant.live in
    let row =
    row_of c.self.inside.region c.self.inside.fronts.items c.args.self.now c.args.list c.index-front.result.now c.row_mut.result.now at c.row_mut.ensures.row
    c.row_mut.ensures.width in
    let width = ap (λ l. l.width) c.self.view_is in
    omega (arith, row.size, width, c.self.invariant.wide, c.requires.room)

pub index_mut-requires : goal.index_mut-requires
index_mut-requires c =
    omega (
      arith,
      ap (λ l. length l.lists) c.self.view_is,
      fronts_length c.self.inside.region.live c.self.inside.fronts.items,
      c.self.inside.fronts.ok.0,
      c.requires.list,
    )

pub invariant_of-self : goal.invariant_of-self
invariant_of-self c =
    let at =
    shown_at c.self.inside.region c.self.inside.fronts.items c.args.self.now c.args.list c.index-front.result.now c.self.view_is c.requires.list
    c.index-front.ensures c.self.invariant.live in
    let row =
    row_of c.self.inside.region c.self.inside.fronts.items c.args.self.now c.args.list c.index-front.result.now c.row_mut.result.now at c.row_mut.ensures.row
    c.row_mut.ensures.width in
    let width = ap (λ l. l.width) c.self.view_is in
    record {
      wide = c.self.invariant.wide;
      live =
          live_written c.self.inside.region c.self.inside.fronts.items c.args.list (c.index-front.result.now.len + 1) c.index-front.result.now _ at.there
          (omega (arith, row.size, width, c.requires.room)) c.self.invariant.live;
    }

pub returns : goal.returns
returns c =
    let at =
    shown_at c.self.inside.region c.self.inside.fronts.items c.args.self.now c.args.list c.index-front.result.now c.self.view_is c.requires.list
    c.index-front.ensures c.self.invariant.live in
    let row =
    row_of c.self.inside.region c.self.inside.fronts.items c.args.self.now c.args.list c.index-front.result.now c.row_mut.result.now at c.row_mut.ensures.row
    c.row_mut.ensures.width in
    let width = ap (λ l. l.width) c.self.view_is in
    let low : c.index-front.result.now.len < length c.row_mut.result.now = omega (arith, row.size, width, c.row_mut.ensures.width, c.requires.room) in
    lists_written c.self.inside.region c.self.inside.fronts.items c.args.self.now c.args.list (c.index-front.result.now.len + 1) c.index-front.result.now
    c.row_mut.result.now c.put.new.cells _ c.self.view_is at.there c.self.invariant.live
    (ap length c.put.ensures ∙ length-set c.row_mut.result.now c.from.result c.args.item)
    (ap (take (c.index-front.result.now.len + 1)) c.put.ensures
    ∙ item_pushed c.row_mut.result.now c.index-front.result.now.len c.from.result c.args.item _ c.from.ensures low row.list)
