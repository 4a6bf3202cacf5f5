use Rattle.std.proofs.Common.{◌≤◌, ◌+◌, ◌-◌, ◌∙◌, ap, sym, arith, length, take}
use Rattle.std.specs.List.{remove_range}
use Rattle.dropadd_desk.proofs.CloseUp.{closed_up}
use Rattle.dropadd_desk.proofs.FrontRows.{fronts_length, lists_written, live_written, row_of, shown_at}
use Rattle.dropadd_desk.proofs.lists.WaitingLists.take_out.Goals as goal

pub index-front-requires : goal.index-front-requires
index-front-requires c =
    omega (
      arith,
      ap (λ l. length l.lists) c.self.view_is,
      fronts_length c.self.inside.region.live c.self.inside.fronts.items,
      c.self.inside.fronts.ok.0,
      c.requires.list,
    )

pub row_mut-row-requires : goal.row_mut-row-requires
row_mut-row-requires c =
    (shown_at c.self.inside.region c.self.inside.fronts.items c.args.self.now c.args.list c.index-front.result.now c.self.view_is c.requires.list
    c.index-front.ensures c.self.invariant.live).live

pub copy_within-requires-clause-start_le_end : goal.copy_within-requires-clause-start_le_end
copy_within-requires-clause-start_le_end c =
    let at =
    shown_at c.self.inside.region c.self.inside.fronts.items c.args.self.now c.args.list c.index-front.result.now c.self.view_is c.requires.list
    c.index-front.ensures c.self.invariant.live in
    let row =
    row_of c.self.inside.region c.self.inside.fronts.items c.args.self.now c.args.list c.index-front.result.now c.row_mut-row.result.now at
    c.row_mut-row.ensures.row c.row_mut-row.ensures.width in
    omega (arith, row.size, c.requires.within, c.from.ensures)

pub copy_within-requires-clause-in_bounds : goal.copy_within-requires-clause-in_bounds
copy_within-requires-clause-in_bounds c =
    let at =
    shown_at c.self.inside.region c.self.inside.fronts.items c.args.self.now c.args.list c.index-front.result.now c.self.view_is c.requires.list
    c.index-front.ensures c.self.invariant.live in
    let row =
    row_of c.self.inside.region c.self.inside.fronts.items c.args.self.now c.args.list c.index-front.result.now c.row_mut-row.result.now at
    c.row_mut-row.ensures.row c.row_mut-row.ensures.width in
    omega (arith, row.inside, c.from.ensures)

pub copy_within-requires-clause-dest_in_bounds : goal.copy_within-requires-clause-dest_in_bounds
copy_within-requires-clause-dest_in_bounds c =
    let at =
    shown_at c.self.inside.region c.self.inside.fronts.items c.args.self.now c.args.list c.index-front.result.now c.self.view_is c.requires.list
    c.index-front.ensures c.self.invariant.live in
    let row =
    row_of c.self.inside.region c.self.inside.fronts.items c.args.self.now c.args.list c.index-front.result.now c.row_mut-row.result.now at
    c.row_mut-row.ensures.row c.row_mut-row.ensures.width in
    let fits : c.args.start + (c.from.result - c.args.end) ≤ length c.row_mut-row.result.now =
    omega (arith, row.size, row.inside, c.requires.order, c.requires.within, c.from.ensures) in
    fits

pub overflow_cast-end : goal.overflow_cast-end
overflow_cast-end c =
    let at =
    shown_at c.self.inside.region c.self.inside.fronts.items c.args.self.now c.args.list c.index-front.result.now c.self.view_is c.requires.list
    c.index-front.ensures c.self.invariant.live in
    let row =
    row_of c.self.inside.region c.self.inside.fronts.items c.args.self.now c.args.list c.index-front.result.now c.row_mut-row.result.now at
    c.row_mut-row.ensures.row c.row_mut-row.ensures.width in
    omega (arith, row.size, at.wide, c.requires.within, c.self.invariant.wide)

pub overflow_sub-front : goal.overflow_sub-front
overflow_sub-front c =
    let at =
    shown_at c.self.inside.region c.self.inside.fronts.items c.args.self.now c.args.list c.index-front.result.now c.self.view_is c.requires.list
    c.index-front.ensures c.self.invariant.live in
    let row =
    row_of c.self.inside.region c.self.inside.fronts.items c.args.self.now c.args.list c.index-front.result.now c.row_mut-row.result.now at
    c.row_mut-row.ensures.row c.row_mut-row.ensures.width in
    omega (arith, row.size, c.requires.within)

pub index_mut-requires : goal.index_mut-requires
index_mut-requires c =
    omega (
      arith,
      ap (λ l. length l.lists) c.self.view_is,
      fronts_length c.self.inside.region.live c.self.inside.fronts.items,
      c.self.inside.fronts.ok.0,
      c.requires.list,
    )

pub invariant_of-self : goal.invariant_of-self
invariant_of-self c =
    let at =
    shown_at c.self.inside.region c.self.inside.fronts.items c.args.self.now c.args.list c.index-front.result.now c.self.view_is c.requires.list
    c.index-front.ensures c.self.invariant.live in
    record {
      wide = c.self.invariant.wide;
      live =
          live_written c.self.inside.region c.self.inside.fronts.items c.args.list (c.index-front.result.now.len - (c.args.end - c.args.start))
          c.index-front.result.now _ at.there (omega (arith, at.wide)) c.self.invariant.live;
    }

pub returns : goal.returns
returns c =
    let at =
    shown_at c.self.inside.region c.self.inside.fronts.items c.args.self.now c.args.list c.index-front.result.now c.self.view_is c.requires.list
    c.index-front.ensures c.self.invariant.live in
    let row =
    row_of c.self.inside.region c.self.inside.fronts.items c.args.self.now c.args.list c.index-front.result.now c.row_mut-row.result.now at
    c.row_mut-row.ensures.row c.row_mut-row.ensures.width in
    let end : c.args.end ≤ c.from.result = omega (arith, row.size, c.requires.within, c.from.ensures) in
    let inside : c.from.result ≤ length c.row_mut-row.result.now = omega (arith, row.inside, c.from.ensures) in
    lists_written c.self.inside.region c.self.inside.fronts.items c.args.self.now c.args.list (c.index-front.result.now.len - (c.args.end - c.args.start))
    c.index-front.result.now c.row_mut-row.result.now c.copy_within.new.self _ c.self.view_is at.there c.self.invariant.live
    c.copy_within.ensures.len
    (ap (λ n. take (n - (c.args.end - c.args.start)) c.copy_within.new.self) (sym c.from.ensures)
    ∙ ap (λ l. take (c.from.result - (c.args.end - c.args.start)) l) c.copy_within.ensures.after
    ∙ closed_up c.row_mut-row.result.now c.args.start c.args.end c.from.result c.requires.order end inside
    ∙ ap (λ n. remove_range (take n c.row_mut-row.result.now) c.args.start c.args.end) c.from.ensures
    ∙ ap (λ l. remove_range l c.args.start c.args.end) (sym row.list))
