use Rattle.std.proofs.Common.{◌≡◌, ◌≤◌, ◌∙◌, ap, sym, arith, length, take}
use Rattle.std.proofs.lemmas.List.{length-take-le}
use Rattle.row_region.specs.Rows.{cells_of}
use Rattle.dropadd_desk.proofs.FrontRows.{fronts_length, shown_at}
use Rattle.dropadd_desk.proofs.lists.WaitingLists.items.Goals as goal

pub index-front-requires : goal.index-front-requires
index-front-requires c =
    omega (
      arith,
      ap (λ l. length l.lists) c.self.view_is,
      fronts_length c.self.inside.region.live c.self.inside.fronts.items,
      c.self.inside.fronts.ok.0,
      c.requires,
    )

pub row-requires : goal.row-requires
row-requires c =
    (shown_at c.self.inside.region c.self.inside.fronts.items c.args.self.now c.args.list c.index-front.result.now c.self.view_is c.requires
    c.index-front.ensures c.self.invariant.live).live

pub slice_bounds-result-end : goal.slice_bounds-result-end
slice_bounds-result-end c =
    let at =
    shown_at c.self.inside.region c.self.inside.fronts.items c.args.self.now c.args.list c.index-front.result.now c.self.view_is c.requires
    c.index-front.ensures c.self.invariant.live in
    let wide : c.index-front.result.now.len ≤ c.self.inside.region.width = at.wide in
    let row : length c.row.result.now ≡ c.self.inside.region.width = c.row.ensures.width in
    sym (length-take-le c.from.result c.row.result.now (omega (arith, wide, row, c.from.ensures)))

pub returns : goal.returns
returns c =
    let at =
    shown_at c.self.inside.region c.self.inside.fronts.items c.args.self.now c.args.list c.index-front.result.now c.self.view_is c.requires
    c.index-front.ensures c.self.invariant.live in
    ap (λ n. take n c.row.result.now) c.from.ensures ∙ ap (λ row. take c.index-front.result.now.len (cells_of row)) (sym c.row.ensures.row) ∙ sym at.list
