use Rattle.std.proofs.Common.{◌∙◌, ap, length, refl, sym, arith}
use Rattle.row_region.specs.Rows.{with_row, rewritten}
use Rattle.row_region.proofs.Calls.{shows, writes, within_rows}
use Rattle.row_region.proofs.region.Region.row_mut.Goals as goal

pub index_mut-requires : goal.index_mut-requires
index_mut-requires g c = omega (arith, within_rows c.self.inside c.args.self.now c.args.id.0 c.self.view_is c.requires, c.self.inside.rows.ok.0)

pub invariant_of-self-lent : goal.invariant_of-self-lent
invariant_of-self-lent g c =
    λ w. (writes c.self.inside c.args.self.now c.args.id.0 c.index_mut.result.now w c.self.invariant c.self.view_is c.requires c.index_mut.ensures.value).kept

pub returns : goal.returns
returns g c =
    let shown = shows c.self.inside c.args.self.now c.args.id.0 c.index_mut.result.now c.self.invariant c.self.view_is c.requires c.index_mut.ensures.value in (
      (
        refl,
        λ w. (writes c.self.inside c.args.self.now c.args.id.0 c.index_mut.result.now w c.self.invariant c.self.view_is c.requires
            c.index_mut.ensures.value).back
            ∙ ap (λ row. with_row c.args.self.now c.args.id.0 (rewritten row w)) (sym c.as_mut_slice.ensures.value),
      ),
      record {
        writes_back = tt;
        row = rw c.as_mut_slice.ensures.value shown.row_is;
        width = ap length c.as_mut_slice.ensures.value ∙ shown.width_is;
      },
    )
