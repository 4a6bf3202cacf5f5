use Rattle.std.proofs.Common.{◌∙◌, ap, length, arith}
use Rattle.row_region.proofs.Calls.{shows, within_rows}
use Rattle.row_region.proofs.region.Region.row.Goals as goal

pub index-requires : goal.index-requires
index-requires g c = omega (arith, within_rows c.self.inside c.args.self.now c.args.id.0 c.self.view_is c.requires, c.self.inside.rows.ok.0)

pub returns-clause-row : goal.returns-clause-row
returns-clause-row g c =
    rw c.as_slice.ensures.value
    (shows c.self.inside c.args.self.now c.args.id.0 c.index.result.now c.self.invariant c.self.view_is c.requires c.index.ensures).row_is

pub returns-clause-width : goal.returns-clause-width
returns-clause-width g c =
    ap length c.as_slice.ensures.value
    ∙ (shows c.self.inside c.args.self.now c.args.id.0 c.index.result.now c.self.invariant c.self.view_is c.requires c.index.ensures).width_is
