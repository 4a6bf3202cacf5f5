use Rattle.std.proofs.Common.{arith}
use Rattle.row_region.proofs.Calls.{gives}
use Rattle.row_region.proofs.region.Region.give.Goals as goal

pub index_mut-requires : goal.index_mut-requires
index_mut-requires g c =
    let h = gives c.self.inside c.args.self.now c.args.id.0 c.self.invariant c.self.view_is c.requires in omega (arith, h.room, c.self.inside.spare_ids.ok.0)

pub invariant_of-self : goal.invariant_of-self
invariant_of-self g c = (gives c.self.inside c.args.self.now c.args.id.0 c.self.invariant c.self.view_is c.requires).kept

pub returns-clause-given : goal.returns-clause-given
returns-clause-given g c = (gives c.self.inside c.args.self.now c.args.id.0 c.self.invariant c.self.view_is c.requires).back

pub returns-clause-spare : goal.returns-clause-spare
returns-clause-spare g c = (gives c.self.inside c.args.self.now c.args.id.0 c.self.invariant c.self.view_is c.requires).spare
