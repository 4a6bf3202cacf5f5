use Rattle.row_region.proofs.Calls.{takes}
use Rattle.row_region.proofs.region.Region.take.Goals as goal

pub invariant_of-self : goal.invariant_of-self
invariant_of-self g c =
    (takes c.self.inside c.args.self.now c.index-id.result.now c.index_mut.result.now c.as_mut_slice.result.now c.refill.new.row c.self.invariant c.self.view_is
    c.requires c.index-id.ensures c.index_mut.ensures.value c.as_mut_slice.ensures.value c.refill.ensures).kept

pub returns-clause-was_spare : goal.returns-clause-was_spare
returns-clause-was_spare g c =
    (takes c.self.inside c.args.self.now c.index-id.result.now c.index_mut.result.now c.as_mut_slice.result.now c.refill.new.row c.self.invariant c.self.view_is
    c.requires c.index-id.ensures c.index_mut.ensures.value c.as_mut_slice.ensures.value c.refill.ensures).was_spare

pub returns-clause-filled : goal.returns-clause-filled
returns-clause-filled g c =
    (takes c.self.inside c.args.self.now c.index-id.result.now c.index_mut.result.now c.as_mut_slice.result.now c.refill.new.row c.self.invariant c.self.view_is
    c.requires c.index-id.ensures c.index_mut.ensures.value c.as_mut_slice.ensures.value c.refill.ensures).filled

pub returns-clause-spare : goal.returns-clause-spare
returns-clause-spare g c =
    (takes c.self.inside c.args.self.now c.index-id.result.now c.index_mut.result.now c.as_mut_slice.result.now c.refill.new.row c.self.invariant c.self.view_is
    c.requires c.index-id.ensures c.index_mut.ensures.value c.as_mut_slice.ensures.value c.refill.ensures).spare
