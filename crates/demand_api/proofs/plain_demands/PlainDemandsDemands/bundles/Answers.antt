use Rattle.std.specs.Arc.{arc_value}
use Rattle.demand_api.proofs.Parts.{students_length}
use Rattle.demand_api.proofs.plain_demands.PlainDemandsDemands.bundles.Goals as goal

pub bundles-requires : goal.bundles-requires
bundles-requires g c = rw (c.deref-crowd.ensures, ← students_length (arc_value c.args.self.now.crowd)) c.requires.range
