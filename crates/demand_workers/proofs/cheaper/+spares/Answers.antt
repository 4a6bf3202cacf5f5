use Rattle.demand_workers.proofs.Surveying.{none_between}
use Rattle.demand_workers.proofs.cheaper.+spares.Goals as goal

-- where none did
pub returns-then-cheaper : goal.returns-then-cheaper
returns-then-cheaper t c _ =
    none_between c.args.places.now c.args.before.now c.args.after.now c.args.cheaper.first c.args.cheaper.past c.requires.within c.if-cheaper.true
    c.requires.before c.requires.after
