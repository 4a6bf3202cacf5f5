use Rattle.std.proofs.Common.{◌≡◌, sym, subst}
use Rattle.bundle_rules.specs.Bundles.{sections_of}
use Rattle.price_board.specs.declared.terms.Terms.{Terms}
use Rattle.price_board.specs.Terms.{demand_at}
use Rattle.demand_workers.proofs.worker.RoundWorkerWorkerRoundTasksDrawn.answer.Goals as goal

pub returns-clause-right : goal.returns-clause-right
returns-clause-right g c =
    subst (λ (t : Terms). sections_of c.taken_at.result ≡ demand_at t c.args.drawn.task) (sym c.args.self.now.asked) c.taken_at.ensures.taken
