use Rattle.std.proofs.Common.{◌≡◌, ◌∙◌, ap, sym, subst}
use Rattle.std.specs.Prelude.{IfSome}
use Rattle.demand_api.specs.Crowds.{CrowdData}
use Rattle.demand_api.specs.Views.{data_of}
use Rattle.price_board.specs.declared.terms.Terms.{Terms}
use Rattle.price_board.specs.Seats.{RoundBoard}
use Rattle.demand_workers.specs.Notes.{IsNoted}
use Rattle.demand_workers.proofs.asker.round.work_and_close.Goals as goal

pub returns-clause-noted : goal.returns-clause-noted
returns-clause-noted g c =
    let worker = c.work_all.new.worker in
    let same : data_of worker.lent.now.crowd.now ≡ data_of c.args.lent.now.crowd.now =
    ap (λ (t : Terms). t.crowd) (sym worker.asked ∙ ap (λ (b : RoundBoard). b.base) c.work_all.ensures.board ∙ c.requires.board) in
    subst (λ (w : CrowdData). IfSome worker.left (IsNoted w)) same worker.noted
