use Rattle.std.proofs.Common.{◌∙◌, ap, sym}
use Rattle.dropadd_desk.specs.HallView.{market_of, state_of}
use Rattle.dropadd_desk.specs.Step.{step}
use Rattle.dropadd_desk.proofs.DeskLemmas.{unreadable_is}
use Rattle.dropadd_desk.proofs.desk.HallDesk.take.Goals as goal

pub returns-in-Add-clause-taken : goal.returns-in-Add-clause-taken
returns-in-Add-clause-taken c = c.add.ensures.outcome ∙ ap (step (market_of c.args.self.now) (state_of c.args.self.now)) (sym c.in-Add.is)

pub returns-in-Drop-clause-taken : goal.returns-in-Drop-clause-taken
returns-in-Drop-clause-taken c = c.give_up.ensures.outcome ∙ ap (step (market_of c.args.self.now) (state_of c.args.self.now)) (sym c.in-Drop.is)

pub returns-in-Leave-clause-taken : goal.returns-in-Leave-clause-taken
returns-in-Leave-clause-taken c = c.leave.ensures.outcome ∙ ap (step (market_of c.args.self.now) (state_of c.args.self.now)) (sym c.in-Leave.is)

pub returns-in-Unreadable-clause-taken : goal.returns-in-Unreadable-clause-taken
returns-in-Unreadable-clause-taken c =
    unreadable_is (market_of c.args.self.now) (state_of c.args.self.now)
    ∙ ap (step (market_of c.args.self.now) (state_of c.args.self.now)) (sym c.in-Unreadable.is)
