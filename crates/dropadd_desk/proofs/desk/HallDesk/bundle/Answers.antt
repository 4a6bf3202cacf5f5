use Rattle.std.proofs.Common.{◌<◌, ◌∙◌, ap, sym, subst}
use Rattle.market_units.specs.Members.{has}
use Rattle.dropadd_desk.specs.HallView.{market_of, state_of}
use Rattle.dropadd_desk.proofs.BundleParts.{sections_at}
use Rattle.dropadd_desk.proofs.Steps.{within_at}
use Rattle.dropadd_desk.proofs.desk.HallDesk.bundle.Goals as goal

pub returns-clause-within : goal.returns-clause-within
returns-clause-within c = λ s there.
    within_at (market_of c.args.self.now) (state_of c.args.self.now) c.args.student.0 s c.args.self.now.hall
    (ap (λ l. has l s)
    (sym
    (sections_at c.args.self.now.floor.held.items c.args.student.0 c.from.result c.index.result.now c.from.ensures
    (subst (λ n. c.args.student.0 < n) (sym c.args.self.now.hall.each_student) c.requires) c.index.ensures))
    ∙ there)
