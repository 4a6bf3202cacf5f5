use Rattle.std.proofs.Common.{◌<◌, sym, subst}
use Rattle.std.specs.Prelude.{All}
use Rattle.dropadd_desk.specs.HallView.{market_of}
use Rattle.dropadd_desk.specs.Market.{student_count}
use Rattle.dropadd_desk.proofs.desk.HallDesk.waiting.Goals as goal
use Rattle.market_units.proofs.Memberships.{all_within}

pub returns-clause-students : goal.returns-clause-students
returns-clause-students c =
    subst (λ l. All (λ i. i < student_count (market_of c.args.self.now)) l) (sym c.items.ensures)
    (all_within (student_count (market_of c.args.self.now)) _ (c.args.self.now.hall.queues c.from.result).within)
