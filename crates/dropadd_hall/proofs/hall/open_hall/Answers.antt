use Rattle.dropadd_desk.specs.HallView.{market_of, state_of}
use Rattle.dropadd_desk.proofs.InRange.{replies_in_range}
use Rattle.dropadd_hall.proofs.hall.open_hall.Goals as goal

pub returns-clause-named : goal.returns-clause-named
returns-clause-named g c = replies_in_range (market_of c.args.desk) (state_of c.args.desk) c.in_ok-desk.journal c.args.desk.hall c.in_ok-desk.ensures.legal
