use Rattle.market_certificate.proofs.Places.{no_space}
use Rattle.market_certificate.proofs.reading.cuts.behind_field.Goals as goal

pub returns-in-None-clause-none : goal.returns-in-None-clause-none
returns-in-None-clause-none c = no_space c.args.bytes.now c.args.field.now c.in_ok-rest.rest.now c.in_ok-rest.ensures.some c.in-None.ensures.none
