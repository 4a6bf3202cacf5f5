use Rattle.std.proofs.Common.{◌+◌, sym, ◌∙◌}
use Rattle.std.proofs.lemmas.List.{take_rest}
use Rattle.market_certificate.proofs.Places.{place_found, place_none}
use Rattle.market_certificate.proofs.reading.cuts.cut.Goals as goal

pub returns-in-Some-clause-found : goal.returns-in-Some-clause-found
returns-in-Some-clause-found c =
    rw (take_rest c.args.bytes.now (c.in-Some.end + 1)) (place_found c.args.stop c.args.bytes.now c.in-Some.end (sym c.place_of.ensures ∙ c.in-Some.is)).0

pub returns-in-Some-clause-first : goal.returns-in-Some-clause-first
returns-in-Some-clause-first c = (place_found c.args.stop c.args.bytes.now c.in-Some.end (sym c.place_of.ensures ∙ c.in-Some.is)).1

pub returns-in-None-clause-none : goal.returns-in-None-clause-none
returns-in-None-clause-none c = place_none c.args.stop c.args.bytes.now (sym c.place_of.ensures ∙ c.in-None.is)
