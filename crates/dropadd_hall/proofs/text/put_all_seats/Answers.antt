use Rattle.std.proofs.Common.{◌++◌, ◌∷◌, [], ◌∙◌, arith, ap}
use Rattle.market_units.specs.Name.{name_bytes}
use Rattle.dropadd_desk.specs.HallView.{market_of, state_of}
use Rattle.dropadd_desk.specs.Market.{Market}
use Rattle.dropadd_hall.specs.Texts.{seats_line}
use Rattle.dropadd_hall.proofs.LineJoins.{line_more, seats_put}
use Rattle.dropadd_hall.proofs.text.put_all_seats.Goals as goal

pub sections-preserved : goal.sections-preserved
sections-preserved c =
    let market = market_of c.args.named.now.desk.now in
    let state = state_of c.args.named.now.desk.now in
    line_more (seats_line market state) c.sections.section c.args.text.now.items c.sections.text.items c.put_seats.new.text.items c.sections.invariant
    (c.in_ok-put_seats.ensures
    ∙ ap (λ l. (c.sections.text.items ++ l) ++ 10 ∷ [])
    (seats_put market state c.args.named.now.catalog.now c.sections.section (name_bytes c.name-name.result) c.holders.result c.seats.result (ap (λ (m : Market). m.catalog) c.args.named.now.market)
    (omega arith) c.name-name.ensures c.holders.ensures c.seats.ensures))
