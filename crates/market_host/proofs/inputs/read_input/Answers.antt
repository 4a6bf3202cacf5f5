use Rattle.std.proofs.Common.{refl}
use Rattle.market_host.proofs.TraceFacts.{until_fault, until_no_room, until_too_long}
use Rattle.market_host.proofs.inputs.read_input.Goals as goal

pub returns-in-Ok : goal.returns-in-Ok
returns-in-Ok g c =
    let said = c.in-Ok.ensures in
    record {
      whole = said.whole;
      within = said.within;
      ended = (said.served, said.end);
      used = (said.uncounted (λ is. cc), said.read_out);
      kept = record { holds = said.holds; later = said.later };
    }

pub returns-in-Err-ShelfFault : goal.returns-in-Err-ShelfFault
returns-in-Err-ShelfFault g c =
    let said = c.in-Err-ShelfFault.ensures in
    record {
      unread = (refl, (said.shelf_fault cc, said.at_most (λ is. cc)));
      used =
          until_fault g.H.Shelf c.args.shelf.now c.read_whole.new.shelf c.args.name.now c.args.input (g.H.Shelf.shows c.read_whole.new.shelf).is_begun
          said.begun_at_most;
      kept = record { holds = said.holds; later = said.later };
    }

pub returns-in-Err-TooLong : goal.returns-in-Err-TooLong
returns-in-Err-TooLong g c =
    let said = c.in-Err-TooLong.ensures in
    record {
      unread = (refl, said.too_long cc);
      used =
          until_too_long g.H.Shelf c.args.shelf.now c.read_whole.new.shelf c.args.name.now c.args.input (g.H.Shelf.shows c.read_whole.new.shelf).is_begun
          (said.uncounted (λ is. cc)) (said.begun (λ is. cc)) said.begun_at_most;
      kept = record { holds = said.holds; later = said.later };
    }

pub returns-in-Err-NoMemory : goal.returns-in-Err-NoMemory
returns-in-Err-NoMemory g c =
    let said = c.in-Err-NoMemory.ensures in
    record {
      unread = tt;
      used =
          until_no_room g.H.Shelf c.args.shelf.now c.read_whole.new.shelf c.args.name.now c.args.input (g.H.Shelf.shows c.read_whole.new.shelf).is_begun
          (said.uncounted (λ is. cc)) said.begun_at_most;
      kept = record { holds = said.holds; later = said.later };
    }
