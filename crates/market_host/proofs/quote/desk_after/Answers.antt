use Rattle.std.proofs.Common.{arith, ◌∙◌}
use Rattle.preference_desk.specs.DeskView.{names_of, state_of}
use Rattle.preference_desk.specs.Journals.{opening}
use Rattle.preference_desk.specs.MarketNames.{market_names}
use Rattle.market_host.proofs.QuoteFacts.{said_next}
use Rattle.market_host.proofs.quote.desk_after.Goals as goal

pub commands-preserved : goal.commands-preserved
commands-preserved c =
    let names = market_names c.args.catalog.now.sections c.args.roll.now.students in
    record {
      names = c.post.ensures.names ∙ c.commands.invariant.names;
      room = omega (arith, c.post.ensures.room, c.commands.invariant.room);
      state =
          said_next names (names_of c.commands.desk) (opening names) (state_of c.commands.desk) (state_of c.post.new.self) c.args.commands.now
          c.commands.command-index _
          (omega arith) c.command-item.is c.commands.invariant.names c.commands.invariant.state c.post.ensures.state;
    }
