use Rattle.std.proofs.Common.{◌≡◌, ◌+◌, length, take}
use Rattle.preference_desk.specs.DeskView.{names_of, commands_left, state_of}
use Rattle.preference_desk.specs.MarketNames.{market_names}
use Rattle.market_host.specs.Quotes.{state_of_new_desk}
use Rattle.market_host.proofs.quote.desk_after.Given as goal

abbrev pub invariant-commands : goal.invariant-commands
invariant-commands l = record {
  names : names_of l.desk ≡ market_names l.catalog.sections l.roll.students;
  room : commands_left l.desk + l.command-index ≡ length l.commands;
  state : state_of l.desk ≡ state_of_new_desk l.catalog.sections l.roll.students (take l.command-index l.commands);
}
