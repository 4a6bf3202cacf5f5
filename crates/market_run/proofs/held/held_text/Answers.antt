use Rattle.std.proofs.Common.{map}
use Rattle.preference_desk.specs.DeskView.{entries_of}
use Rattle.preference_desk.specs.Shared.{entry_of_step}
use Rattle.published_parts.specs.Views.{market_in}
use Rattle.session_hall.specs.Streams.{command_lists}
use Rattle.market_run.proofs.HeldFacts.{sessions_held, text_held}
use Rattle.market_run.proofs.held.held_text.Goals as goal

pub invariant_of-heard : goal.invariant_of-heard
invariant_of-heard g c = record {
  names = c.in_ok-closed.ensures.names;
  sessions =
      sessions_held c.args.streams.now (entries_of c.in_ok-closed.closed.desk) (map entry_of_step c.in_ok-closed.closed.journal)
      c.in_ok-closed.ensures.entries c.in_ok-closed.ensures.merges c.requires.sessions.1;
}

pub returns-in-Ok-clause-text : goal.returns-in-Ok-clause-text
returns-in-Ok-clause-text g c =
    text_held (market_in c.args.market.now) (command_lists c.args.streams.now) (entries_of c.in_ok-closed.closed.desk)
    (map entry_of_step c.in_ok-closed.closed.journal) _ c.in_ok-closed.ensures.entries
    c.in_ok-closed.ensures.legal c.in_ok-closed.ensures.merges c.in-Ok.ensures.text
