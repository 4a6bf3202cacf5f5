use Rattle.std.proofs.Common.{map}
use Rattle.std.proofs.lemmas.Result.{IfOk-weaker}
use Rattle.preference_desk.specs.DeskView.{entries_of}
use Rattle.preference_desk.specs.Shared.{entry_of_step}
use Rattle.preference_desk.specs.Journals.{sessions_of}
use Rattle.published_parts.specs.Views.{market_in}
use Rattle.session_hall.specs.Streams.{command_lists}
use Rattle.market_run.proofs.HeldFacts.{sessions_held, summary_held, unpriced_held}
use Rattle.market_run.proofs.held.held_summary.Goals as goal

pub invariant_of-heard : goal.invariant_of-heard
invariant_of-heard g c = record {
  names = c.in_ok-closed.ensures.names;
  sessions =
      sessions_held c.args.streams.now (entries_of c.in_ok-closed.closed.desk) (map entry_of_step c.in_ok-closed.closed.journal)
      c.in_ok-closed.ensures.entries c.in_ok-closed.ensures.merges c.requires.sessions.1;
}

pub returns-clause-text : goal.returns-clause-text
returns-clause-text g c =
    let market = market_in c.args.market.now in
    IfOk-weaker c.made_summary.result _ _
    (λ text is. summary_held market (command_lists c.args.streams.now) (entries_of c.in_ok-closed.closed.desk) (map entry_of_step c.in_ok-closed.closed.journal) text.items c.in_ok-closed.ensures.entries c.in_ok-closed.ensures.legal
    c.in_ok-closed.ensures.merges is)
    c.made_summary.ensures.text

pub returns-clause-no_prices : goal.returns-clause-no_prices
returns-clause-no_prices g c = λ least is.
    let market = market_in c.args.market.now in (
      sessions_of (entries_of c.in_ok-closed.closed.desk),
      unpriced_held market (command_lists c.args.streams.now) (entries_of c.in_ok-closed.closed.desk) (map entry_of_step c.in_ok-closed.closed.journal) least
          c.in_ok-closed.ensures.entries c.in_ok-closed.ensures.legal
          c.in_ok-closed.ensures.merges (c.made_summary.ensures.no_prices least is),
    )
