use Rattle.std.proofs.Common.{ℕ, ◌≡◌, ◌≤◌, ◌∙◌, arith}
use Rattle.preference_desk.specs.DeskView.{commands_left}
use Rattle.preference_desk.specs.MarketNames.{market_names}
use Rattle.session_hall.specs.Streams.{command_count}
use Rattle.session_hall.proofs.Merging.{entries_merge, entries_are_steps, steps_are_legal}
use Rattle.session_hall.proofs.hall.hold.Goals as goal

pub post_streams-requires-clause-room : goal.post_streams-requires-clause-room
post_streams-requires-clause-room g c κs within =
    let commands : ℕ = command_count c.args.streams.now in
    let room : ℕ = commands_left c.in_ok-desk.desk in
    let taken : room ≡ commands = c.in_ok-desk.ensures.room ∙ c.count_commands-lines.ensures in
    let goal : commands ≤ room = omega arith in goal

pub returns-clause-entries : goal.returns-clause-entries
returns-clause-entries g c =
    entries_are_steps _ _ _ c.in_ok-desk-2.journal c.in_ok-desk-2.ensures.legal c.in_ok-desk-2.ensures.state c.in_ok-desk.ensures.entries

pub returns-clause-legal : goal.returns-clause-legal
returns-clause-legal g c =
    steps_are_legal (market_names c.args.catalog.now.sections c.args.roll.now.students) _ _ c.in_ok-desk-2.journal c.in_ok-desk-2.ensures.legal
    c.in_ok-desk.ensures.names c.in_ok-desk.ensures.state

pub returns-clause-merges : goal.returns-clause-merges
returns-clause-merges g c = entries_merge c.args.streams.now c.in_ok-desk-2.journal c.in_ok-desk-2.ensures.merges
