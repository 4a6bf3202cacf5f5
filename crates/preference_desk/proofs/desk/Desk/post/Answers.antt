use Rattle.std.proofs.Common.{arith, ◌∙◌}
use Rattle.preference_desk.specs.DeskView.{names_of, state_of, entries_of}
use Rattle.preference_desk.specs.DeskStep.{state_in}
use Rattle.preference_desk.specs.Entries.{entry_of}
use Rattle.preference_desk.specs.PreferencesView.{preferences_of}
use Rattle.preference_desk.proofs.JournalLemmas.{one_step_more, step_rows}
use Rattle.preference_desk.proofs.desk.Desk.post.Goals as goal

pub invariant_of-self : goal.invariant_of-self
invariant_of-self c =
    let desk = c.args.self.now in
    let new = state_in (preferences_of c.carry_out-reply.new.preferences) c.carry_out-reply.new.closed in
    record {
      rows = step_rows (names_of desk) (state_of desk) new c.args.command c.carry_out-reply.ensures.state ∙ desk.rows;
      told =
          one_step_more (names_of desk) (state_of desk) new (entries_of desk) _ (entry_of c.args.session c.args.command c.carry_out-reply.result) desk.told
          c.carry_out-reply.ensures.reply c.carry_out-reply.ensures.state c.push_reserved.ensures.items;
      taken = omega (arith, c.push_reserved.ensures.len, c.requires);
      reserved = omega (arith, c.push_reserved.ensures.capacity, desk.reserved);
    }
