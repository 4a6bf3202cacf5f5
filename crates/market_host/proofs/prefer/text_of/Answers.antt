use Rattle.std.proofs.Common.{map, subst, sym}
use Rattle.std.specs.Prelude.{All}
use Rattle.std.proofs.lemmas.Result.{IfOk-weaker}
use Rattle.preference_desk.specs.Shared.{entry_of_step}
use Rattle.preference_text.specs.Texts.{HasShortCommand}
use Rattle.market_host.proofs.StreamFacts.{short_entries}
use Rattle.market_host.proofs.prefer.text_of.Goals as goal

pub preferences_text-requires-clause-short : goal.preferences_text-requires-clause-short
preferences_text-requires-clause-short g c =
    subst (All HasShortCommand) (sym c.in_ok-closed.ensures.entries)
    (short_entries c.requires.said.0 c.args.streams.now.lists.items _ c.requires.said.1 (rw c.deref.ensures.value at c.in_ok-closed.ensures.merges))

pub returns : goal.returns
returns g c =
    IfOk-weaker c.preferences_text.result _ _
    (λ text is. (
      map entry_of_step c.in_ok-closed.closed.journal,
      c.in_ok-closed.ensures.legal,
      (rw c.deref.ensures.value at c.in_ok-closed.ensures.merges),
      rw c.in_ok-closed.ensures.entries at is,
    ))
    c.preferences_text.ensures
