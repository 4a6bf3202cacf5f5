use Rattle.std.proofs.Common.{◌≡◌, ◌++◌, take}
use Rattle.preference_text.specs.Texts.{journal_text}
use Rattle.preference_text.proofs.journal.put_journal.Given as goal

abbrev pub invariant-entries : goal.invariant-entries
invariant-entries l = l.text.items ≡ l.initial.text.items ++ journal_text (take l.entry-index l.journal)
