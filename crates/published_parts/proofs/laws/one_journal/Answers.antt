use Rattle.published_parts.proofs.OneJournals.{one_journal}
use Rattle.published_parts.proofs.laws.one_journal.Goals as goal

pub returns : goal.returns
returns c = one_journal
