use Rattle.std.proofs.Common.{List, subst}
use Rattle.std.specs.Prelude.{All, IsTrue}
use Rattle.market_certificate.specs.Publications.{IsSession}
use Rattle.preference_desk.specs.declared.entry.Entry.{Entry}
use Rattle.text_tests.proofs.tests.desks.has_sessions.Goals as goal

pub returns : goal.returns
returns c =
    subst (λ (journal : List Entry). IsTrue c.are_sessions.result → All (λ (entry : Entry). IsSession entry.session) journal) c.journal.ensures.entries
    c.are_sessions.ensures.0
