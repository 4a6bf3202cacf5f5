use Rattle.std.proofs.Common.{◌≡◌, take}
use Rattle.preference_desk.specs.Journals.{sessions_of}
use Rattle.published_market.proofs.order.order_of.Given as goal

abbrev pub invariant-entries : goal.invariant-entries
invariant-entries l = l.order.items ≡ sessions_of (take l.entry-index l.journal)
