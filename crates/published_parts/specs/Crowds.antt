-- The crowd of a market.
use Rattle.std.specs.Prelude.{ℕ, List}
use Rattle.demand_api.specs.Crowds.{CrowdData}
use Rattle.market_crowd.specs.Crowds.{IsCrowdOf}
use Rattle.preference_desk.specs.declared.entry.Entry.{Entry}
use Rattle.utility_language.specs.declared.commands.Command.{Command}
use Rattle.published_parts.specs.Markets.{Market, names_in}
use Rattle.published_parts.specs.Journals.{IsJournalOf, wanted_in}

-- the crowd of a market after a journal
abbrev pub IsCrowdIn : Market → List Entry → CrowdData → Type 0
IsCrowdIn market journal crowd =
    IsCrowdOf market.catalog.sections market.roll.students (wanted_in market journal)
    market.settings.seed market.settings.spread crowd

-- the crowd of a market where the sessions say these streams and their commands are taken in this
-- order: the order has a journal, which merges the streams, and the crowd is the one after it
pub record IsCrowdAfter (market : Market) (streams : List (List Command)) (order : List ℕ)
    (crowd : CrowdData) : Type 0 where
  pub journal : List Entry
  pub is_journal : IsJournalOf (names_in market) streams order journal
  pub is_crowd : IsCrowdIn market journal crowd
