-- A market that was held in some order, and its summary.
use Rattle.std.specs.Prelude.{ℕ, ◌≡◌, List}
use Rattle.demand_api.specs.Crowds.{CrowdData}
use Rattle.market_certificate.specs.Publications.{Publication}
use Rattle.market_run.specs.Summaries.{summary_text}
use Rattle.preference_desk.specs.declared.entry.Entry.{Entry}
use Rattle.published_market.specs.Publishing.{IsPublicationOf, Lengths}
use Rattle.published_parts.specs.Crowds.{IsCrowdIn}
use Rattle.published_parts.specs.Journals.{IsJournalOf}
use Rattle.published_parts.specs.Markets.{Market, names_in}
use Rattle.utility_language.specs.declared.commands.Command.{Command}

-- the summary of what is published of a market where the sessions say these streams and their
-- commands are taken in this order
abbrev pub IsSummaryText : Market → List (List Command) → List ℕ → List ℕ → Type 0
IsSummaryText market streams order text =
    (journal : List Entry) × IsJournalOf (names_in market) streams order journal
    × (crowd : CrowdData) × IsCrowdIn market journal crowd
    × (lengths : Lengths) × (p : Publication) × IsPublicationOf market journal lengths p
    × (text ≡ summary_text crowd lengths p)
