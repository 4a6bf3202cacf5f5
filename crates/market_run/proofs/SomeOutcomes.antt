-- What is published of a market is an outcome of its crowd.
use Rattle.std.proofs.Common.{List, subst}
use Rattle.demand_api.specs.Crowds.{CrowdData}
use Rattle.preference_desk.specs.declared.entry.Entry.{Entry}
use Rattle.market_certificate.specs.Publications.{Publication}
use Rattle.published_parts.specs.Crowds.{IsCrowdIn}
use Rattle.published_parts.specs.Journals.{wanted_in}
use Rattle.published_parts.specs.Markets.{Market, seats_in}
use Rattle.published_parts.proofs.OneCrowds.{one_crowd}
use Rattle.published_market.specs.Publishing.{IsOutcome, IsPublicationOf, Lengths}
use Rattle.market_run.specs.Summaries.{IsSomeOutcome}

pub some_outcome : (market : Market) (journal : List Entry) (crowd : CrowdData) (lengths : Lengths) (p : Publication) → IsCrowdIn market journal crowd
    → IsPublicationOf market journal lengths p → IsSomeOutcome crowd lengths p
some_outcome market journal crowd lengths p are is = (
  seats_in market,
  market.settings,
  subst (λ (c : CrowdData). IsOutcome c (seats_in market) market.settings lengths p)
      (one_crowd market.catalog.sections market.roll.students (wanted_in market journal) market.settings.seed market.settings.spread is.crowd crowd is.is_crowd
      are)
      is.outcome,
)
