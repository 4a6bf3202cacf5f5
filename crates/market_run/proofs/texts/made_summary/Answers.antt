use Rattle.demand_api.specs.Views.{data_of}
use Rattle.market_certificate.specs.Views.{publication_of}
use Rattle.published_parts.specs.Crowds.{IsCrowdIn}
use Rattle.published_market.specs.Publishing.{lengths_of}
use Rattle.market_run.proofs.SomeOutcomes.{some_outcome}
use Rattle.market_run.specs.Views.{journal_heard, market_heard}
use Rattle.market_run.proofs.texts.made_summary.Goals as goal

pub summary_text-requires : goal.summary_text-requires
summary_text-requires g c =
    let market = market_heard c.args.heard.now in
    let crowd = data_of c.deref.result.now in
    let ran = c.in_ok-ran.ran in
    let are : IsCrowdIn market (journal_heard c.args.heard.now) crowd = rw c.deref.ensures c.in_ok-ran.ensures.crowd in
    some_outcome market (journal_heard c.args.heard.now) crowd (lengths_of ran.published.turns ran.published.rounds ran.published.passes)
    (publication_of ran.published.publication) are c.in_ok-ran.ensures.published
