use Rattle.std.proofs.Common.{rules}
use Rattle.demand_api.specs.Views.{data_of}
use Rattle.market_certificate.specs.Views.{publication_of}
use Rattle.published_parts.specs.Crowds.{IsCrowdIn}
use Rattle.published_parts.specs.Views.{market_in}
use Rattle.published_market.specs.Publishing.{IsPublicationOf, lengths_of}
use Rattle.market_run.proofs.SomeOutcomes.{some_outcome}
use Rattle.text_tests.proofs.tests.summaries.summary_of.Goals as goal

pub summary_text-requires : goal.summary_text-requires
summary_text-requires g c =
    let market = market_in c.args.market.now in
    let crowd = data_of c.deref-2.result.now in
    let lengths = lengths_of c.expect-published.result.turns c.expect-published.result.rounds c.expect-published.result.passes in
    let are : IsCrowdIn market c.journal-journal.result.now crowd = search rules in
    let is : IsPublicationOf market c.journal-journal.result.now lengths (publication_of c.expect-published.result.publication) = search rules in
    some_outcome market c.journal-journal.result.now crowd lengths (publication_of c.expect-published.result.publication) are is
