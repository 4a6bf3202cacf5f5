use Rattle.std.proofs.Common.{ℕ, ◌≡◌, Err, List, rules, subst}
use Rattle.preference_desk.specs.declared.entry.Entry.{Entry}
use Rattle.published_market.specs.Publishing.{HasNoPrices}
use Rattle.published_market.specs.declared.publishing.PublishEnd.TheVariants.{NoPrices}
use Rattle.market_run.specs.Views.{market_heard}
use Rattle.market_run.proofs.running.run.Goals as goal

pub returns-in_err-published-clause-no_prices : goal.returns-in_err-published-clause-no_prices
returns-in_err-published-clause-no_prices g c =
    let market = market_heard c.args.heard.now in
    let none : (least : ℕ) → c.from_residual-in_err-published.result ≡ Err (NoPrices least) → HasNoPrices market c.journal.result.now least = search rules in
    subst (λ (journal : List Entry). (least : ℕ) → c.from_residual-in_err-published.result ≡ Err (NoPrices least) → HasNoPrices market journal least)
    c.journal.ensures.entries none
