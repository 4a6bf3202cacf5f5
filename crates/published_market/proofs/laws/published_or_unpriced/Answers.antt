use Rattle.published_market.proofs.Existing.{published_or_unpriced}
use Rattle.published_market.proofs.laws.published_or_unpriced.Goals as goal

pub returns : goal.returns
returns c =
    published_or_unpriced c.each_has_a_menu.ensures c.search_ends.ensures c.elimination_ends.ensures c.aftermarket_ends.ensures c.trees_prove_the_best.ensures
