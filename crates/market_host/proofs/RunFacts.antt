-- What `run` writes.
use Rattle.std.proofs.Common.{ℕ, ◌≡◌, List, [], ◌∷◌, ◌++◌, ap, ◌∙◌}
use Rattle.market_certificate.specs.Texts.{order_line}
use Rattle.market_words.specs.declared.words.Form.TheVariants.{Run}
use Rattle.published_market.specs.Publishing.{IsPublishedText, IsUnpriced}
use Rattle.published_parts.specs.Markets.{Market}
use Rattle.utility_language.specs.declared.commands.Command.{Command}
use Rattle.market_host.specs.declared.status.Status.TheVariants.{Done, NoPrices}
use Rattle.market_host.specs.Lines.{no_prices_line}
use Rattle.market_host.specs.Works.{EndsFor}

module _ (market : Market) (streams : List (List Command)) (workers : ℕ) where
  -- what is published of the market is printed
  pub run_done : (text : List ℕ) → ((order : List ℕ) × IsPublishedText market streams order text) → EndsFor (Run workers) market [] streams Done text
  run_done text published catalog roll settings sessions say = (market, streams, say, published.0, published.1)

  -- the order and the least error are written
  pub run_unpriced : (least : ℕ) (line text : List ℕ) → ((order : List ℕ) × IsUnpriced market streams order least × (line ≡ order_line order ++ 10 ∷ []))
      → text ≡ line ++ no_prices_line least → EndsFor (Run workers) market [] streams (NoPrices least) text
  run_unpriced least line text (order, unpriced, is) whole catalog roll settings sessions say =
      (market, streams, say, order, unpriced, whole ∙ ap (λ (front : List ℕ). front ++ no_prices_line least) is)
