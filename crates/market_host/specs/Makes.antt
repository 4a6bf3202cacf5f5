-- What `make` writes where no prices are found.
use Rattle.std.specs.Prelude.{ℕ, ◌≡◌, List}
use Rattle.made_run.specs.Made.{IsMadeUnpriced}
use Rattle.market_host.specs.Lines.{no_prices_line}

-- the made market of these numbers finds no prices, this is the least error, and the text is the
-- one line that tells it
abbrev pub TellsMadeUnpriced : ℕ → ℕ → ℕ → ℕ → ℕ → List ℕ → Type 0
TellsMadeUnpriced seed students sections accept least text =
    IsMadeUnpriced seed students sections accept least × (text ≡ no_prices_line least)
