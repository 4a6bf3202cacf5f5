-- What `audit` prints.
use Rattle.std.specs.Prelude.{ℕ, List, ◌∷◌}
use Rattle.fairness_audit.specs.Audits.{IsAuditOf}
use Rattle.published_parts.specs.Markets.{Market}
use Rattle.utility_language.specs.declared.commands.Command.{Command}
use Rattle.market_host.specs.Markets.{IsMarketOf}

-- The published text is accepted for the market that the other texts stand for, and for what its
-- sessions say; and the text tells the rows of its bundles of the second stage, none of which
-- counts lower envy, and of its final bundles. No number of workers occurs in it.
abbrev pub IsEnvyOf : List ℕ → List ℕ → List ℕ → List ℕ → List (List ℕ) → List ℕ → Type 0
IsEnvyOf catalog roll settings published sessions text =
    (market : Market) × (streams : List (List Command))
    × IsMarketOf catalog roll settings sessions market streams
    × IsAuditOf market streams published text

-- what is printed for the texts of a catalogue, a roll, settings, a published text and sessions
abbrev pub PrintsAudit : List (List ℕ) → List ℕ → Type 0
PrintsAudit (catalog ∷ roll ∷ settings ∷ published ∷ sessions) text =
    IsEnvyOf catalog roll settings published sessions text
PrintsAudit texts text = ⊥
