-- What `check` prints, and what is told of a published text that is not accepted.
use Rattle.std.specs.Prelude.{ℕ, ◌≡◌, List, ◌∷◌, codes}
use Rattle.certificate_checker.specs.declared.findings.Finding.{Finding}
use Rattle.certificate_checker.specs.Certificates.{IsAccepted}
use Rattle.certificate_checker.specs.Findings.{IsFirstFinding}
use Rattle.certificate_checker.specs.Words.{finding_line}
use Rattle.published_parts.specs.Markets.{Market, tables_in}
use Rattle.utility_language.specs.declared.commands.Command.{Command}
use Rattle.market_host.specs.Markets.{IsMarketOf}

-- the published text is accepted for the market that the other texts stand for, and for what its
-- sessions say
abbrev pub IsAcceptedOf : List ℕ → List ℕ → List ℕ → List ℕ → List (List ℕ) → Type 0
IsAcceptedOf catalog roll settings published sessions =
    (market : Market) × (streams : List (List Command))
    × IsMarketOf catalog roll settings sessions market streams
    × IsAccepted market streams published

-- it is not accepted, this is the first finding on it, and the text is the line that tells the
-- finding by names
abbrev pub IsFoundOf : List ℕ → List ℕ → List ℕ → List ℕ → List (List ℕ) → Finding → List ℕ → Type 0
IsFoundOf catalog roll settings published sessions finding text =
    (market : Market) × (streams : List (List Command))
    × IsMarketOf catalog roll settings sessions market streams
    × (¬ IsAccepted market streams published) × IsFirstFinding market streams published finding
    × (text ≡ finding_line (tables_in market) finding)

-- the line that says that a text is accepted
abbrev pub accepted_line : List ℕ
accepted_line = codes "accepted\n"

-- what is printed for the texts of a catalogue, a roll, settings, a published text and sessions
abbrev pub PrintsAccepted : List (List ℕ) → List ℕ → Type 0
PrintsAccepted (catalog ∷ roll ∷ settings ∷ published ∷ sessions) text =
    IsAcceptedOf catalog roll settings published sessions × (text ≡ accepted_line)
PrintsAccepted texts text = ⊥

-- what is told for these texts where the published text is not accepted
abbrev pub TellsFound : List (List ℕ) → Finding → List ℕ → Type 0
TellsFound (catalog ∷ roll ∷ settings ∷ published ∷ sessions) finding text =
    IsFoundOf catalog roll settings published sessions finding text
TellsFound texts finding text = ⊥
