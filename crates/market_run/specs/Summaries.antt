-- The summary of a market that was held.
use Rattle.std.specs.Prelude.{ℕ, ◌+◌, ℤ, List, [], ◌∷◌, ◌++◌, codes, length}
use Rattle.std.specs.Fmt.{decimal, signed_decimal}
use Rattle.std.specs.List.{zip}
use Rattle.market_units.specs.Totals.{signed_total, total}
use Rattle.bundle_rules.specs.Menus.{worth}
use Rattle.demand_api.specs.Crowds.{CrowdData, Student}
use Rattle.market_certificate.specs.Publications.{Proved, ProvedTurn, Publication}
use Rattle.market_settings.specs.declared.reader.Settings.{Settings}
use Rattle.published_market.specs.Publishing.{IsOutcome, Lengths}

-- what all students have of their bundles, added up
abbrev pub worth_of : List Student → List (List ℕ) → ℤ
worth_of students bundles =
    signed_total (λ (held : Student × List ℕ). worth held.0.menu held.1) (zip students bundles)

-- the bytes of all trees: those of the bundles and those of the turns
abbrev pub tree_bytes : Publication → ℕ
tree_bytes p =
    total (λ (proved : Proved). length proved.tree) p.bundles
    + total (λ (turn : ProvedTurn). length turn.tree) p.turns

-- a word and a number behind it, as a line
abbrev pub line : List ℕ → List ℕ → List ℕ
line word number = word ++ 32 ∷ (number ++ 10 ∷ [])

-- The ten lines: how many students, sections and commands there are; the error of the first prices;
-- the turns of the search, the rounds of the elimination and the passes of the aftermarket; the
-- used seats; what the students have of their last bundles; and the bytes of all trees.
abbrev pub summary_text : CrowdData → Lengths → Publication → List ℕ
summary_text crowd lengths p =
    line (codes "students") (decimal (length crowd.students))
    ++ line (codes "sections") (decimal crowd.sections)
    ++ line (codes "commands") (decimal (length p.order))
    ++ line (codes "error") (decimal p.error)
    ++ line (codes "turns") (decimal lengths.turns)
    ++ line (codes "rounds") (decimal lengths.rounds)
    ++ line (codes "passes") (decimal lengths.passes)
    ++ line (codes "seats") (decimal (total (λ (seats : ℕ × ℕ). seats.0) p.used))
    ++ line (codes "utility") (signed_decimal (worth_of crowd.students p.allocation))
    ++ line (codes "proof") (decimal (tree_bytes p))

-- the publication is the outcome of the crowd, whatever its seats and the settings
abbrev pub IsSomeOutcome : CrowdData → Lengths → Publication → Type 0
IsSomeOutcome crowd lengths p =
    (seats : List ℕ) × (settings : Settings) × IsOutcome crowd seats settings lengths p
