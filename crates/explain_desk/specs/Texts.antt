-- The text of an explanation.
use Rattle.std.specs.Prelude.{ℕ, ℤ, ◌-ℤ◌, ◌<◌, ⊤, List, [], ◌∷◌, codes, Option, Some, None}
use Rattle.std.specs.Fmt.{signed_decimal}
use Rattle.bundle_rules.specs.Menus.{MenuData, worth}
use Rattle.market_certificate.specs.Lines.{joined, spaced}
use Rattle.market_certificate.specs.Publications.{Proved}
use Rattle.market_certificate.specs.Tables.{name_at}
use Rattle.market_certificate.specs.Texts.{bundle_text}
use Rattle.explain_desk.specs.declared.limits.Limit.{Limit}
use Rattle.explain_desk.specs.declared.limits.Limit.TheVariants.{Price, Credits, Courses}
use Rattle.explain_desk.specs.declared.reasons.Reason.{Reason}
use Rattle.explain_desk.specs.declared.reasons.Reason.TheVariants.{Held, Unrated, Alone, Clash, Beside, Less}
use Rattle.explain_desk.specs.Explanations.{ExplainedData}

-- the word of a limit
abbrev pub limit_word : Limit → List ℕ
limit_word Price = codes "price"
limit_word Credits = codes "credits"
limit_word Courses = codes "courses"

-- the words of a reason
abbrev pub reason_words : List (List ℕ) → Reason → List (List ℕ)
reason_words sections Held = codes "held" ∷ []
reason_words sections Unrated = codes "unrated" ∷ []
reason_words sections (Alone limit) = codes "alone" ∷ limit_word limit ∷ []
reason_words sections (Clash other) = codes "clash" ∷ name_at sections other.0 ∷ []
reason_words sections (Beside limit) = codes "beside" ∷ limit_word limit ∷ []
reason_words sections Less = codes "less" ∷ []

-- the section that a reason names is below this number
abbrev pub NamesBelow : ℕ → Reason → Type 0
NamesBelow sections (Clash other) = other.0 < sections
NamesBelow sections reason = ⊤

-- the first line: the student, the section, and why the one does not have the other
abbrev pub reason_line : List (List ℕ) → List ℕ → ℕ → Reason → List ℕ
reason_line sections student section reason =
    spaced (student ∷ name_at sections section ∷ reason_words sections reason)

-- the best bundle with the section, and its utility
abbrev pub best_line : List (List ℕ) → List ℕ → ℤ → List ℕ
best_line sections bundle utility =
    spaced (codes "best" ∷ bundle_text sections bundle ∷ signed_decimal utility ∷ [])

-- what of utility would be lost by it
abbrev pub lost_line : ℤ → List ℕ
lost_line lost = spaced (codes "lost" ∷ signed_decimal lost ∷ [])

-- its tree
abbrev pub tree_line : List ℕ → List ℕ
tree_line tree = spaced (codes "tree" ∷ tree ∷ [])

-- the three lines on the best bundle with the section, where one is told
abbrev pub best_lines : List (List ℕ) → MenuData → List ℕ → Option Proved → List (List ℕ)
best_lines sections menu bundle None = []
best_lines sections menu bundle (Some best) =
    best_line sections best.bundle (worth menu best.bundle)
    ∷ lost_line (worth menu bundle -ℤ worth menu best.bundle) ∷ tree_line best.tree ∷ []

-- all lines of what a student with this menu and bundle is told of the section, by the names of the
-- sections and of the student
abbrev pub explained_text : List (List ℕ) → MenuData → List ℕ → ℕ → List ℕ → ExplainedData → List ℕ
explained_text sections menu student section bundle explained =
    joined
    (reason_line sections student section explained.reason
    ∷ best_lines sections menu bundle explained.best)
