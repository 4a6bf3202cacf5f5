-- The text of a publication.
use Rattle.std.specs.Prelude.{ℕ, ◌≡◌, List, [], ◌∷◌, ◌++◌, codes, map, zip}
use Rattle.std.specs.List.{join_with_byte}
use Rattle.std.specs.Fmt.{decimal}
use Rattle.market_units.specs.declared.limits.TheConstants.{MAX_BUDGET, MAX_PRICE}
use Rattle.market_certificate.specs.declared.amounts.Amount.{Amount}
use Rattle.market_certificate.specs.declared.amounts.Amount.TheVariants as amount
use Rattle.market_certificate.specs.Lines.{joined, spaced}
use Rattle.market_certificate.specs.Tables.{Tables, name_at}
use Rattle.market_certificate.specs.Publications.{Publication, Proved, ProvedTurn, IsPublication}

-- a bundle as it is written: the names of its sections with one comma between each two, in brackets
abbrev pub bundle_text : List (List ℕ) → List ℕ → List ℕ
bundle_text sections bundle = 91 ∷ (join_with_byte 44 (map (name_at sections) bundle) ++ 93 ∷ [])

-- a bundle and its tree
abbrev pub proved_text : List (List ℕ) → Proved → List ℕ
proved_text sections proved = spaced (bundle_text sections proved.bundle ∷ proved.tree ∷ [])

-- the first line: the version of the tables
abbrev pub head_line : Tables → List ℕ
head_line tables = spaced (codes "course-match" ∷ decimal tables.version ∷ [])

-- the line of the journal: the session of each entry
abbrev pub order_line : List ℕ → List ℕ
order_line order = spaced (codes "order" ∷ map decimal order)

-- the word in front of an amount
abbrev pub word_of : Amount → List ℕ
word_of amount.Budget = codes "budget"
word_of amount.Start = codes "start"
word_of amount.Price = codes "price"

-- the greatest amount of each kind
abbrev pub most_of : Amount → ℕ
most_of amount.Budget = MAX_BUDGET
most_of amount.Start = MAX_PRICE
most_of amount.Price = MAX_PRICE

-- an amount behind its word and the name whose it is
abbrev pub amount_line : Amount → List ℕ → ℕ → List ℕ
amount_line kind name tokens = spaced (word_of kind ∷ name ∷ decimal tokens ∷ [])

-- the line of the clearing error
abbrev pub error_line : ℕ → List ℕ
error_line error = spaced (codes "error" ∷ decimal error ∷ [])

-- the line of a student's bundle at the prices of the second stage, with its tree
abbrev pub bundle_line : List (List ℕ) → List ℕ → Proved → List ℕ
bundle_line sections name proved = spaced (codes "bundle" ∷ name ∷ bundle_text sections proved.bundle ∷ proved.tree ∷ [])

-- the line of a turn of the aftermarket
abbrev pub turn_line : List (List ℕ) → List (List ℕ) → ProvedTurn → List ℕ
turn_line students sections turn = spaced (codes "turn" ∷ decimal turn.pass ∷ name_at students turn.student ∷ bundle_text sections turn.bundle ∷ turn.tree ∷ [])

-- the line of a student's bundle after all turns
abbrev pub final_line : List (List ℕ) → List ℕ → List ℕ → List ℕ
final_line sections name bundle = spaced (codes "final" ∷ name ∷ bundle_text sections bundle ∷ [])

-- the line of a section's seats: those that are used, and all
abbrev pub used_line : List ℕ → ℕ × ℕ → List ℕ
used_line name seats = spaced (codes "used" ∷ name ∷ decimal seats.0 ∷ decimal seats.1 ∷ [])

-- the last line
abbrev pub end_line : List ℕ
end_line = codes "end"

-- one line for each name and its value
abbrev pub each_line : {V : Type 0} → (List ℕ → V → List ℕ) → List (List ℕ) → List V → List (List ℕ)
each_line line names values = map (λ named. line named.0 named.1) (zip names values)

-- the lines of a publication
abbrev pub lines_of : Tables → Publication → List (List ℕ)
lines_of tables p =
    head_line tables
    ∷ order_line p.order
    ∷ (each_line (amount_line amount.Budget) tables.students p.budgets
    ++ (each_line (amount_line amount.Start) tables.sections p.start
    ++ (error_line p.error
    ∷ (each_line (amount_line amount.Price) tables.sections p.prices
    ++ (each_line (bundle_line tables.sections) tables.students p.bundles
    ++ (map (turn_line tables.students tables.sections) p.turns
    ++ (each_line (final_line tables.sections) tables.students p.allocation
    ++ (each_line used_line tables.sections p.used
    ++ end_line ∷ []))))))))

-- the text of a publication
abbrev pub text_of : Tables → Publication → List ℕ
text_of tables p = joined (lines_of tables p)

-- lines that are a publication's
abbrev pub ArePublished : Tables → List (List ℕ) → Type 0
ArePublished tables lines = (p : Publication) × IsPublication tables p × (lines ≡ lines_of tables p)

-- a text that is a publication's
abbrev pub IsPublished : Tables → List ℕ → Type 0
IsPublished tables text = (p : Publication) × IsPublication tables p × (text ≡ text_of tables p)
