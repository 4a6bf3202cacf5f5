-- The text of an audit.
use Rattle.std.specs.Prelude.{ℕ, ◌<◌, ◌≤◌, ◌≡◌, List, [], ◌∷◌, ◌++◌, Option, None, Some, All, IfSome, codes, length}
use Rattle.std.specs.Fmt.{decimal}
use Rattle.market_units.specs.Totals.{total}
use Rattle.market_certificate.specs.Lines.{joined, spaced}
use Rattle.market_certificate.specs.Tables.{name_at}
use Rattle.market_certificate.specs.Texts.{bundle_text}
use Rattle.fairness_audit.specs.Rows.{RowData, SeenData}

-- how an envy ends: but for a section, or for none
abbrev pub ending : List (List ℕ) → Option ℕ → List ℕ
ending sections None = codes "beyond one"
ending sections (Some s) = spaced (codes "but for" ∷ name_at sections s ∷ [])

-- the line of an envied student: its name, what is seen in its bundle, and how the envy ends
abbrev pub sight_line : List (List ℕ) → List (List ℕ) → SeenData → List ℕ
sight_line students sections seen = spaced (codes "sees" ∷ name_at students seen.student ∷ bundle_text sections seen.bundle ∷ ending sections seen.without ∷ [])

-- the line of three counts: the word of the part, whose they are, and the counts of lower envy, of
-- higher envy and of envy beyond one
abbrev pub counts_line : List ℕ → List ℕ → ℕ → ℕ → ℕ → List ℕ
counts_line part name lower higher beyond =
    spaced (part ∷ name ∷ decimal lower ∷ decimal higher ∷ decimal beyond ∷ [])

-- the line of the first envied student, if there is one
abbrev pub first_lines : List (List ℕ) → List (List ℕ) → Option SeenData → List (List ℕ)
first_lines students sections None = []
first_lines students sections (Some seen) = sight_line students sections seen ∷ []

-- the lines of a student's row
abbrev pub row_lines : List ℕ → List (List ℕ) → List (List ℕ) → List ℕ → RowData → List (List ℕ)
row_lines part students sections name row =
    counts_line part name row.lower row.higher row.beyond ∷ first_lines students sections row.first

-- the line of the sums of all rows
abbrev pub total_line : List ℕ → List RowData → List ℕ
total_line part rows = counts_line part (codes "total") (total (λ (row : RowData). row.lower) rows) (total (λ (row : RowData). row.higher) rows) (total (λ (row : RowData). row.beyond) rows)

-- the lines of the rows of students of these names, in their order
abbrev pub rows_lines : List ℕ → List (List ℕ) → List (List ℕ) → List (List ℕ) → List RowData
    → List (List ℕ)
rows_lines part students sections [] rows = []
rows_lines part students sections (name ∷ names) [] = []
rows_lines part students sections (name ∷ names) (row ∷ rows) =
    row_lines part students sections name row ++ rows_lines part students sections names rows

-- the lines of all rows, in file order, and of their sums
abbrev pub part_lines : List ℕ → List (List ℕ) → List (List ℕ) → List RowData → List (List ℕ)
part_lines part students sections rows =
    rows_lines part students sections students rows ++ total_line part rows ∷ []

-- the text of an audit: the rows of the bundles of the second stage, and then those of the final
-- ones
abbrev pub audit_text : List (List ℕ) → List (List ℕ) → List RowData → List RowData → List ℕ
audit_text students sections settled last = joined (part_lines (codes "settled") students sections settled ++ part_lines (codes "final") students sections last)

-- a sight of one of so many students, of so many sections
pub record IsSightAmong (students sections : ℕ) (seen : SeenData) : Type 0 where
  pub student : seen.student < students
  pub bundle : All (λ s. s < sections) seen.bundle
  pub without : IfSome seen.without (λ s. s < sections)

-- a row that counts at most so many students and names one of them and some of so many sections
pub record IsRowAmong (students sections : ℕ) (row : RowData) : Type 0 where
  pub lower : row.lower ≤ students
  pub higher : row.higher ≤ students
  pub beyond : row.beyond ≤ students
  pub first : IfSome row.first (IsSightAmong students sections)

-- a row for each of so many students
pub record AreRowsAmong (students sections : ℕ) (rows : List RowData) : Type 0 where
  pub each : length rows ≡ students
  pub among : All (IsRowAmong students sections) rows
