-- What lines are due, one after another. A form is what one line has to be.
use Rattle.std.specs.Prelude.{ℕ, ◌≡◌, ◌<◌, ◌≤◌, ◌^◌, ◌⊎◌, List, [], ◌∷◌, ◌++◌, ◌+◌, All, codes, length, map}
use Rattle.market_certificate.specs.declared.amounts.Amount as kinds
use Rattle.market_certificate.specs.declared.amounts.Amount.TheVariants as amount
use Rattle.market_certificate.specs.declared.refusals.LineFault.{LineFault}
use Rattle.market_certificate.specs.Finding.{Finds}
use Rattle.market_certificate.specs.Lines.{Lacks, joined}
use Rattle.market_certificate.specs.Tables.{Tables}
use Rattle.market_certificate.specs.Publications.{Proved, ProvedTurn, IsBundleOf, IsProved, IsSession, IsTurn, IsUsed, AreFor}
use Rattle.market_certificate.specs.Texts.{amount_line, bundle_line, each_line, end_line, error_line, final_line, head_line, most_of, order_line, turn_line, used_line}

-- the forms of lines; most are for one name
pub data Form : Type 0 where
  HeadForm : Form
  OrderForm : Form
  AmountForm : kinds.Amount → List ℕ → Form
  ErrorForm : Form
  BundleForm : List ℕ → Form
  FinalForm : List ℕ → Form
  UsedForm : List ℕ → Form
  EndForm : Form

-- one line of a form, or any number of turns
pub data Due : Type 0 where
  One : Form → Due
  Turns : Due

-- the line is of the form
abbrev pub HasForm : Tables → Form → List ℕ → Type 0
HasForm tables HeadForm line = line ≡ head_line tables
HasForm tables OrderForm line = (order : List ℕ) × All IsSession order × (line ≡ order_line order)
HasForm tables (AmountForm kind name) line =
    (tokens : ℕ) × (tokens ≤ most_of kind) × (line ≡ amount_line kind name tokens)
HasForm tables ErrorForm line = (error : ℕ) × (error < 2 ^ 64) × (line ≡ error_line error)
HasForm tables (BundleForm name) line =
    (proved : Proved) × IsProved tables.sections proved
    × (line ≡ bundle_line tables.sections name proved)
HasForm tables (FinalForm name) line =
    (bundle : List ℕ) × IsBundleOf tables.sections bundle
    × (line ≡ final_line tables.sections name bundle)
HasForm tables (UsedForm name) line = (seats : ℕ × ℕ) × IsUsed seats × (line ≡ used_line name seats)
HasForm tables EndForm line = line ≡ end_line

-- the line is that of a turn
abbrev pub IsTurnLine : Tables → List ℕ → Type 0
IsTurnLine tables line =
    (turn : ProvedTurn) × IsTurn tables.students tables.sections turn
    × (line ≡ turn_line tables.students tables.sections turn)

-- the line begins as a turn does
abbrev pub StartsTurn : List ℕ → Type 0
StartsTurn line = (rest : List ℕ) × (line ≡ codes "turn" ++ 32 ∷ rest)

-- a line, and lines behind it
abbrev pub Then : (List ℕ → Type 0) → (List (List ℕ) → Type 0) → List (List ℕ) → Type 0
Then P more [] = ⊥
Then P more (line ∷ lines) = P line × more lines

-- the lines that begin as a turn does are turns, and then other lines come
abbrev pub TurnsThen : Tables → (List (List ℕ) → Type 0) → List (List ℕ) → Type 0
TurnsThen tables more [] = more []
TurnsThen tables more (line ∷ lines) =
    (IsTurnLine tables line × TurnsThen tables more lines)
    ⊎ ((¬ StartsTurn line) × more (line ∷ lines))

-- the lines are those that are due
abbrev pub AreDue : Tables → List Due → List (List ℕ) → Type 0
AreDue tables [] lines = lines ≡ []
AreDue tables (One form ∷ due) lines = Then (HasForm tables form) (AreDue tables due) lines
AreDue tables (Turns ∷ due) lines = TurnsThen tables (AreDue tables due) lines

-- one line of a form for each name
abbrev pub each_due : (List ℕ → Form) → List (List ℕ) → List Due
each_due form names = map (λ name. One (form name)) names

-- what is due behind the prices, to the last line
abbrev pub outcome_due : Tables → List Due
outcome_due tables =
    each_due BundleForm tables.students
    ++ (Turns
    ∷ (each_due FinalForm tables.students
    ++ (each_due UsedForm tables.sections
    ++ One EndForm ∷ [])))

-- what is due behind the order: the budgets, the prices and the error, and more behind them
abbrev pub prices_due : Tables → List Due → List Due
prices_due tables more =
    each_due (AmountForm amount.Budget) tables.students
    ++ (each_due (AmountForm amount.Start) tables.sections
    ++ (One ErrorForm
    ∷ (each_due (AmountForm amount.Price) tables.sections
    ++ more)))

-- what is due of a publication
abbrev pub due_of : Tables → List Due
due_of tables = One HeadForm ∷ One OrderForm ∷ prices_due tables (outcome_due tables)

-- no line that begins as a turn does is next
abbrev pub NoTurnNext : List ℕ → Type 0
NoTurnNext text =
    (line rest : List ℕ) → text ≡ line ++ 10 ∷ rest → Lacks 10 line → ¬ StartsTurn line

-- these lines stand in front of the rest of a text
pub record Takes (lines : List (List ℕ)) (number : ℕ) (text : List ℕ) (next : ℕ)
    (rest : List ℕ) : Type 0 where
  pub ahead : text ≡ joined lines ++ rest
  pub count : next ≡ number + length lines

-- the lines of these values, and more lines behind them
abbrev pub prices_lines : Tables → List ℕ → List ℕ → ℕ → List ℕ → List (List ℕ) → List (List ℕ)
prices_lines tables budgets start error prices more =
    each_line (amount_line amount.Budget) tables.students budgets
    ++ (each_line (amount_line amount.Start) tables.sections start
    ++ (error_line error
    ∷ (each_line (amount_line amount.Price) tables.sections prices
    ++ more)))

-- the lines of these values, to the last line
abbrev pub outcome_lines : Tables → List Proved → List ProvedTurn → List (List ℕ) → List (ℕ × ℕ)
    → List (List ℕ)
outcome_lines tables bundles turns allocation used =
    each_line (bundle_line tables.sections) tables.students bundles
    ++ (map (turn_line tables.students tables.sections) turns
    ++ (each_line (final_line tables.sections) tables.students allocation
    ++ (each_line used_line tables.sections used
    ++ end_line ∷ [])))

-- A text begins with the lines of these values, each in its range, and goes on with the rest: where
-- the rest is lines, the text is these lines and then those; and the first defect of the rest is
-- that of the text.
pub record ArePrices (tables : Tables) (budgets start : List ℕ) (error : ℕ) (prices : List ℕ)
    (number : ℕ) (text : List ℕ) (next : ℕ) (rest : List ℕ) : Type 0 where
  pub each_budget : AreFor tables.students (λ tokens. tokens ≤ most_of amount.Budget) budgets
  pub each_start : AreFor tables.sections (λ tokens. tokens ≤ most_of amount.Start) start
  pub small_error : error < 2 ^ 64
  pub each_price : AreFor tables.sections (λ tokens. tokens ≤ most_of amount.Price) prices
  pub whole : (more : List (List ℕ)) → rest ≡ joined more
      → text ≡ joined (prices_lines tables budgets start error prices more)
  pub passed : (more : List Due) (at : ℕ) (fault : LineFault)
      → Finds (AreDue tables more) next rest at fault
      → Finds (AreDue tables (prices_due tables more)) number text at fault

-- These values, in their ranges, are the text.
pub record AreOutcome (tables : Tables) (bundles : List Proved) (turns : List ProvedTurn)
    (allocation : List (List ℕ)) (used : List (ℕ × ℕ)) (text : List ℕ) : Type 0 where
  pub each_bundle : AreFor tables.students (IsProved tables.sections) bundles
  pub each_turn : All (IsTurn tables.students tables.sections) turns
  pub each_final : AreFor tables.students (IsBundleOf tables.sections) allocation
  pub each_seats : AreFor tables.sections IsUsed used
  pub whole : text ≡ joined (outcome_lines tables bundles turns allocation used)
