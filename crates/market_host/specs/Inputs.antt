-- What the inputs of a call may say. A text is judged behind the texts of the inputs before it.
use Rattle.std.specs.Prelude.{ℕ, ◌≡◌, ◌≤◌, List, [], ◌∷◌, ◌++◌, length, drop, Option, Some, Ok, ⊤}
use Rattle.std.specs.List.{AllZip}
use Rattle.market_units.specs.declared.limits.TheConstants.{MAX_COMMANDS}
use Rattle.course_catalog.specs.Catalog.{CatalogData}
use Rattle.course_catalog.specs.Reading.{catalog_of}
use Rattle.student_roll.specs.Rolls.{roll_of}
use Rattle.student_roll.specs.Students.{RollData}
use Rattle.market_settings.specs.declared.reader.Settings.{Settings as SettingsData}
use Rattle.market_settings.specs.Settings.{settings_of}
use Rattle.price_sheet.specs.Sheets.{prices_of}
use Rattle.market_edge.specs.Holdings.{Holding, IsTextOf, told_text}
use Rattle.market_units.specs.Totals.{total}
use Rattle.market_words.specs.declared.words.Form.{Form}
use Rattle.market_host.specs.declared.cause.Cause.{Cause}
use Rattle.market_host.specs.Marks.{without_mark}
use Rattle.market_words.specs.Kinds.{Kind, Catalog, Roll, Settings, Prices, Published, Session, front_of, kind_of, limit_of, streams_of}
use Rattle.market_host.specs.Refusals.{AreNoPrices, AreNoSettings, IsNoCatalog, IsNoRoll}
use Rattle.market_host.specs.Sessions.{command_count}

-- how many commands a text of this kind has, where it is a stream of them
abbrev pub commands_in : Kind → List ℕ → ℕ
commands_in Catalog text = 0
commands_in Roll text = 0
commands_in Settings text = 0
commands_in Prices text = 0
commands_in Published text = 0
commands_in Session text = command_count text

-- how many commands the streams among the texts of a form's first inputs have together
abbrev pub commands_among : Form → List (List ℕ) → ℕ
commands_among form texts =
    total (commands_in (streams_of form)) (drop (length (front_of form)) texts)

-- the first of these texts is this catalogue
abbrev pub BeginWithCatalog : List (List ℕ) → CatalogData → Type 0
BeginWithCatalog [] catalog = ⊥
BeginWithCatalog (text ∷ more) catalog = catalog_of text ≡ Ok catalog

-- a text of this kind, behind these others, is of its grammar; prices are those of the catalogue's
-- sections, and a published text and a session always are
abbrev pub IsOfGrammar : Kind → List (List ℕ) → List ℕ → Type 0
IsOfGrammar Catalog earlier text = (catalog : CatalogData) × (catalog_of text ≡ Ok catalog)
IsOfGrammar Roll earlier text = (roll : RollData) × (roll_of text ≡ Ok roll)
IsOfGrammar Settings earlier text =
    (settings : SettingsData) × (settings_of (without_mark text) ≡ Ok settings)
IsOfGrammar Prices earlier text =
    (catalog : CatalogData) × (prices : List ℕ) × BeginWithCatalog earlier catalog
    × (prices_of catalog.sections text ≡ Ok prices)
IsOfGrammar Published earlier text = ⊤
IsOfGrammar Session earlier text = ⊤

-- a text of this kind, behind these others, is not of its grammar, and its first fault has this row
-- and this cause; a published text and a session have none
abbrev pub HasFault : Kind → List (List ℕ) → ℕ → Cause → List ℕ → Type 0
HasFault Catalog earlier row cause text = IsNoCatalog text row cause
HasFault Roll earlier row cause text = IsNoRoll text row cause
HasFault Settings earlier row cause text = AreNoSettings text row cause
HasFault Prices earlier row cause text =
    (catalog : CatalogData) × BeginWithCatalog earlier catalog
    × AreNoPrices catalog.sections text row cause
HasFault Published earlier row cause text = ⊥
HasFault Session earlier row cause text = ⊥

-- The text of a form's next input, behind these others, is within its limits and of its grammar:
-- its bytes, the commands of all streams up to and with it, and what it says.
pub record IsInOrder (form : Form) (earlier : List (List ℕ)) (text : List ℕ) : Type 0 where
  pub within : length text ≤ limit_of (kind_of form (length earlier))
  pub room : commands_among form (earlier ++ text ∷ []) ≤ MAX_COMMANDS
  pub grammar : IsOfGrammar (kind_of form (length earlier)) earlier text

-- each of the texts of a form's next inputs, behind these others, is in order
abbrev pub AreInOrder : Form → List (List ℕ) → List (List ℕ) → Type 0
AreInOrder form earlier [] = ⊤
AreInOrder form earlier (text ∷ more) =
    IsInOrder form earlier text × AreInOrder form (earlier ++ text ∷ []) more

-- these may be the texts of a form's first inputs, which have these names, and they are in order;
-- where the shelf tells, they are their texts
pub record AreRead (form : Form) (held : Option Holding)
    (names texts : List (List ℕ)) : Type 0 where
  pub each : AllZip (IsTextOf held) names texts
  pub order : AreInOrder form [] texts

-- the shelf tells that the inputs of these names have these texts
abbrev pub AreTold : Option Holding → List (List ℕ) → List (List ℕ) → Type 0
AreTold held names texts = AllZip (λ name text. told_text held name ≡ Some text) names texts
