-- The row and the cause that are told of a refused input.
use Rattle.std.specs.Prelude.{ℕ, ◌≡◌, ◌+◌, List, Err}
use Rattle.market_units.specs.declared.limits.TheConstants.{MAX_SECTIONS, MAX_STUDENTS}
use Rattle.course_catalog.specs.declared.refusal.CatalogRefusal.{CatalogRefusal}
use Rattle.course_catalog.specs.declared.refusal.CatalogRefusal.TheVariants as of_catalog
use Rattle.course_catalog.specs.Reading.{catalog_of}
use Rattle.course_catalog.specs.Sections.{Section}
use Rattle.market_settings.specs.declared.reader.SettingsRefusal.{SettingsRefusal}
use Rattle.market_settings.specs.declared.reader.SettingsRefusal.TheVariants as of_settings
use Rattle.market_settings.specs.Settings.{settings_of}
use Rattle.price_sheet.specs.declared.refusal.PriceRefusal.{PriceRefusal}
use Rattle.price_sheet.specs.declared.refusal.PriceRefusal.TheVariants as of_prices
use Rattle.price_sheet.specs.Sheets.{prices_of}
use Rattle.student_roll.specs.declared.refusal.RollRefusal.{RollRefusal}
use Rattle.student_roll.specs.declared.refusal.RollRefusal.TheVariants as of_roll
use Rattle.student_roll.specs.Rolls.{roll_of}
use Rattle.market_host.specs.declared.cause.Cause.{Cause}
use Rattle.market_host.specs.declared.cause.Cause.TheVariants as cause
use Rattle.market_host.specs.Marks.{without_mark}

-- The row and the cause of a refused catalogue. The header is row 1, and behind it each section has
-- a row; that of the section too many is told.
abbrev pub IsTold : CatalogRefusal → ℕ → Cause → Type 0
IsTold of_catalog.Header row told = (row ≡ 1) × (told ≡ cause.Header)
IsTold (of_catalog.Fields at) row told = (row ≡ at) × (told ≡ cause.Fields)
IsTold (of_catalog.Name at column) row told = (row ≡ at) × (told ≡ cause.Name column)
IsTold (of_catalog.Repeated at earlier) row told = (row ≡ at) × (told ≡ cause.Repeated earlier)
IsTold (of_catalog.Number at column) row told = (row ≡ at) × (told ≡ cause.Number column)
IsTold (of_catalog.Meetings at) row told = (row ≡ at) × (told ≡ cause.Meetings)
IsTold (of_catalog.Parts at) row told = (row ≡ at) × (told ≡ cause.Parts)
IsTold of_catalog.TooMany row told = (row ≡ MAX_SECTIONS + 2) × (told ≡ cause.TooMany)
IsTold of_catalog.NoMemory row told = ⊥

-- The row and the cause of a refused roll. The header is row 1, and behind it each student has a
-- row; that of the student too many is told.
abbrev pub IsToldOfRoll : RollRefusal → ℕ → Cause → Type 0
IsToldOfRoll of_roll.Header row told = (row ≡ 1) × (told ≡ cause.Header)
IsToldOfRoll (of_roll.Fields at) row told = (row ≡ at) × (told ≡ cause.Fields)
IsToldOfRoll (of_roll.Name at column) row told = (row ≡ at) × (told ≡ cause.Name column)
IsToldOfRoll (of_roll.Repeated at earlier) row told = (row ≡ at) × (told ≡ cause.Repeated earlier)
IsToldOfRoll (of_roll.Number at column) row told = (row ≡ at) × (told ≡ cause.Number column)
IsToldOfRoll of_roll.TooMany row told = (row ≡ MAX_STUDENTS + 2) × (told ≡ cause.TooMany)
IsToldOfRoll of_roll.NoMemory row told = ⊥

-- The row and the cause of refused settings. No fault of settings has a row, which is told as row
-- 0.
abbrev pub IsToldOfSettings : SettingsRefusal → ℕ → Cause → Type 0
IsToldOfSettings of_settings.NotJson row told = (row ≡ 0) × (told ≡ cause.NotJson)
IsToldOfSettings of_settings.NotObject row told = (row ≡ 0) × (told ≡ cause.NotObject)
IsToldOfSettings (of_settings.Missing key) row told = (row ≡ 0) × (told ≡ cause.Missing key)
IsToldOfSettings of_settings.Unknown row told = (row ≡ 0) × (told ≡ cause.Unknown)
IsToldOfSettings (of_settings.Range key) row told = (row ≡ 0) × (told ≡ cause.Range key)
IsToldOfSettings of_settings.NoMemory row told = ⊥

-- The row and the cause of refused prices. The header is row 1.
abbrev pub IsToldOfPrices : PriceRefusal → ℕ → Cause → Type 0
IsToldOfPrices of_prices.Header row told = (row ≡ 1) × (told ≡ cause.Header)
IsToldOfPrices (of_prices.Fields at) row told = (row ≡ at) × (told ≡ cause.Fields)
IsToldOfPrices (of_prices.Name at column) row told = (row ≡ at) × (told ≡ cause.Name column)
IsToldOfPrices (of_prices.Repeated at earlier) row told =
    (row ≡ at) × (told ≡ cause.Repeated earlier)
IsToldOfPrices (of_prices.Number at column) row told = (row ≡ at) × (told ≡ cause.Number column)
IsToldOfPrices of_prices.NoMemory row told = ⊥

-- the text is no catalogue, and its first fault has this row and this cause
abbrev pub IsNoCatalog : List ℕ → ℕ → Cause → Type 0
IsNoCatalog text row told =
    (why : CatalogRefusal) × (catalog_of text ≡ Err why) × IsTold why row told

-- the text is no roll, and its first fault has this row and this cause
abbrev pub IsNoRoll : List ℕ → ℕ → Cause → Type 0
IsNoRoll text row told = (why : RollRefusal) × (roll_of text ≡ Err why) × IsToldOfRoll why row told

-- the text, without one leading byte order mark, is no settings, and its first fault has this row
-- and this cause
abbrev pub AreNoSettings : List ℕ → ℕ → Cause → Type 0
AreNoSettings text row told =
    (why : SettingsRefusal) × (settings_of (without_mark text) ≡ Err why)
    × IsToldOfSettings why row told

-- the text has no prices of these sections, and its first fault has this row and this cause
abbrev pub AreNoPrices : List Section → List ℕ → ℕ → Cause → Type 0
AreNoPrices sections text row told =
    (why : PriceRefusal) × (prices_of sections text ≡ Err why) × IsToldOfPrices why row told
