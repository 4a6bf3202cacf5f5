-- What the bytes of a price sheet say.
use Rattle.std.specs.Prelude.{ℕ, List, [], ◌∷◌, None, is_some, if◌then◌else◌, map, position, Result, Ok, codes}
use Rattle.std.specs.Str.{bytes_eq}
use Rattle.market_units.specs.declared.limits.TheConstants.{MAX_PRICE}
use Rattle.course_catalog.specs.Sections.{Section, section_names}
use Rattle.table_records.specs.declared.fault.Fault.{Fault}
use Rattle.table_records.specs.declared.fault.Fault.TheVariants as fault
use Rattle.table_records.specs.Columns.{◌>>=◌, number_or}
use Rattle.table_records.specs.Reading.{Rules, reading}
use Rattle.table_records.specs.Records.{field_in, first_field, records_of}
use Rattle.price_sheet.specs.declared.refusal.PriceRefusal.{PriceRefusal}
use Rattle.price_sheet.specs.declared.refusal.PriceRefusal.TheVariants as refusal

-- a row of a sheet: the name of a section, and its price
pub record Priced : Type 0 where
  pub section : List ℕ
  pub price : ℕ

-- the refusal of a fault in no later column than the section's
abbrev pub refusal_of : Fault → PriceRefusal
refusal_of fault.Header = refusal.Header
refusal_of (fault.Fields row) = refusal.Fields row
refusal_of (fault.Name row) = refusal.Name row 1
refusal_of (fault.Repeated row earlier) = refusal.Repeated row earlier

-- the price of this row, in the one version of a sheet: column 2 is a number up to 1,000,001
abbrev pub priced_of : ℕ → ℕ → List (List ℕ) → Result Priced PriceRefusal
priced_of version row fields = do
  price ← number_or (refusal.Number row 2) MAX_PRICE (field_in 2 fields)
  Ok (record { section = first_field fields; price = price })

-- the rules of a price sheet, where the catalogue has these names: any number of rows, each of a
-- section of the catalogue
abbrev pub price_rules : List (List ℕ) → Rules Priced PriceRefusal
price_rules names = record {
  headers = (codes "section" ∷ codes "price" ∷ []) ∷ [];
  most = None;
  knows = λ name. is_some (position (bytes_eq name) names);
  refusal = refusal_of;
  row = priced_of;
}

-- the price of a section: that of the row with its name, and 0 where there is none
abbrev pub price_in : List Priced → List ℕ → ℕ
price_in [] name = 0
price_in (row ∷ more) name = if bytes_eq name row.section then row.price else price_in more name

-- the prices of a catalogue's sections in their order that the bytes of a sheet stand for, or the
-- first refusal
abbrev pub prices_of : List Section → List ℕ → Result (List ℕ) PriceRefusal
prices_of sections bytes = do
  read ← reading (price_rules (section_names sections)) (records_of bytes)
  Ok (map (price_in read.rows) (section_names sections))
