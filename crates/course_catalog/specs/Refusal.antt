-- Why a catalogue is refused.
use Rattle.std.specs.Prelude.{◌≡◌, Result, Err}
use Rattle.table_records.specs.declared.fault.Fault.{Fault}
use Rattle.table_records.specs.declared.fault.Fault.TheVariants as fault
use Rattle.course_catalog.specs.declared.refusal.CatalogRefusal.{CatalogRefusal}
use Rattle.course_catalog.specs.declared.refusal.CatalogRefusal.TheVariants as refusal

-- the refusal of a fault in no later column than the first
abbrev pub refusal_of : Fault → CatalogRefusal
refusal_of fault.Header = refusal.Header
refusal_of (fault.Fields row) = refusal.Fields row
refusal_of (fault.Name row) = refusal.Name row 1
refusal_of (fault.Repeated row earlier) = refusal.Repeated row earlier

-- a refusal tells what a reading gives, or else memory was wanted
abbrev pub TellsRefusal : {R : Type 0} → Result R CatalogRefusal → CatalogRefusal → Type 0
TellsRefusal answer refusal.NoMemory = Unit {0}
TellsRefusal answer told = answer ≡ Err told
