-- Items of listed students.
use Rattle.std.specs.Prelude.{◌≡◌, List, Some, slice_get}
use Rattle.std.specs.List.{AllZip}
use Rattle.market_units.specs.declared.units.StudentNo.{StudentNo}

-- the items of the listed students, in the list's order
abbrev pub AreChosen : {A : Type 0} → List A → List StudentNo → List A → Type 0
AreChosen items students chosen =
    AllZip (λ student item. slice_get items student.0 ≡ Some item) students chosen
