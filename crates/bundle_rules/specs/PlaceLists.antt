-- The places of a bundle's sections as a list.
use Rattle.std.specs.Prelude.{ℕ, List, take}
use Rattle.bundle_rules.specs.declared.place_list.Places.{Places}

unfoldable pub listed : Places → List ℕ
listed places = take places.len places.places
