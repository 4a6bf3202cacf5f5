-- A bundle as the set of its sections.
use Rattle.std.specs.Prelude.{ℕ, List, take}
use Rattle.bundle_rules.specs.declared.bundle.Bundle.{Bundle}
use Rattle.bundle_rules.specs.Ordinals.{ordinals}

-- the ordinals of a bundle's sections, ascending
unfoldable pub sections_of : Bundle → List ℕ
sections_of bundle = ordinals (take bundle.len bundle.sections)
