use Rattle.std.proofs.Common.{◌≡◌, map, take}
use Rattle.preference_desk.specs.Rows.{rating_entry}
use Rattle.market_menus.specs.MenusOf.{rated_of}
use Rattle.market_menus.proofs.places.places_of.Given as goal

abbrev pub invariant-ratings : goal.invariant-ratings
invariant-ratings l = l.places.items ≡ map (λ rating. rated_of l.catalog.sections (rating_entry rating)) (take l.section-index l.ratings)
