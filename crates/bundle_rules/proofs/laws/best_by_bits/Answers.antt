use Rattle.std.proofs.Common.{subst}
use Rattle.bundle_rules.specs.Menus.{wishes_of}
use Rattle.bundle_rules.specs.Places.{menu_sections, AreBestBits}
use Rattle.bundle_rules.proofs.Bits.{bits_of-chosen}
use Rattle.bundle_rules.proofs.BestBits.{best_from_bits, best_to_bits, choice_among}
use Rattle.market_units.specs.Subsets.{chosen}
use Rattle.bundle_rules.proofs.laws.best_by_bits.Goals as goal

pub returns : goal.returns
returns c = λ menu price budget allowed bits is same. (
  best_from_bits (wishes_of menu) price budget allowed (menu_sections menu) is.places.ascending (choice_among menu price budget allowed) bits,
  (λ best. subst (AreBestBits (wishes_of menu) (menu_sections menu) price budget allowed) (bits_of-chosen bits (menu_sections menu) is.places.ascending same)
      (best_to_bits (wishes_of menu) price budget allowed (menu_sections menu) is.places.ascending (choice_among menu price budget allowed)
      (chosen bits (menu_sections menu)) best)),
)
