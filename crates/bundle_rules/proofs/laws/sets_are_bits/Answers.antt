use Rattle.bundle_rules.specs.Places.{menu_sections}
use Rattle.bundle_rules.proofs.Bits.{bits_of-chosen, chosen-bits_of}
use Rattle.bundle_rules.proofs.BestBits.{utility-chosen}
use Rattle.bundle_rules.proofs.Feasibility.{among_sections}
use Rattle.bundle_rules.proofs.laws.sets_are_bits.Goals as goal

pub returns : goal.returns
returns c = λ menu is. record {
  set = λ bundle up rated. chosen-bits_of (menu_sections menu) bundle is.places.ascending up (among_sections menu bundle rated);
  bits = λ bits same. bits_of-chosen bits (menu_sections menu) is.places.ascending same;
  utility = λ bits. utility-chosen menu bits is;
}
