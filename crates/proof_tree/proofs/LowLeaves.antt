-- The number in a canonical symbol is that of a place on the menu.
use Rattle.std.proofs.Common.{◌≡◌, ◌<◌, ◌≤◌, ℕ, Option, List, length, arith}
use Rattle.bundle_rules.specs.Menus.{IsMenu}
use Rattle.bundle_bounds.specs.declared.nodes.Leaf.{Leaf}
use Rattle.bundle_bounds.specs.declared.nodes.Leaf.TheVariants.{Plain, Budget, Credits, Number}
use Rattle.bundle_bounds.specs.Offers.{OfferData}
use Rattle.bundle_bounds.proofs.LeafPlaces.{IsLow, pruning_low}
use Rattle.proof_tree.specs.declared.signs.Sign.{Sign}
use Rattle.proof_tree.specs.declared.signs.Sign.TheVariants.{Champion, Shut, Pruned, Forced, Open, Passed}
use Rattle.proof_tree.specs.Trees.{IsSign}
use Rattle.proof_tree.specs.Texts.{IsShort}

low_number : (n : ℕ) (leaf : Leaf) → n ≤ 60 → IsLow n leaf → IsShort (Pruned leaf)
low_number n Plain few low place some = absurd (cc some)
low_number n (Budget other) few low place some = let same : other ≡ place = cc some in let below : other < n = low in omega arith
low_number n (Credits other) few low place some = let same : other ≡ place = cc some in let below : other < n = low in omega arith
low_number n (Number other) few low place some = let same : other ≡ place = cc some in let below : other < n = low in omega arith

-- so a canonical symbol has a number of one or two digits at most
pub short_sign : (offer : OfferData) (required : Option ℕ) (champion : List ℕ) (k : ℕ) (cs : List ℕ) (sign : Sign) → IsMenu offer.menu
    → k ≤ length offer.menu.places → IsSign offer required champion k cs sign → IsShort sign
short_sign offer required champion k cs Champion menu within is place some = absurd (cc some)
short_sign offer required champion k cs Shut menu within is place some = absurd (cc some)
short_sign offer required champion k cs (Pruned leaf) menu within is place some =
    low_number (length offer.menu.places) leaf menu.places.few (pruning_low offer k cs champion leaf within is.1) place some
short_sign offer required champion k cs Forced menu within is place some = absurd (cc some)
short_sign offer required champion k cs Open menu within is place some = absurd (cc some)
short_sign offer required champion k cs Passed menu within is place some = absurd (cc some)
