-- Where a node of the search needs no more search.
use Rattle.std.specs.Prelude.{ℕ, ◌≡◌, ◌⊎◌, Bool, true, List}
use Rattle.bundle_rules.specs.Sets.{DiffersFirstIn}
use Rattle.bundle_rules.specs.Menus.{wishes_of}
use Rattle.bundle_rules.specs.Preferences.{IsPreferred}
use Rattle.bundle_bounds.specs.Offers.{OfferData}
use Rattle.bundle_bounds.specs.Laws.{IsTakable, Completes}

-- the first bundle is the second, or preferred to it
abbrev pub IsAsGood : OfferData → List ℕ → List ℕ → Type 0
IsAsGood offer a b = (b ≡ a) ⊎ IsPreferred (wishes_of offer.menu) a b

-- the champion is as good as every takable bundle that completes the node and is wanted: every
-- bundle for the plain demand, those with a section where it must be there
abbrev pub MayPrune : OfferData → (List ℕ → Bool) → ℕ → List ℕ → List ℕ → Type 0
MayPrune offer wanted k chosen champion =
    (bundle : List ℕ) → IsTakable offer bundle → wanted bundle ≡ true
    → Completes offer k chosen bundle → IsAsGood offer champion bundle

-- champion has is the champion's
abbrev pub ComesFirst : OfferData → ℕ → List ℕ → List ℕ → Type 0
ComesFirst offer k chosen champion =
    (bundle : List ℕ) → IsTakable offer bundle → Completes offer k chosen bundle
    → DiffersFirstIn champion bundle
