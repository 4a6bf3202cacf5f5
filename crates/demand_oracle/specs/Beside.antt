-- What leads all bundles that lack a section.
use Rattle.std.specs.Prelude.{ℕ, ◌≡◌, ◌≢◌, Bool, false, List}
use Rattle.market_units.specs.Members.{has}
use Rattle.bundle_rules.specs.Wishes.{Wishes}
use Rattle.bundle_rules.specs.Preferences.{IsPreferred}
use Rattle.bundle_rules.specs.Demand.{IsChoice}

-- the choice is preferred to every other one without the section; it may have the section itself
pub record LeadsThoseWithout (wishes : Wishes) (price : ℕ → ℕ) (budget : ℕ) (allowed : ℕ → Bool)
    (section : ℕ) (bundle : List ℕ) : Type 0 where
  pub choice : IsChoice wishes price budget allowed bundle
  pub preferred : (other : List ℕ) → IsChoice wishes price budget allowed other
      → has other section ≡ false → other ≢ bundle → IsPreferred wishes bundle other
