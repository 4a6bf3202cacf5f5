-- Choices that are some sections and some of the later ones: what is tried below a node of an
-- enumeration.
use Rattle.std.specs.Prelude.{ℕ, ◌≡◌, ◌≢◌, Bool, true, List, ◌++◌}
use Rattle.market_units.specs.Members.{has}
use Rattle.bundle_rules.specs.Wishes.{Wishes}
use Rattle.bundle_rules.specs.Preferences.{IsPreferred}
use Rattle.bundle_rules.specs.Demand.{IsChoice}

-- the bundle is the front, and after it some of the later sections
pub record Extends (front later bundle : List ℕ) : Type 0 where
  pub more : List ℕ
  pub whole : bundle ≡ front ++ more
  pub among : (s : ℕ) → has more s ≡ true → has later s ≡ true

-- the choice that is preferred to every other one that extends the front
pub record IsBestExtension (wishes : Wishes) (price : ℕ → ℕ) (budget : ℕ) (allowed : ℕ → Bool)
    (front later bundle : List ℕ) : Type 0 where
  pub choice : IsChoice wishes price budget allowed bundle
  pub extends : Extends front later bundle
  pub preferred : (other : List ℕ) → IsChoice wishes price budget allowed other
      → Extends front later other → other ≢ bundle → IsPreferred wishes bundle other
