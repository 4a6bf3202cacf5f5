-- The best bundle with a given section, and of all bundles that are wanted for some reason.
use Rattle.std.specs.Prelude.{ℕ, ◌≡◌, ◌≢◌, Bool, true, List}
use Rattle.market_units.specs.Members.{has}
use Rattle.bundle_rules.specs.Wishes.{Wishes}
use Rattle.bundle_rules.specs.Preferences.{IsPreferred}
use Rattle.bundle_rules.specs.Demand.{IsChoice}

-- the wanted choice that is preferred to every other wanted one
pub record IsBestOf (wishes : Wishes) (price : ℕ → ℕ) (budget : ℕ) (allowed : ℕ → Bool)
    (wanted : List ℕ → Bool) (bundle : List ℕ) : Type 0 where
  pub choice : IsChoice wishes price budget allowed bundle
  pub is_wanted : wanted bundle ≡ true
  pub preferred : (other : List ℕ) → IsChoice wishes price budget allowed other
      → wanted other ≡ true → other ≢ bundle → IsPreferred wishes bundle other

-- the choice with the section that is preferred to every other one with it
abbrev pub IsBestWith : Wishes → (ℕ → ℕ) → ℕ → (ℕ → Bool) → ℕ → List ℕ → Type 0
IsBestWith wishes price budget allowed section bundle =
    IsBestOf wishes price budget allowed (λ b. has b section) bundle

-- some choice has the section
abbrev pub SomeHas : Wishes → (ℕ → ℕ) → ℕ → (ℕ → Bool) → ℕ → Type 0
SomeHas wishes price budget allowed section =
    (bundle : List ℕ) × IsChoice wishes price budget allowed bundle × (has bundle section ≡ true)
