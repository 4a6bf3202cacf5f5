-- What is looked up at each place where the same sections are chosen.
use Rattle.std.specs.Prelude.{ℕ, List, ◌+◌, ◌*◌, ◌-◌, ◌/◌, ◌^◌, ◌≤◌, ◌≡◌, ◌⊎◌, length}
use Rattle.bundle_rules.specs.Menus.{MenuData}
use Rattle.bundle_bounds.specs.Offers.{OfferData, places_of}
use Rattle.bundle_bounds.specs.Opens.{budget_left, credits_left}
use Rattle.demand_oracle.specs.declared.summed_node.SummedNode.{SummedNode}
use Rattle.demand_oracle.specs.declared.reach.Reach.{Reach}
use Rattle.demand_oracle.specs.declared.reach.Column.{Column}
use Rattle.demand_oracle.specs.SummedNodes.{chosen_of}

-- a column has so much of the budget in units, and what is paid for that and for so many credits at
-- the reach's multipliers
pub record HasLeft (reach : Reach) (budget credits : ℕ) (column : Column) : Type 0 where
  pub units : column.units ≡ budget / 2 ^ reach.unit.shift
  pub paid : column.paid ≡ reach.credits.money * budget + reach.credits.credits * credits

-- the column where so many courses, so much of the budget and so many credits are left: no more
-- sections fit than its count; where one does, it has what is left, or enough for anything
pub record IsColumnFor (reach : Reach) (courses budget credits : ℕ) (column : Column) : Type 0 where
  pub within : column.count ≤ courses
  pub enough : (count : ℕ) → count ≤ courses → count * reach.lightest ≤ credits
      → count ≤ column.count
  pub paid : (column.count ≡ 0)
      ⊎ ((2 ^ 62 ≤ column.paid) ⊎ HasLeft reach budget credits column)

-- the column of a node with its sums
abbrev pub IsColumn : MenuData → ℕ → Reach → SummedNode → Column → Type 0
IsColumn menu budget reach summed column =
    IsColumnFor reach (menu.courses - length (chosen_of summed)) (budget - summed.paid)
    (menu.credits - summed.credits) column

-- the column of a node, by what its sections leave
abbrev pub IsColumnAt : OfferData → Reach → List ℕ → Column → Type 0
IsColumnAt offer reach chosen column =
    IsColumnFor reach (offer.menu.courses - length chosen)
    (budget_left offer (places_of offer.menu chosen))
    (credits_left offer (places_of offer.menu chosen)) column
