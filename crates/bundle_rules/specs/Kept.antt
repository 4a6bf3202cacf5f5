-- What a menu keeps beside the data that it was built of.
use Rattle.std.specs.Prelude.{ℕ, ℤ, ◌<◌, ◌≡◌, ◌*◌, ◌+◌, List, length, slice_index_or, pos}
use Rattle.bundle_rules.specs.Menus.{MenuData, IsMenu, adjustment_in}

-- a table with a row for each place, of its adjustments with each place
pub record IsTable (places : ℕ) (pairs : List (ℕ × ℕ × ℤ)) (table : List ℤ) : Type 0 where
  pub size : length table ≡ places * places
  pub each : (a b : ℕ) → a < places → b < places
      → slice_index_or table (a * places + b) (pos 0) ≡ adjustment_in pairs a b

-- a menu with the table of its adjustments
pub record IsKept (menu : MenuData) (adjustments : List ℤ) : Type 0 where
  pub sound : IsMenu menu
  pub table : IsTable (length menu.places) menu.pairs adjustments
