-- The clashes of one place.
use Rattle.std.specs.Prelude.{ℕ, ◌<◌, ◌≡◌, false, List, length}
use Rattle.bundle_rules.specs.declared.menu.Rated.{Rated}
use Rattle.bundle_rules.specs.Menus.{clash_in, ClashesWell}

-- the place does not clash with itself, and clashes well with each place
pub record RowIsSound (places : List Rated) (clashes : List ℕ) (a : ℕ) : Type 0 where
  pub each : (b : ℕ) → b < length places → ClashesWell places clashes a b
  pub not_itself : clash_in clashes a a ≡ false
