-- What is added up for a summary.
use Rattle.std.specs.Prelude.{ℕ, ℤ, pos, ◌+ℤ◌, List, [], ◌∷◌}
use Rattle.std.specs.List.{AllZip}
use Rattle.bundle_rules.specs.Menus.{MenuData, wishes_of}
use Rattle.bundle_rules.specs.Wishes.{AllRated, utility}

-- each bundle has rated sections of its menu alone
abbrev pub AreRatedBy : List MenuData → List (List ℕ) → Type 0
AreRatedBy menus bundles = AllZip (λ menu bundle. AllRated (wishes_of menu) bundle) menus bundles

-- the utilities of bundles by their menus, added up
abbrev pub worth_by_menus : List MenuData → List (List ℕ) → ℤ
worth_by_menus [] bundles = pos 0
worth_by_menus (menu ∷ menus) [] = pos 0
worth_by_menus (menu ∷ menus) (bundle ∷ bundles) =
    utility (wishes_of menu) bundle +ℤ worth_by_menus menus bundles
