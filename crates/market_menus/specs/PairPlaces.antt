-- Places of the sections of a pair.
use Rattle.std.specs.Prelude.{ℕ, ℤ, List, length, nat_lt, Option, Some, None, if◌then◌else◌, option_map}
use Rattle.std.specs.Option.{option_and_then}
use Rattle.bundle_rules.specs.Menus.{place_in}
use Rattle.bundle_rules.specs.declared.menu.Rated.{Rated}

-- the place of a section, where it has one
abbrev pub place_among : List Rated → ℕ → Option ℕ
place_among places s =
    if nat_lt (place_in places s) (length places) then Some (place_in places s) else None

-- the places of both sections, with the adjustment, where both have one
abbrev pub pair_among : List Rated → ((ℕ × ℕ) × ℤ) → Option (ℕ × ℕ × ℤ)
pair_among places adjusted =
    option_and_then
    (λ first. option_map (λ second. (first, second, adjusted.1)) (place_among places adjusted.0.1))
    (place_among places adjusted.0.0)
