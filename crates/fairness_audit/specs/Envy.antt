-- When a student likes what it sees in the bundle of another better than what it has.
use Rattle.std.specs.Prelude.{ℕ, ℤ, Bool, not, int_lt, Option, List}
use Rattle.std.specs.List.{find}
use Rattle.bundle_rules.specs.Best.{best}
use Rattle.bundle_rules.specs.Menus.{MenuData, worth}
use Rattle.market_units.specs.Members.{has}
use Rattle.bundle_rules.specs.Sets.{without_section}

-- what a student with this menu sees in a bundle: its best bundle out of these sections, where none
-- costs anything
abbrev pub seen : MenuData → List ℕ → List ℕ
seen menu bundle = best menu (λ s. 0) 0 (has bundle)

-- what is seen in the bundle is worth more than this
abbrev pub is_more : MenuData → ℤ → List ℕ → Bool
is_more menu own bundle = int_lt own (worth menu (seen menu bundle))

-- The lowest section of the bundle but for which what is seen is not worth more; none where there
-- is no such section. Bundles ascend.
abbrev pub ended_by : MenuData → ℤ → List ℕ → Option ℕ
ended_by menu own bundle = find (λ s. not (is_more menu own (without_section s bundle))) bundle
