-- Sets of sections. A set is written as its ordinals in ascending order, so that equal sets are
-- equal lists.
use Rattle.std.specs.Prelude.{ℕ, ◌<◌, ◌≡◌, ◌==◌, not, true, false, ⊤, List, [], ◌∷◌}
use Rattle.std.specs.List.{filter}
use Rattle.std.specs.Coded.{×_prop, Unit-prop, le_prop}
use Rattle.market_units.specs.Members.{has}

-- each section of the set is above this one
abbrev pub AllAbove : ℕ → List ℕ → Type 0
AllAbove s [] = ⊤
AllAbove s (t ∷ ts) = (s < t) × AllAbove s ts

-- each section is below all later ones
abbrev pub IsAscending : List ℕ → Type 0
IsAscending [] = ⊤
IsAscending (s ∷ ss) = AllAbove s ss × IsAscending ss

-- the set without the section
abbrev pub without_section : ℕ → List ℕ → List ℕ
without_section s set = filter (λ t. not (t == s)) set

-- the lowest section on which they differ is in the first
abbrev pub DiffersFirstIn : List ℕ → List ℕ → Type 0
DiffersFirstIn a b =
    (s : ℕ) × (has a s ≡ true) × (has b s ≡ false) × ((t : ℕ) → t < s → has a t ≡ has b t)

-- at most one proof, so that a type may keep the fact
pub AllAbove-prop : (s : ℕ) (ts : List ℕ) → IsProp (AllAbove s ts)
AllAbove-prop s [] = Unit-prop
AllAbove-prop s (t ∷ ts) = ×_prop le_prop (AllAbove-prop s ts)

pub IsAscending-prop : (ss : List ℕ) → IsProp (IsAscending ss)
IsAscending-prop [] = Unit-prop
IsAscending-prop (s ∷ ss) = ×_prop (AllAbove-prop s ss) (IsAscending-prop ss)
