-- Bundles of listed students that are exchanged for others.
use Rattle.std.specs.Prelude.{ℕ, ◌<◌, ◌≤◌, ◌≡◌, ◌⊎◌, true, List, [], ◌∷◌, All, length, slice_index_or, slice_set}
use Rattle.market_units.specs.declared.units.StudentNo.{StudentNo}
use Rattle.bundle_rules.specs.declared.bundle.Bundle.{Bundle}
use Rattle.market_units.specs.Members.{has}

-- each listed student's bundle is the one at the same place of the other list
abbrev pub exchanged : List Bundle → List StudentNo → List Bundle → List Bundle
exchanged bundles [] others = bundles
exchanged bundles (student ∷ students) [] = bundles
exchanged bundles (student ∷ students) (other ∷ others) =
    exchanged (slice_set bundles student.0 other) students others

-- a student is on the list
abbrev pub IsListed : ℕ → List StudentNo → Type 0
IsListed i [] = ⊥
IsListed i (student ∷ students) = (student.0 ≡ i) ⊎ IsListed i students

-- the students whose bundle has the section, and no others
pub record AreHolders (s : ℕ) (bundles : List (List ℕ)) (students : List StudentNo) : Type 0 where
  pub few : length students ≤ length bundles
  pub range : All (λ student. student.0 < length bundles) students
  pub all : (i : ℕ) → i < length bundles → has (slice_index_or bundles i []) s ≡ true
      → IsListed i students
  pub only : All (λ student. has (slice_index_or bundles student.0 []) s ≡ true) students
