-- The sections of a student's rows are below the number of sections.
use Rattle.std.proofs.Common.{ℕ, ◌≡◌, ◌<◌, List, map, sym, subst}
use Rattle.std.specs.Prelude.{ℤ, All}
use Rattle.std.specs.FinMap.{entries}
use Rattle.market_units.proofs.Images.{unmapped}
use Rattle.market_units.specs.declared.units.SectionNo.{SectionNo}
use Rattle.preference_desk.specs.Rows.{pair_entry, rating_entry}
use Rattle.preference_desk.specs.StudentPreferences.{SectionsBelow, StudentPreferences}

-- the sections of a student's ratings are below the number of sections
pub rated_below : (n : ℕ) (wanted : StudentPreferences) (items : List (SectionNo × ℕ)) → SectionsBelow n wanted
    → map rating_entry items ≡ entries wanted.ratings → All (λ (rated : SectionNo × ℕ). rated.0.0 < n) items
rated_below n wanted items below is =
    unmapped (λ (rated : ℕ × ℕ). rated.0 < n) rating_entry items (subst (All (λ (rated : ℕ × ℕ). rated.0 < n)) (sym is) below.rated)

-- and so are those of the student's adjustments
pub adjusted_below : (n : ℕ) (wanted : StudentPreferences) (items : List (SectionNo × SectionNo × ℤ)) → SectionsBelow n wanted
    → map pair_entry items ≡ entries wanted.pairs
    → All (λ (adjusted : SectionNo × SectionNo × ℤ). (adjusted.0.0 < n) × (adjusted.1.0 < n)) items
adjusted_below n wanted items below is =
    unmapped (λ (adjusted : (ℕ × ℕ) × ℤ). (adjusted.0.0 < n) × (adjusted.0.1 < n)) pair_entry items
    (subst (All (λ (adjusted : (ℕ × ℕ) × ℤ). (adjusted.0.0 < n) × (adjusted.0.1 < n))) (sym is) below.adjusted)
