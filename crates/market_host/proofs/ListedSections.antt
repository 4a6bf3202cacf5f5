-- The sections of a bundle that a menu allows are sections of the catalogue.
use Rattle.std.proofs.Common.{ℕ, zero, suc, ◌≡◌, ◌<◌, true, List, [], ◌∷◌, All, length, get_or, map, arith, subst, sym}
use Rattle.std.proofs.lemmas.List.Elements.{All-head, All-tail}
use Rattle.std.specs.FinMap.{entries}
use Rattle.std.specs.Prelude.{slice_index_or}
use Rattle.bundle_rules.specs.declared.menu.Rated.{Rated}
use Rattle.bundle_rules.specs.Existence.Members.{all_of_has}
use Rattle.bundle_rules.specs.Existence.Places.{section_at-place_in}
use Rattle.bundle_rules.specs.Menus.{MenuData, place_in, section_at, wishes_of}
use Rattle.bundle_rules.specs.Ordinals.{ordinals}
use Rattle.market_units.specs.Members.{has}
use Rattle.bundle_rules.specs.Wishes.{IsFeasible}
use Rattle.bundle_rules.proofs.Feasibility.{place_of_rated}
use Rattle.course_catalog.specs.Sections.{Section}
use Rattle.market_menus.specs.MenusOf.{AreMenusOf, IsMenuOf, places_of, rated_of}
use Rattle.market_units.proofs.Images.{unmapped}
use Rattle.market_units.specs.declared.units.SectionNo.{SectionNo}
use Rattle.preference_desk.specs.StudentPreferences.{SectionsBelow, StudentPreferences, no_preferences}
use Rattle.student_roll.specs.Students.{Student}
use Rattle.market_host.proofs.QuoteFacts.{first_menu}

place_below : (catalog : List Section) (n : ℕ) (es : List (ℕ × ℕ)) (k : ℕ) → All (λ (rated : ℕ × ℕ). rated.0 < n) es → k < length (map (rated_of catalog) es)
    → section_at (map (rated_of catalog) es) k < n
place_below catalog n [] k below inside = absurd (omega arith)
place_below catalog n (e ∷ es) zero below inside = All-head (λ (rated : ℕ × ℕ). rated.0 < n) e es below
place_below catalog n (e ∷ es) (suc k) below inside = place_below catalog n es k (All-tail (λ (rated : ℕ × ℕ). rated.0 < n) e es below) (omega arith)

-- a section that has a place on the menu is one of the catalogue
listed : (catalog : List Section) (wanted : StudentPreferences) (places : List Rated) (s : ℕ) → SectionsBelow (length catalog) wanted
    → places ≡ places_of catalog wanted → place_in places s < length places → s < length catalog
listed catalog wanted places s below are inside =
    let k : ℕ = place_in places s in
    let within : k < length (places_of catalog wanted) = subst (λ all. k < length all) are inside in
    let at : section_at (places_of catalog wanted) k ≡ s = subst (λ all. section_at all k ≡ s) are (section_at-place_in places s inside) in
    subst (λ section. section < length catalog) at (place_below catalog (length catalog) (entries wanted.ratings) k below.rated within)

-- the sections of a feasible bundle
pub bundle_listed : (catalog : List Section) (student : Student) (wanted : StudentPreferences) (menu : MenuData) (bundle : List ℕ) (sections : List SectionNo)
    → IsMenuOf catalog student wanted menu
    → SectionsBelow (length catalog) wanted → IsFeasible (wishes_of menu) bundle → ordinals sections ≡ bundle
    → All (λ (section : SectionNo). section.0 < length catalog) sections
bundle_listed catalog student wanted menu bundle sections is below feasible same =
    let each : (s : ℕ) → has bundle s ≡ true → s < length catalog =
    λ s in_bundle. listed catalog wanted menu.places s below is.places (place_of_rated menu bundle feasible.rated s in_bundle) in
    unmapped (λ s. s < length catalog) (λ (section : SectionNo). section.0) sections
    (subst (All (λ s. s < length catalog)) (sym same)
    (unmapped (λ s. s < length catalog) (λ s. s) bundle (all_of_has (λ s. s < length catalog) (λ s. s) bundle each)))

has_preferences : (catalog : List Section) (student : Student) (preferences : List StudentPreferences) (menus : List MenuData)
    → AreMenusOf catalog (student ∷ []) preferences menus → 0 < length preferences
has_preferences catalog student (wanted ∷ more) (menu ∷ menus) are = omega arith
has_preferences catalog student [] menus are = absurd are
has_preferences catalog student (wanted ∷ more) [] are = absurd are

-- the same of the menu of an only student
pub first_bundle_listed : (catalog : List Section) (student : Student) (roll : List Student) (preferences : List StudentPreferences) (menus : List MenuData)
    (menu : MenuData) (bundle : List ℕ) (sections : List SectionNo)
    → roll ≡ student ∷ [] → All (SectionsBelow (length catalog)) preferences → AreMenusOf catalog roll preferences menus → menu ≡ get_or menus 0 menu
    → IsFeasible (wishes_of menu) bundle
    → ordinals sections ≡ bundle → All (λ (section : SectionNo). section.0 < length catalog) sections
first_bundle_listed catalog student roll preferences menus menu bundle sections one below are at feasible same =
    let own : AreMenusOf catalog (student ∷ []) preferences menus = subst (λ all. AreMenusOf catalog all preferences menus) one are in
    let wanted = slice_index_or preferences 0 no_preferences in
    let first : IsMenuOf catalog student (slice_index_or preferences 0 no_preferences) (get_or menus 0 menu) =
    first_menu catalog student preferences menus menu own in
    bundle_listed catalog student wanted menu bundle sections (subst (IsMenuOf catalog student wanted) (sym at) first)
    (below 0 no_preferences (has_preferences catalog student preferences menus own)) feasible same
