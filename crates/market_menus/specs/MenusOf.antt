-- The menus of the closed preferences.
use Rattle.std.specs.Prelude.{ℕ, ℤ, ◌≡◌, ◌<◌, ◌≤◌, ◌&&◌, false, List, [], ◌∷◌, ⊤, length, map, Option, Some, None, if◌then◌else◌}
use Rattle.std.specs.List.{filter_map}
use Rattle.std.specs.FinMap.{contains_key, entries}
use Rattle.bundle_rules.specs.Menus.{IsMenu, MenuData, clash_in, section_at, place_in}
use Rattle.bundle_rules.specs.declared.menu.Rated.{Rated}
use Rattle.course_catalog.specs.Courses.{course_number}
use Rattle.course_catalog.specs.Sections.{Section, section_at as listed, sections_clash}
use Rattle.preference_desk.specs.StudentPreferences.{StudentPreferences}
use Rattle.student_roll.specs.Students.{Student}

-- a section and its rating, with the catalogue's course and credits
abbrev pub rated_of : List Section → (ℕ × ℕ) → Rated
rated_of catalog rating = record {
  section = record { 0 = rating.0 };
  course = course_number catalog (listed catalog rating.0).course;
  rating = rating.1;
  credits = (listed catalog rating.0).credits;
}

-- the rated sections, ascending
abbrev pub places_of : List Section → StudentPreferences → List Rated
places_of catalog wanted = map (rated_of catalog) (entries wanted.ratings)

-- an adjusted pair by the places of its sections, where both are rated
abbrev pub pair_on_menu : List Section → StudentPreferences → ((ℕ × ℕ) × ℤ) → Option (ℕ × ℕ × ℤ)
pair_on_menu catalog wanted adjusted =
    let places = places_of catalog wanted in
    if contains_key wanted.ratings adjusted.0.0 && contains_key wanted.ratings adjusted.0.1
    then Some (place_in places adjusted.0.0, place_in places adjusted.0.1, adjusted.1) else None

-- the menu of a student: the rated sections with the catalogue's courses, credits and clashes, the
-- pairs both of whose sections are rated, and the roll's caps; of clashes one word for each place,
-- with no bit above the places; and within the limits of menus
pub record IsMenuOf (catalog : List Section) (student : Student) (wanted : StudentPreferences)
    (menu : MenuData) : Type 0 where
  pub places : menu.places ≡ places_of catalog wanted
  pub pairs : menu.pairs ≡ filter_map (pair_on_menu catalog wanted) (entries wanted.pairs)
  pub words : length menu.clashes ≡ length menu.places
  pub clashes : (a b : ℕ) → a < length menu.places → b < length menu.places
      → clash_in menu.clashes a b
      ≡ sections_clash catalog (section_at menu.places a) (section_at menu.places b)
  pub no_more : (a b : ℕ) → a < length menu.places → length menu.places ≤ b
      → clash_in menu.clashes a b ≡ false
  pub credits : menu.credits ≡ student.credits
  pub courses : menu.courses ≡ student.courses
  pub limits : IsMenu menu

-- one menu for each student of the roll, in file order
abbrev pub AreMenusOf : List Section → List Student → List StudentPreferences → List MenuData
    → Type 0
AreMenusOf catalog (student ∷ students) (wanted ∷ more) (menu ∷ menus) =
    IsMenuOf catalog student wanted menu × AreMenusOf catalog students more menus
AreMenusOf catalog [] [] [] = ⊤
AreMenusOf catalog _ _ _ = ⊥

-- a student has one menu
abbrev pub OneMenu : Type 0
OneMenu =
    (catalog : List Section) (student : Student) (wanted : StudentPreferences)
    (one other : MenuData)
    → IsMenuOf catalog student wanted one → IsMenuOf catalog student wanted other → one ≡ other

-- so a roll of students has one list of menus
abbrev pub OneListOfMenus : Type 0
OneListOfMenus =
    (catalog : List Section) (students : List Student) (preferences : List StudentPreferences)
    (one other : List MenuData)
    → AreMenusOf catalog students preferences one → AreMenusOf catalog students preferences other
    → one ≡ other
