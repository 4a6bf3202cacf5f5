-- The menus of the students so far.
use Rattle.std.proofs.Common.{ℕ, ◌≡◌, ◌<◌, ◌+◌, List, [], ◌∷◌, ◌++◌, ◌∙◌, ap, map, length, take, get_or}
use Rattle.std.specs.Prelude.{ℤ}
use Rattle.std.specs.List.{filter_map}
use Rattle.std.specs.FinMap.{entries}
use Rattle.std.proofs.lemmas.List.{take_more}
use Rattle.market_units.specs.declared.units.SectionNo.{SectionNo}
use Rattle.bundle_rules.specs.declared.menu.Rated.{Rated}
use Rattle.bundle_rules.specs.Menus.{IsMenu, MenuData}
use Rattle.course_catalog.specs.Sections.{Section}
use Rattle.preference_desk.specs.Rows.{pair_entry, rating_entry}
use Rattle.preference_desk.specs.StudentPreferences.{StudentPreferences}
use Rattle.student_roll.specs.Students.{Student}
use Rattle.market_menus.specs.ClashWords.{AreClashWords}
use Rattle.market_menus.specs.MenusOf.{AreMenusOf, IsMenuOf, places_of, rated_of}
use Rattle.market_menus.specs.PairPlaces.{pair_among}
use Rattle.market_menus.proofs.ClashFacts.{off_menu, on_menu}
use Rattle.market_menus.proofs.PairFacts.{filter_map-map, pairs_by_ratings}
use Rattle.market_menus.proofs.PlaceFacts.{map_twice}

one_more : (catalog : List Section) (students : List Student) (preferences : List StudentPreferences) (menus : List MenuData) (student : Student)
    (wanted : StudentPreferences) (menu : MenuData)
    → AreMenusOf catalog students preferences menus → IsMenuOf catalog student wanted menu
    → AreMenusOf catalog (students ++ student ∷ []) (preferences ++ wanted ∷ []) (menus ++ menu ∷ [])
one_more catalog [] [] [] student wanted menu so is = (is, tt)
one_more catalog (s ∷ students) (w ∷ preferences) (m ∷ menus) student wanted menu so is =
    (so.0, one_more catalog students preferences menus student wanted menu so.1 is)
one_more catalog [] [] (m ∷ menus) student wanted menu so is = absurd so
one_more catalog [] (w ∷ preferences) menus student wanted menu so is = absurd so
one_more catalog (s ∷ students) [] menus student wanted menu so is = absurd so
one_more catalog (s ∷ students) (w ∷ preferences) [] student wanted menu so is = absurd so

-- one more student
pub menus_more : (catalog : List Section) (students : List Student) (preferences : List StudentPreferences) (menus : List MenuData) (n : ℕ) (s : Student)
    (w : StudentPreferences) (menu : MenuData)
    → n < length students → n < length preferences → AreMenusOf catalog (take n students) (take n preferences) menus
    → IsMenuOf catalog (get_or students n s) (get_or preferences n w) menu
    → AreMenusOf catalog (take (n + 1) students) (take (n + 1) preferences) (menus ++ menu ∷ [])
menus_more catalog students preferences menus n s w menu first second so is =
    rw (take_more students n s first, take_more preferences n w second)
    (one_more catalog (take n students) (take n preferences) menus (get_or students n s) (get_or preferences n w) menu so is)

-- the data of a student's menu
abbrev pub menu_data : List Rated → List (ℕ × ℕ × ℤ) → List ℕ → ℕ → ℕ → MenuData
menu_data places pairs words credits courses = record { places = places; pairs = pairs; clashes = words; credits = credits; courses = courses }

-- what is made of the ratings, the pairs, the clashes and the caps is the student's menu
pub is_menu : (catalog : List Section) (student : Student) (wanted : StudentPreferences) (ratings : List (SectionNo × ℕ))
    (items : List (SectionNo × SectionNo × ℤ)) (places : List Rated) (pairs : List (ℕ × ℕ × ℤ)) (words : List ℕ) (credits courses : ℕ)
    → places ≡ map (λ rating. rated_of catalog (rating_entry rating)) ratings → map rating_entry ratings ≡ entries wanted.ratings
    → pairs ≡ filter_map (λ pair. pair_among places (pair_entry pair)) items → map pair_entry items ≡ entries wanted.pairs
    → AreClashWords catalog places words → credits ≡ student.credits → courses ≡ student.courses → IsMenu (menu_data places pairs words credits courses)
    → IsMenuOf catalog student wanted (menu_data places pairs words credits courses)
is_menu catalog student wanted ratings items places pairs words credits courses made rated kept adjusted clashes most many limits =
    let whole : places ≡ places_of catalog wanted = made ∙ map_twice (rated_of catalog) rating_entry ratings ∙ ap (map (rated_of catalog)) rated in
    record {
      places = whole;
      pairs = kept ∙ filter_map-map (pair_among places) pair_entry items ∙ ap (filter_map (pair_among places)) adjusted
          ∙ ap (λ (all : List Rated). filter_map (pair_among all) (entries wanted.pairs)) whole ∙ pairs_by_ratings catalog wanted;
      words = clashes.whole;
      clashes = λ a b. on_menu catalog places words a b clashes;
      no_more = λ a b. off_menu catalog places words a b clashes;
      credits = most;
      courses = many;
      limits = limits;
    }
