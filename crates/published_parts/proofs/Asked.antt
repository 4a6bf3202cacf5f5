-- The students of a market's crowd: their menus say what they want, and their budgets are those of the market.
use Rattle.std.proofs.Common.{ℕ, zero, suc, ◌≡◌, ◌<◌, ◌∙◌, List, [], ◌∷◌, length, map, get_or, refl, ap, arith}
use Rattle.std.specs.List.{AllZip}
use Rattle.std.proofs.lemmas.List.{get_or-map}
use Rattle.bundle_rules.specs.Agreement.{Agrees}
use Rattle.bundle_rules.specs.Menus.{wishes_of}
use Rattle.course_catalog.specs.Sections.{Section}
use Rattle.demand_api.specs.Crowds.{CrowdData, Student as Asked}
use Rattle.market_menus.specs.MenusOf.{AreMenusOf, IsMenuOf}
use Rattle.market_menus.proofs.WantedFacts.{menu_agrees}
use Rattle.preference_desk.specs.StudentPreferences.{StudentPreferences}
use Rattle.preference_desk.specs.declared.entry.Entry.{Entry}
use Rattle.student_roll.specs.Students.{Student}
use Rattle.published_parts.specs.Markets.{Market, names_in}
use Rattle.published_parts.specs.Journals.{wanted_in, wishes_in}
use Rattle.published_parts.specs.Crowds.{IsCrowdIn}
use Rattle.published_parts.specs.Offers.{nobody}
use Rattle.published_parts.proofs.LowerFirst.{wanted_lower}

-- items of two lists at one place
pub zip_at : {A B : Type 0} (R : A → B → Type 0) (xs : List A) (ys : List B) (k : ℕ) (d : A) (e : B) → AllZip R xs ys → k < length xs
    → R (get_or xs k d) (get_or ys k e)
zip_at R (x ∷ xs) (y ∷ ys) zero d e are inside = are.0
zip_at R (x ∷ xs) (y ∷ ys) (suc k) d e are inside = zip_at R xs ys k d e are.1 (omega arith)
zip_at R [] ys k d e are inside = absurd (omega arith)
zip_at R (x ∷ xs) [] k d e are inside = absurd are

menus_count : (catalog : List Section) (roll : List Student) (wanted : List StudentPreferences) (asked : List Asked)
    → AreMenusOf catalog roll wanted (map (λ (student : Asked). student.menu) asked) → length asked ≡ length roll
menus_count catalog [] [] [] are = refl
menus_count catalog (s ∷ roll) (w ∷ wanted) (a ∷ asked) are = ap suc (menus_count catalog roll wanted asked are.1)
menus_count catalog [] [] (a ∷ asked) are = absurd are
menus_count catalog [] (w ∷ wanted) asked are = absurd are
menus_count catalog (s ∷ roll) [] asked are = absurd are
menus_count catalog (s ∷ roll) (w ∷ wanted) [] are = absurd are

menu_at : (catalog : List Section) (roll : List Student) (wanted : List StudentPreferences) (asked : List Asked) (k : ℕ) (s : Student) (w : StudentPreferences)
    (a : Asked)
    → AreMenusOf catalog roll wanted (map (λ (student : Asked). student.menu) asked)
    → k < length roll → IsMenuOf catalog (get_or roll k s) (get_or wanted k w) (get_or asked k a).menu
menu_at catalog (one ∷ roll) (two ∷ wanted) (three ∷ asked) zero s w a are inside = are.0
menu_at catalog (one ∷ roll) (two ∷ wanted) (three ∷ asked) (suc k) s w a are inside = menu_at catalog roll wanted asked k s w a are.1 (omega arith)
menu_at catalog [] wanted asked k s w a are inside = absurd (omega arith)
menu_at catalog (one ∷ roll) [] asked k s w a are inside = absurd are
menu_at catalog (one ∷ roll) (two ∷ wanted) [] k s w a are inside = absurd are

-- as many as the roll has
pub crowd_count : (market : Market) (journal : List Entry) (crowd : CrowdData) → IsCrowdIn market journal crowd
    → length crowd.students ≡ length market.roll.students
crowd_count market journal crowd is = menus_count market.catalog.sections market.roll.students (wanted_in market journal) crowd.students is.menus

-- each has a menu of what the student wants and may take
pub menu_says : (market : Market) (journal : List Entry) (crowd : CrowdData) (student : ℕ) → IsCrowdIn market journal crowd
    → student < length market.roll.students
    → Agrees (wishes_of (get_or crowd.students student nobody).menu) (wishes_in market journal student)
menu_says market journal crowd student is inside =
    menu_agrees market.catalog.sections _ _ (get_or crowd.students student nobody).menu (wanted_lower (names_in market) journal student)
    (menu_at market.catalog.sections market.roll.students (wanted_in market journal) crowd.students student _ _ nobody is.menus inside)

-- each has the budget at its place
pub budget_at : (budgets : List ℕ) (students : List Asked) (k : ℕ) → budgets ≡ map (λ (student : Asked). student.budget) students → k < length students
    → get_or budgets k 0 ≡ (get_or students k nobody).budget
budget_at budgets students k same inside = ap (λ all. get_or all k 0) same ∙ get_or-map (λ (student : Asked). student.budget) students k nobody 0 inside
