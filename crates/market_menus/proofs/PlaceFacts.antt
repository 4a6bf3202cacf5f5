-- The places that are made of ratings.
use Rattle.std.proofs.Common.{ℕ, zero, suc, ◌≡◌, ◌<◌, ◌≤◌, ◌∙◌, Bool, true, false, cond, ◌||◌, nat_eq, List, [], ◌∷◌, map, length, get_or, refl, ap, sym, subst, arith}
use Rattle.std.specs.Prelude.{All, nat_lt}
use Rattle.std.specs.List.{list_any}
use Rattle.std.specs.Ordering.{nat_cmp, eq_by_cmp}
use Rattle.std.specs.FinMap.{FinMap, contains_key, contains_key-keys, entries}
use Rattle.std.proofs.lemmas.Bool.Decides.{nat_tests}
use Rattle.std.proofs.lemmas.List.{length-map}
use Rattle.std.proofs.lemmas.List.Elements.{All-map}
use Rattle.market_units.specs.declared.units.SectionNo.{SectionNo}
use Rattle.bundle_rules.specs.declared.menu.Rated.{Rated}
use Rattle.bundle_rules.specs.Menus.{ArePlaces, IsRated, place_in, course_at, section_at}
use Rattle.bundle_rules.specs.Sets.{IsAscending}
use Rattle.course_catalog.specs.Catalog.{CatalogData, IsCatalog}
use Rattle.course_catalog.specs.Courses.{course_number}
use Rattle.course_catalog.specs.Sections.{Section, section_at as listed}
use Rattle.preference_desk.specs.Rows.{AreRatings, rating_entry}
use Rattle.preference_desk.specs.StudentPreferences.{SectionsBelow, StudentPreferences}
use Rattle.preference_desk.proofs.BelowLemmas.{rated_below}
use Rattle.market_menus.specs.MenusOf.{rated_of}
use Rattle.market_menus.proofs.Orders.{ascending_keys, equal_is}
use Rattle.bundle_rules.proofs.RankedRows.{section_at-get_or}

pub map_twice : {A B C : Type 0} (g : B → C) (f : A → B) (xs : List A) → map (λ x. g (f x)) xs ≡ map g (map f xs)
map_twice g f [] = refl
map_twice g f (x ∷ xs) = ap (λ rest. g (f x) ∷ rest) (map_twice g f xs)

-- the sections of the places
pub place_sections : (catalog : List Section) (es : List (ℕ × ℕ)) → map (λ (rated : Rated). rated.section.0) (map (rated_of catalog) es) ≡ map (λ e. e.0) es
place_sections catalog [] = refl
place_sections catalog (e ∷ es) = ap (λ rest. e.0 ∷ rest) (place_sections catalog es)

is_rated : (catalog : CatalogData) (rating : ℕ × ℕ) → IsCatalog catalog → rating.0 < length catalog.sections → (1 ≤ rating.1) × (rating.1 ≤ 100)
    → IsRated (rated_of catalog.sections rating)
is_rated catalog rating is inside range = record {
  section = omega (arith, is.few);
  rating_low = range.0;
  rating_high = range.1;
  credits = (is.each rating.0 _ inside).is_section.few_credits;
}

-- the places of ratings are such as a menu has
pub are_places : (catalog : CatalogData) (items : List (SectionNo × ℕ)) → IsCatalog catalog → AreRatings items
    → All (λ (rating : SectionNo × ℕ). rating.0.0 < length catalog.sections) items
    → ArePlaces (map (λ rating. rated_of catalog.sections (rating_entry rating)) items)
are_places catalog items is ratings inside = record {
  few = omega (arith, ratings.few, length-map items (λ rating. rated_of catalog.sections (rating_entry rating)));
  ascending =
      let e : map (λ (rated : Rated). rated.section.0) (map (λ rating. rated_of catalog.sections (rating_entry rating)) items)
      ≡ map (λ e. e.0) (map rating_entry items) =
      ap (map (λ (rated : Rated). rated.section.0)) (map_twice (rated_of catalog.sections) rating_entry items)
      ∙ place_sections catalog.sections (map rating_entry items) in
      subst IsAscending (sym e) (ascending_keys (map rating_entry items) ratings.sorted);
  each =
      All-map IsRated (λ rating. rated_of catalog.sections (rating_entry rating)) items
      (λ k d below. is_rated catalog (rating_entry (get_or items k d)) is (inside k d below) (ratings.each k d below));
}

by_test : (b : Bool) (p n : ℕ) (found : Bool) → nat_lt p n ≡ found → nat_lt (cond b 0 (suc p)) (suc n) ≡ (b || found)
by_test true p n found e = grind (arith, nat_tests)
by_test false p n found e = let step : nat_lt (suc p) (suc n) ≡ nat_lt p n = grind (arith, nat_tests) in step ∙ e

-- a section has a place where it is a key
place_by_keys : (catalog : List Section) (s : ℕ) (es : List (ℕ × ℕ))
    → nat_lt (place_in (map (rated_of catalog) es) s) (length (map (rated_of catalog) es)) ≡ list_any (eq_by_cmp nat_cmp s) (map (λ e. e.0) es)
place_by_keys catalog s [] = refl
place_by_keys catalog s (e ∷ es) =
    let more = map (rated_of catalog) es in
    let found : Bool = list_any (eq_by_cmp nat_cmp s) (map (λ e. e.0) es) in
    let split : nat_lt (cond (nat_eq e.0 s) 0 (suc (place_in more s))) (suc (length more)) ≡ (nat_eq e.0 s || found) =
    by_test (nat_eq e.0 s) (place_in more s) (length more) found (place_by_keys catalog s es) in
    split ∙ ap (λ b. b || found) (sym (equal_is s e.0))

-- a section has a place where it is rated
pub has_place : (catalog : List Section) (ratings : FinMap {K = ℕ} nat_cmp ℕ) (s : ℕ)
    → nat_lt (place_in (map (rated_of catalog) (entries ratings)) s) (length (map (rated_of catalog) (entries ratings))) ≡ contains_key ratings s
has_place catalog ratings s = place_by_keys catalog s (entries ratings) ∙ sym (contains_key-keys ratings s)

-- the course at a place is that of its section
pub course_of_place : (catalog : List Section) (es : List (ℕ × ℕ)) (k : ℕ) → k < length (map (rated_of catalog) es)
    → course_at (map (rated_of catalog) es) k ≡ course_number catalog (listed catalog (section_at (map (rated_of catalog) es) k)).course
course_of_place catalog [] k below = absurd (omega arith)
course_of_place catalog (e ∷ es) zero below = refl
course_of_place catalog (e ∷ es) (suc k) below = course_of_place catalog es k (omega arith)

-- what holds of the places of ratings
pub record AreGoodPlaces (catalog : List Section) (places : List Rated) : Type 0 where
  pub places_are : ArePlaces places
  pub below : All (λ (rated : Rated). rated.section.0 < length catalog) places
  pub courses : (k : ℕ) → k < length places → course_at places k ≡ course_number catalog (listed catalog (section_at places k)).course
  pub sections : (k : ℕ) → k < length places → section_at places k < length catalog

section_below : (n : ℕ) (places : List Rated) (d : Rated) → All (λ (rated : Rated). rated.section.0 < n) places → (k : ℕ) → k < length places
    → section_at places k < n
section_below n places d each k inside = rw (section_at-get_or places k d inside) (each k d inside)

made_places : (catalog : CatalogData) (items : List (SectionNo × ℕ)) → IsCatalog catalog → AreRatings items
    → All (λ (rating : SectionNo × ℕ). rating.0.0 < length catalog.sections) items
    → AreGoodPlaces catalog.sections (map (λ rating. rated_of catalog.sections (rating_entry rating)) items)
made_places catalog items is ratings inside =
    let made = map (λ rating. rated_of catalog.sections (rating_entry rating)) items in
    let each : All (λ (rated : Rated). rated.section.0 < length catalog.sections) made =
    All-map (λ (rated : Rated). rated.section.0 < length catalog.sections) (λ rating. rated_of catalog.sections (rating_entry rating)) items inside in
    record {
      places_are = are_places catalog items is ratings inside;
      below = each;
      courses =
          subst
          (λ (places : List Rated). (k : ℕ) → k < length places
          → course_at places k ≡ course_number catalog.sections (listed catalog.sections (section_at places k)).course)
          (sym (map_twice (rated_of catalog.sections) rating_entry items)) (course_of_place catalog.sections (map rating_entry items));
      sections = section_below (length catalog.sections) made (rated_of catalog.sections (0, 0)) each;
    }

-- places made of a student's ratings are good
pub good_places : (catalog : CatalogData) (wanted : StudentPreferences) (items : List (SectionNo × ℕ)) (places : List Rated) → IsCatalog catalog
    → AreRatings items → SectionsBelow (length catalog.sections) wanted → map rating_entry items ≡ entries wanted.ratings
    → places ≡ map (λ rating. rated_of catalog.sections (rating_entry rating)) items → AreGoodPlaces catalog.sections places
good_places catalog wanted items places is ratings below entries made =
    subst (AreGoodPlaces catalog.sections) (sym made) (made_places catalog items is ratings (rated_below (length catalog.sections) wanted items below entries))
