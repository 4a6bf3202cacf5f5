-- Each student has a menu.
use Rattle.std.proofs.Common.{ℕ, zero, suc, ◌≡◌, ◌≤◌, Bool, true, List, [], ◌∷◌, ◌++◌, length, length-append, map, add-one, refl, ap, sym, subst, arith}
use Rattle.std.specs.Prelude.{ℤ, All}
use Rattle.std.specs.FinMap.{entries, entries_sorted}
use Rattle.std.specs.FinMap.Entries.{is_sorted}
use Rattle.std.specs.List.{filter_map}
use Rattle.std.specs.Ordering.{nat_cmp}
use Rattle.std.proofs.lemmas.List.{length-map}
use Rattle.std.proofs.lemmas.List.Elements.{All-head, All-map, All-tail}
use Rattle.plain_facts.proofs.Truths.{true_of}
use Rattle.market_units.specs.declared.units.SectionNo.{SectionNo}
use Rattle.bundle_rules.specs.declared.menu.Rated.{Rated}
use Rattle.bundle_rules.specs.Menus.{IsMenu, MenuData, section_at}
use Rattle.course_catalog.specs.Catalog.{CatalogData, IsCatalog}
use Rattle.course_catalog.specs.Sections.{Section, sections_clash}
use Rattle.preference_desk.specs.Rows.{ArePairs, AreRatings, IsAdjustment, IsRating, pair_entry, rating_entry}
use Rattle.preference_desk.specs.StudentPreferences.{StudentPreferences, pair_cmp}
use Rattle.student_roll.specs.Students.{IsListed, IsStudent, Student}
use Rattle.bundle_rules.specs.Ranking.{word_with}
use Rattle.market_menus.specs.ClashWords.{AreClashWords, IsClashWord}
use Rattle.market_menus.specs.Limits.{EachHasAMenu, MayBeHad}
use Rattle.market_menus.specs.MenusOf.{AreMenusOf, IsMenuOf, rated_of}
use Rattle.market_menus.specs.PairPlaces.{pair_among}
use Rattle.market_menus.proofs.ClashFacts.{are_clashes}
use Rattle.market_menus.proofs.PairFacts.{are_pairs}
use Rattle.market_menus.proofs.PlaceFacts.{AreGoodPlaces, good_places}
use Rattle.market_menus.proofs.StudentFacts.{is_menu, menu_data}
use Rattle.bundle_rules.proofs.RankedWords.{IsWordTo, word_at_start, word_more}
use Rattle.market_menus.proofs.WordBits.{AreWordsTo, word_at_end, words_more}

-- the rows in which a desk has these ratings and adjustments
rating_row : ℕ × ℕ → SectionNo × ℕ
rating_row rated = (record { 0 = rated.0 }, rated.1)

pair_row : (ℕ × ℕ) × ℤ → SectionNo × SectionNo × ℤ
pair_row adjusted = (record { 0 = adjusted.0.0 }, record { 0 = adjusted.0.1 }, adjusted.1)

ratings_back : (es : List (ℕ × ℕ)) → map rating_entry (map rating_row es) ≡ es
unfolding rating_row
ratings_back [] = refl
ratings_back (e ∷ es) = ap (λ rest. e ∷ rest) (ratings_back es)

pairs_back : (es : List ((ℕ × ℕ) × ℤ)) → map pair_entry (map pair_row es) ≡ es
unfolding pair_row
pairs_back [] = refl
pairs_back (e ∷ es) = ap (λ rest. e ∷ rest) (pairs_back es)

-- a word whose bits tell what a test says of each place
word_for : (test : ℕ → Bool) (n : ℕ) → n ≤ 64 → (word : ℕ) × IsWordTo test word n
word_for test zero low = (0, word_at_start test)
word_for test (suc n) low =
    let before = word_for test n (omega arith) in (
      word_with before.0 n (test n),
      subst (IsWordTo test (word_with before.0 n (test n))) (add-one n) (word_more test before.0 n (test n) (omega arith) before.1 refl),
    )

-- the word of a section
clash_word : (catalog : List Section) (places : List Rated) (section : ℕ) → length places ≤ 60 → (word : ℕ) × IsClashWord catalog places section word
clash_word catalog places section few =
    let word = word_for (λ k. sections_clash catalog section (section_at places k)) (length places) (omega arith) in
    (word.0, word_at_end catalog places section word.0 (length places) refl word.1)

-- the words of the first places
words_for : (catalog : List Section) (places : List Rated) (n : ℕ) → length places ≤ 60 → n ≤ length places
    → (words : List ℕ) × (length words ≡ n) × AreWordsTo catalog places words n
words_for catalog places zero few low = ([], refl, λ a b less. absurd (omega arith))
words_for catalog places (suc n) few low =
    let before = words_for catalog places n few (omega arith) in
    let word = clash_word catalog places (section_at places n) few in
    let long = before.1 in (
      before.0 ++ word.0 ∷ [],
      (let e : length (before.0 ++ word.0 ∷ []) ≡ suc n = omega (arith, length-append before.0 (word.0 ∷ []), long) in e),
      subst (AreWordsTo catalog places (before.0 ++ word.0 ∷ [])) (add-one n)
          (words_more catalog places before.0 word.0 n (section_at places n) before.1 before.2 refl word.1),
    )

clash_words : (catalog : List Section) (places : List Rated) → length places ≤ 60 → (words : List ℕ) × AreClashWords catalog places words
clash_words catalog places few = let words = words_for catalog places (length places) few (omega arith) in (words.0, record { whole = words.1; each = words.2 })

module _ (catalog : CatalogData) (student : Student) (wanted : StudentPreferences) (listed : IsCatalog catalog) (enrolled : IsStudent student)
    (may : MayBeHad (length catalog.sections) wanted) where
  abbrev ratings : List (SectionNo × ℕ)
  ratings = map rating_row (entries wanted.ratings)

  abbrev pairs : List (SectionNo × SectionNo × ℤ)
  pairs = map pair_row (entries wanted.pairs)

  abbrev places : List Rated
  places = map (λ rating. rated_of catalog.sections (rating_entry rating)) ratings

  are_ratings : AreRatings ratings
  unfolding rating_row
  are_ratings = record {
    sorted = subst (λ (es : List (ℕ × ℕ)). is_sorted nat_cmp es ≡ true) (sym (ratings_back (entries wanted.ratings))) (true_of _ (entries_sorted wanted.ratings));
    few = omega (arith, length-map (entries wanted.ratings) rating_row, may.limits.few_ratings);
    each = All-map IsRating rating_row (entries wanted.ratings) may.limits.ratings;
  }

  are_rows : ArePairs pairs
  unfolding pair_row
  are_rows = record {
    sorted =
        subst (λ (es : List ((ℕ × ℕ) × ℤ)). is_sorted pair_cmp es ≡ true) (sym (pairs_back (entries wanted.pairs))) (true_of _ (entries_sorted wanted.pairs));
    few = omega (arith, length-map (entries wanted.pairs) pair_row, may.limits.few_pairs);
    each =
        All-map IsAdjustment pair_row (entries wanted.pairs)
        (λ k d inside. (may.lower_first k d inside, (may.limits.adjustments k d inside).0, (may.limits.adjustments k d inside).1));
  }

  good : AreGoodPlaces catalog.sections places
  good = good_places catalog wanted ratings places listed are_ratings may.known (ratings_back (entries wanted.ratings)) refl

  words : (words : List ℕ) × AreClashWords catalog.sections places words
  words = clash_words catalog.sections places good.places_are.few

  abbrev kept : List (ℕ × ℕ × ℤ)
  kept = filter_map (λ pair. pair_among places (pair_entry pair)) pairs

  limits : IsMenu (menu_data places kept words.0 student.credits student.courses)
  limits = record {
    places = good.places_are;
    pairs = are_pairs places pairs good.places_are.ascending are_rows;
    clashes = are_clashes catalog.sections places words.0 good.places_are.ascending good.courses good.sections words.1;
    caps = record { credits_cap = enrolled.credits; courses_cap = enrolled.courses };
  }

  menu_of : (menu : MenuData) × IsMenuOf catalog.sections student wanted menu
  menu_of = (
    menu_data places kept words.0 student.credits student.courses,
    is_menu catalog.sections student wanted ratings pairs places kept words.0 student.credits student.courses refl (ratings_back (entries wanted.ratings)) refl
        (pairs_back (entries wanted.pairs)) words.1 refl refl limits,
  )

-- and so has each student of a list
menus_of : (catalog : CatalogData) (version : ℕ) (students : List Student) (preferences : List StudentPreferences) → IsCatalog catalog
    → All (IsListed version) students → length preferences ≡ length students → All (MayBeHad (length catalog.sections)) preferences
    → (menus : List MenuData) × AreMenusOf catalog.sections students preferences menus
menus_of catalog version [] [] listed each long may = ([], tt)
menus_of catalog version [] (wanted ∷ preferences) listed each long may = absurd (omega arith)
menus_of catalog version (student ∷ students) [] listed each long may = absurd (omega arith)
menus_of catalog version (student ∷ students) (wanted ∷ preferences) listed each long may =
    let one =
    menu_of catalog student wanted listed (All-head (IsListed version) student students each).is_student
    (All-head (MayBeHad (length catalog.sections)) wanted preferences may) in
    let rest =
    menus_of catalog version students preferences listed (All-tail (IsListed version) student students each) (omega arith)
    (All-tail (MayBeHad (length catalog.sections)) wanted preferences may) in
    (one.0 ∷ rest.0, (one.1, rest.1))

pub each_has_a_menu : EachHasAMenu
each_has_a_menu catalog roll preferences listed enrolled long may = menus_of catalog roll.version roll.students preferences listed enrolled.each long may
