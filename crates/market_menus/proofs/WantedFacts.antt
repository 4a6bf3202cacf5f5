-- What a menu says of the sections that are rated.
use Rattle.std.proofs.Common.{ℕ, zero, suc, ◌≡◌, ◌≢◌, ◌<◌, ◌≤◌, ◌∙◌, Bool, true, false, cond, ◌&&◌, ◌||◌, nat_eq, List, [], ◌∷◌, map, length, refl, ap, sym, subst, arith, inl, inr}
use Rattle.std.specs.Prelude.{ℤ, pos, All, nat_lt, min, max, Option, Some, None, option_map, unwrap_or}
use Rattle.std.specs.Option.{option_and_then}
use Rattle.std.specs.List.{filter_map, cons_option}
use Rattle.std.specs.Ordering.{nat_cmp, is_eq, eq_by_cmp, ordering_then}
use Rattle.std.specs.declared.cmp.Ordering.{Ordering}
use Rattle.std.specs.declared.cmp.Ordering.TheVariants.{Less, Equal, Greater}
use Rattle.std.specs.FinMap.{entries, get, get-entries}
use Rattle.std.specs.FinMap.Entries.{find}
use Rattle.std.proofs.lemmas.Bool.{cases_eq, cases_lt}
use Rattle.std.proofs.lemmas.Bool.Decides.{nat_tests}
use Rattle.std.proofs.lemmas.List.Elements.{All-head, All-tail}
use Rattle.bundle_rules.specs.declared.menu.Rated.{Rated}
use Rattle.bundle_rules.specs.Agreement.{Agrees}
use Rattle.bundle_rules.specs.Menus.{MenuData, adjustment_in, credits_at, place_in, rating_at, section_at, wishes_of}
use Rattle.course_catalog.specs.Sections.{Section, section_at as listed, sections_clash}
use Rattle.preference_desk.specs.StudentPreferences.{StudentPreferences, pair_cmp, pair_of}
use Rattle.student_roll.specs.Students.{Student}
use Rattle.market_menus.specs.MenusOf.{IsMenuOf, places_of, rated_of}
use Rattle.market_menus.specs.PairPlaces.{pair_among}
use Rattle.market_menus.specs.Wanted.{HasLowerFirst, wishes_from}
use Rattle.market_menus.proofs.Orders.{equal_is}
use Rattle.market_menus.proofs.PairFacts.{one_place, pairs_by_ratings}
use Rattle.bundle_rules.specs.Existence.Places.{rated_on_menu, section_at-place_in}

first_or_later : (b : Bool) (rated : Rated) (more : List Rated) (p : ℕ) (found : Option ℕ) → rating_at more p ≡ unwrap_or found 0
    → rating_at (rated ∷ more) (cond b 0 (suc p)) ≡ unwrap_or (cond b (Some rated.rating) found) 0
first_or_later true rated more p found e = refl
first_or_later false rated more p found e = e

rating_found : (catalog : List Section) (es : List (ℕ × ℕ)) (s : ℕ)
    → rating_at (map (rated_of catalog) es) (place_in (map (rated_of catalog) es) s) ≡ unwrap_or (find nat_cmp s es) 0
rating_found catalog [] s = refl
rating_found catalog (e ∷ es) s =
    first_or_later (nat_eq e.0 s) (rated_of catalog e) (map (rated_of catalog) es) (place_in (map (rated_of catalog) es) s) (find nat_cmp s es)
    (rating_found catalog es s)
    ∙ ap (λ b. unwrap_or (cond b (Some e.1) (find nat_cmp s es)) 0) (sym (equal_is s e.0))

credits_of_place : (catalog : List Section) (es : List (ℕ × ℕ)) (k : ℕ) → k < length (map (rated_of catalog) es)
    → credits_at (map (rated_of catalog) es) k ≡ (listed catalog (section_at (map (rated_of catalog) es) k)).credits
credits_of_place catalog [] k below = absurd (omega arith)
credits_of_place catalog (e ∷ es) zero below = refl
credits_of_place catalog (e ∷ es) (suc k) below = credits_of_place catalog es k (omega arith)

-- two sections of which one has a place have one place where they are one
same_test : (places : List Rated) (a s : ℕ) → place_in places s < length places → nat_eq (place_in places a) (place_in places s) ≡ nat_eq a s
same_test places a s inside = elim (cases_eq a s) [
  | inl same ↦ rw same (grind (arith, nat_tests))
  | inr apart ↦
      let other : place_in places a ≢ place_in places s = λ e. apart (sym (one_place places s a inside (sym e))) in
      grind (arith, nat_tests)
]

both_equal : (r q : Ordering) → is_eq (ordering_then r q) ≡ (is_eq r && is_eq q)
both_equal Less q = refl
both_equal Equal q = refl
both_equal Greater q = refl

lesser : (s t : ℕ) → s ≤ t → (min s t ≡ s) × (max s t ≡ t)
lesser s t low = (omega arith, omega arith)

greater : (s t : ℕ) → t ≤ s → (min s t ≡ t) × (max s t ≡ s)
greater s t low = (omega arith, omega arith)

-- whether an ordered pair is the unordered pair of two sections
pair_test : (s t a b : ℕ) → a < b → ((nat_eq a s && nat_eq b t) || (nat_eq a t && nat_eq b s)) ≡ eq_by_cmp pair_cmp (pair_of s t) (a, b)
pair_test s t a b less =
    let keys : eq_by_cmp pair_cmp (pair_of s t) (a, b) ≡ (nat_eq a (min s t) && nat_eq b (max s t)) =
    both_equal (nat_cmp (min s t) a) (nat_cmp (max s t) b) ∙ ap (λ x. x && is_eq (nat_cmp (max s t) b)) (equal_is (min s t) a)
    ∙ ap (λ x. nat_eq a (min s t) && x) (equal_is (max s t) b) in
    let ordered : ((nat_eq a s && nat_eq b t) || (nat_eq a t && nat_eq b s)) ≡ (nat_eq a (min s t) && nat_eq b (max s t)) = elim (cases_lt s t) [
      | inl low ↦ let e = lesser s t (omega arith) in rw (e.0, e.1) (grind (arith, nat_tests))
      | inr high ↦ let e = greater s t (omega arith) in rw (e.0, e.1) (grind (arith, nat_tests))
    ] in
    ordered ∙ sym keys

outside : (places : List Rated) (a s : ℕ) → nat_lt (place_in places a) (length places) ≡ false → place_in places s < length places → nat_eq a s ≡ false
outside places a s out inside =
    sym (same_test places a s inside) ∙ (let e : nat_eq (place_in places a) (place_in places s) ≡ false = grind (arith, nat_tests) in e)

no_second : (x y : Bool) → ((x && false) || (y && false)) ≡ false
no_second true true = refl
no_second true false = refl
no_second false true = refl
no_second false false = refl

-- the adjustment of two places, with one pair more
with_pair_among : (places : List Rated) (s t : ℕ) (e : (ℕ × ℕ) × ℤ) (rest : List (ℕ × ℕ × ℤ)) → place_in places s < length places
    → place_in places t < length places
    → adjustment_in (cons_option (pair_among places e) rest) (place_in places s) (place_in places t)
    ≡ cond ((nat_eq e.0.0 s && nat_eq e.0.1 t) || (nat_eq e.0.0 t && nat_eq e.0.1 s)) e.1 (adjustment_in rest (place_in places s) (place_in places t))
with_pair_among places s t e rest in_s in_t =
    let a = e.0.0 in
    let b = e.0.1 in
    let p = place_in places a in
    let q = place_in places b in
    let found : ℤ = adjustment_in rest (place_in places s) (place_in places t) in
    elim (nat_lt p (length places)) as (λ x. nat_lt p (length places) ≡ x
    → adjustment_in
    (cons_option
    (option_and_then {U = ℕ × ℕ × ℤ} (λ (first : ℕ). option_map (λ (second : ℕ). (first, second, e.1)) (cond (nat_lt q (length places)) (Some q) None))
    (cond x (Some p) None))
    rest)
    (place_in places s) (place_in places t)
    ≡ cond ((nat_eq a s && nat_eq b t) || (nat_eq a t && nat_eq b s)) e.1 found) [
      | true ↦ λ has_a.
          elim (nat_lt q (length places)) as (λ y. nat_lt q (length places) ≡ y
          → adjustment_in (cons_option (option_map {U = ℕ × ℕ × ℤ} (λ (second : ℕ). (p, second, e.1)) (cond y (Some q) None)) rest) (place_in places s)
          (place_in places t)
          ≡ cond ((nat_eq a s && nat_eq b t) || (nat_eq a t && nat_eq b s)) e.1 found) [
            | true ↦ λ has_b. rw (← same_test places a s in_s, ← same_test places b t in_t, ← same_test places a t in_t, ← same_test places b s in_s) refl
            | false ↦ λ no_b. rw (outside places b s no_b in_s, outside places b t no_b in_t, no_second (nat_eq a s) (nat_eq a t)) refl
          ] refl
      | false ↦ λ no_a. rw (outside places a s no_a in_s, outside places a t no_a in_t) refl
    ] refl

found_or : (b : Bool) (n : ℤ) (found : Option ℤ) → cond b n (unwrap_or found (pos 0)) ≡ unwrap_or (cond b (Some n) found) (pos 0)
found_or true n found = refl
found_or false n found = refl

adjustment_found : (places : List Rated) (s t : ℕ) (es : List ((ℕ × ℕ) × ℤ)) → place_in places s < length places → place_in places t < length places
    → All (λ (adjusted : (ℕ × ℕ) × ℤ). adjusted.0.0 < adjusted.0.1) es
    → adjustment_in (filter_map (pair_among places) es) (place_in places s) (place_in places t) ≡ unwrap_or (find pair_cmp (pair_of s t) es) (pos 0)
adjustment_found places s t [] in_s in_t lower = refl
adjustment_found places s t (e ∷ es) in_s in_t lower =
    let P : (ℕ × ℕ) × ℤ → Type 0 = λ adjusted. adjusted.0.0 < adjusted.0.1 in
    let rest = filter_map (pair_among places) es in
    let more = adjustment_found places s t es in_s in_t (All-tail (λ (adjusted : (ℕ × ℕ) × ℤ). adjusted.0.0 < adjusted.0.1) e es lower) in
    with_pair_among places s t e rest in_s in_t
    ∙ ap (λ b. cond b e.1 (adjustment_in rest (place_in places s) (place_in places t)))
    (pair_test s t e.0.0 e.0.1 (All-head (λ (adjusted : (ℕ × ℕ) × ℤ). adjusted.0.0 < adjusted.0.1) e es lower))
    ∙ ap (λ n. cond (eq_by_cmp pair_cmp (pair_of s t) e.0) e.1 n) more
    ∙ found_or (eq_by_cmp pair_cmp (pair_of s t) e.0) e.1 (find pair_cmp (pair_of s t) es)

-- what the places and pairs of a student say
record Say (catalog : List Section) (wanted : StudentPreferences) (places : List Rated) (pairs : List (ℕ × ℕ × ℤ)) : Type 0 where
  ratings : (s : ℕ) → rating_at places (place_in places s) ≡ unwrap_or (get wanted.ratings s) 0
  credits : (s : ℕ) → place_in places s < length places → credits_at places (place_in places s) ≡ (listed catalog s).credits
  adjustments : (s t : ℕ) → place_in places s < length places → place_in places t < length places
      → adjustment_in pairs (place_in places s) (place_in places t) ≡ unwrap_or (get wanted.pairs (pair_of s t)) (pos 0)

all_said : (catalog : List Section) (wanted : StudentPreferences) → HasLowerFirst wanted
    → Say catalog wanted (places_of catalog wanted) (filter_map (pair_among (places_of catalog wanted)) (entries wanted.pairs))
all_said catalog wanted lower = record {
  ratings = λ s. rating_found catalog (entries wanted.ratings) s ∙ ap (λ o. unwrap_or o 0) (sym (get-entries wanted.ratings s));
  credits =
      λ s inside. credits_of_place catalog (entries wanted.ratings) _ inside
      ∙ ap (λ t. (listed catalog t).credits) (section_at-place_in (places_of catalog wanted) s inside);
  adjustments =
      λ s t in_s in_t. adjustment_found (places_of catalog wanted) s t (entries wanted.pairs) in_s in_t lower
      ∙ ap (λ o. unwrap_or o (pos 0)) (sym (get-entries wanted.pairs (pair_of s t)));
}

said : (catalog : List Section) (student : Student) (wanted : StudentPreferences) (menu : MenuData) → HasLowerFirst wanted
    → IsMenuOf catalog student wanted menu → Say catalog wanted menu.places menu.pairs
said catalog student wanted menu lower is =
    let pairs : menu.pairs ≡ filter_map (pair_among (places_of catalog wanted)) (entries wanted.pairs) = is.pairs ∙ sym (pairs_by_ratings catalog wanted) in
    subst (λ places. Say catalog wanted places menu.pairs) (sym is.places)
    (subst (Say catalog wanted (places_of catalog wanted)) (sym pairs) (all_said catalog wanted lower))

-- a student's menu agrees with what the student wants
pub menu_agrees : (catalog : List Section) (student : Student) (wanted : StudentPreferences) (menu : MenuData) → HasLowerFirst wanted
    → IsMenuOf catalog student wanted menu → Agrees (wishes_of menu) (wishes_from catalog student wanted)
unfolding wishes_of
menu_agrees catalog student wanted menu lower is =
    let say = said catalog student wanted menu lower is in
    let places = menu.places in
    let inside : (s : ℕ) → 0 < rating_at places (place_in places s) → place_in places s < length places =
    λ s some. rated_on_menu places (place_in places s) some in
    record {
      rating = say.ratings;
      credits = λ s some. say.credits s (inside s some);
      adjustment = λ s t some some'. say.adjustments s t (inside s some) (inside t some');
      clash = λ s t some some'. is.clashes (place_in places s) (place_in places t) (inside s some) (inside t some')
          ∙ ap (λ one. sections_clash catalog one (section_at places (place_in places t))) (section_at-place_in places s (inside s some))
          ∙ ap (sections_clash catalog s) (section_at-place_in places t (inside t some'));
      credit_cap = is.credits;
      course_cap = is.courses;
    }
