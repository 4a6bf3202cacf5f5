-- The pairs of places that are made of pairs of sections.
use Rattle.std.proofs.Common.{ℕ, suc, get_or, take, ◌+◌, ◌++◌, ◌≡◌, ◌≢◌, ◌<◌, ◌≤◌, ◌∙◌, Bool, true, false, true≢false, cond, ◌&&◌, nat_eq, List, [], ◌∷◌, map, length, refl, ap, sym, subst, arith}
use Rattle.std.specs.Prelude.{ℤ, pos, negsuc, ◌≤ℤ◌, All, nat_lt, Option, Some, None, IfSome, option_map, unsigned_abs}
use Rattle.std.specs.Option.{option_and_then}
use Rattle.std.specs.List.{filter_map, cons_option}
use Rattle.std.specs.Ordering.{nat_cmp, is_lt, ordering_then}
use Rattle.std.specs.Cmp.{nat_cmp_is}
use Rattle.std.specs.declared.cmp.Ordering.TheVariants.{Equal}
use Rattle.std.specs.FinMap.{entries}
use Rattle.std.specs.FinMap.Entries.{is_sorted, below_all}
use Rattle.std.proofs.lemmas.Bool.Decides.{nat_tests}
use Rattle.std.proofs.lemmas.Int.{ints}
use Rattle.std.proofs.lemmas.List.{append-nil, length-map, take_more}
use Rattle.std.proofs.lemmas.List.Elements.{filter_map-append, All-cons, All-head, All-map, All-nil, All-tail}
use Rattle.plain_facts.proofs.Truths.{and_first, and_second}
use Rattle.plain_facts.proofs.Numbers.{true_lt}
use Rattle.market_units.specs.declared.units.SectionNo.{SectionNo}
use Rattle.bundle_rules.specs.declared.menu.Rated.{Rated}
use Rattle.bundle_rules.specs.Menus.{AreDifferent, ArePairs, IsPair, place_in}
use Rattle.bundle_rules.specs.Sets.{AllAbove, IsAscending}
use Rattle.course_catalog.specs.Sections.{Section}
use Rattle.preference_desk.specs.Rows.{ArePairs as AreDeskPairs, pair_entry}
use Rattle.preference_desk.specs.StudentPreferences.{StudentPreferences, pair_cmp}
use Rattle.market_menus.specs.MenusOf.{pair_on_menu, places_of}
use Rattle.market_menus.specs.PairPlaces.{pair_among, place_among}
use Rattle.market_menus.proofs.PlaceFacts.{has_place}

-- the sections of places
abbrev sections : List Rated → List ℕ
sections places = map (λ (rated : Rated). rated.section.0) places

pub filter_map-map : {A B C : Type 0} (g : B → Option C) (f : A → B) (xs : List A) → filter_map (λ x. g (f x)) xs ≡ filter_map g (map f xs)
filter_map-map g f [] = refl
filter_map-map g f (x ∷ xs) = ap (cons_option (g (f x))) (filter_map-map g f xs)

pub filter_map-same : {A B : Type 0} (g h : A → Option B) (xs : List A) → ((x : A) → g x ≡ h x) → filter_map g xs ≡ filter_map h xs
filter_map-same g h [] same = refl
filter_map-same g h (x ∷ xs) same = ap (λ o. cons_option o (filter_map g xs)) (same x) ∙ ap (cons_option (h x)) (filter_map-same g h xs same)

both_places : (a b : Bool) (p q : ℕ) (n : ℤ)
    → option_and_then {U = ℕ × ℕ × ℤ} (λ (first : ℕ). option_map (λ (second : ℕ). (first, second, n)) (cond b (Some q) None)) (cond a (Some p) None)
    ≡ cond (a && b) (Some (p, q, n)) None
both_places true true p q n = refl
both_places true false p q n = refl
both_places false b p q n = refl

-- a pair has places where both sections are rated
pub pair_by_ratings : (catalog : List Section) (wanted : StudentPreferences) (adjusted : (ℕ × ℕ) × ℤ)
    → pair_among (places_of catalog wanted) adjusted ≡ pair_on_menu catalog wanted adjusted
pair_by_ratings catalog wanted adjusted =
    rw (has_place catalog wanted.ratings adjusted.0.0, has_place catalog wanted.ratings adjusted.0.1)
    (both_places _ _ (place_in (places_of catalog wanted) adjusted.0.0) (place_in (places_of catalog wanted) adjusted.0.1) adjusted.1)

pub pairs_by_ratings : (catalog : List Section) (wanted : StudentPreferences)
    → filter_map (pair_among (places_of catalog wanted)) (entries wanted.pairs) ≡ filter_map (pair_on_menu catalog wanted) (entries wanted.pairs)
pairs_by_ratings catalog wanted = filter_map-same _ _ (entries wanted.pairs) (pair_by_ratings catalog wanted)

-- what a section below all places has for a place
no_place : (s t : ℕ) (places : List Rated) → AllAbove t (sections places) → s ≤ t → length places ≤ place_in places s
no_place s t [] above low = omega arith
no_place s t (rated ∷ more) above low =
    let far : t < rated.section.0 = above.0 in
    let other : nat_eq rated.section.0 s ≡ false = grind (arith, nat_tests) in
    rw other (omega (arith, no_place s t more above.1 low))

-- places are in the order of their sections
pub places_in_order : (places : List Rated) (a b : ℕ) → IsAscending (sections places) → a < b → place_in places a < length places
    → place_in places b < length places → place_in places a < place_in places b
places_in_order [] a b up less = λ first second. absurd (omega arith)
places_in_order (rated ∷ more) a b up less =
    elim (nat_eq rated.section.0 a) as (λ t. nat_eq rated.section.0 a ≡ t → cond t 0 (suc (place_in more a)) < suc (length more) → place_in (rated ∷ more) b < suc (length more) → cond t 0 (suc (place_in more a)) < place_in (rated ∷ more) b) [
      | true ↦ λ e first. let other : nat_eq rated.section.0 b ≡ false = grind (arith, nat_tests) in rw other (λ second. omega arith)
      | false ↦ λ e first.
          elim (nat_eq rated.section.0 b) as (λ t. nat_eq rated.section.0 b ≡ t → cond t 0 (suc (place_in more b)) < suc (length more) → suc (place_in more a) < cond t 0 (suc (place_in more b))) [
            | true ↦ λ f second. let low : a ≤ rated.section.0 = grind (arith, nat_tests) in absurd (omega (arith, no_place a rated.section.0 more up.0 low))
            | false ↦ λ f second. omega (arith, places_in_order more a b up.1 less (omega arith) (omega arith))
          ] refl
    ] refl

-- two sections of one place are one
pub one_place : (places : List Rated) (a b : ℕ) → place_in places a < length places → place_in places a ≡ place_in places b → a ≡ b
one_place [] a b = λ inside same. absurd (omega arith)
one_place (rated ∷ more) a b =
    elim (nat_eq rated.section.0 a) as (λ t. nat_eq rated.section.0 a ≡ t → cond t 0 (suc (place_in more a)) < suc (length more) → cond t 0 (suc (place_in more a)) ≡ place_in (rated ∷ more) b → a ≡ b) [
      | true ↦ λ e inside.
          elim (nat_eq rated.section.0 b) as (λ t. nat_eq rated.section.0 b ≡ t → 0 ≡ cond t 0 (suc (place_in more b)) → a ≡ b) [
            | true ↦ λ f same. grind (arith, nat_tests)
            | false ↦ λ f same. absurd (omega arith)
          ] refl
      | false ↦ λ e inside.
          elim (nat_eq rated.section.0 b) as (λ t. nat_eq rated.section.0 b ≡ t → suc (place_in more a) ≡ cond t 0 (suc (place_in more b)) → a ≡ b) [
            | true ↦ λ f same. absurd (omega arith)
            | false ↦ λ f same. one_place more a b (omega arith) (omega arith)
          ] refl
    ] refl

-- what holds of a pair with places, holds of it where it has places
if_among : (places : List Rated) (adjusted : (ℕ × ℕ) × ℤ) (P : ℕ × ℕ × ℤ → Type 0)
    →
    (place_in places adjusted.0.0 < length places → place_in places adjusted.0.1 < length places
    → P (place_in places adjusted.0.0, place_in places adjusted.0.1, adjusted.1))
    → IfSome (pair_among places adjusted) P
if_among places adjusted P holds =
    elim (nat_lt (place_in places adjusted.0.0) (length places)) as (λ t. nat_lt (place_in places adjusted.0.0) (length places) ≡ t
    → IfSome
    (option_and_then (λ (first : ℕ). option_map (λ (second : ℕ). (first, second, adjusted.1)) (place_among places adjusted.0.1))
    (cond t (Some (place_in places adjusted.0.0)) None))
    P) [
      | true ↦ λ e.
          elim (nat_lt (place_in places adjusted.0.1) (length places)) as (λ t. nat_lt (place_in places adjusted.0.1) (length places) ≡ t
          → IfSome (option_map (λ (second : ℕ). (place_in places adjusted.0.0, second, adjusted.1)) (cond t (Some (place_in places adjusted.0.1)) None)) P) [
            | true ↦ λ f. holds (true_lt _ _ e) (true_lt _ _ f)
            | false ↦ λ f. tt
          ] refl
      | false ↦ λ e. tt
    ] refl

All-cons_option : {A : Type 0} (P : A → Type 0) (o : Option A) (xs : List A) → IfSome o P → All P xs → All P (cons_option o xs)
All-cons_option P (Some x) xs here each = All-cons P x xs here each
All-cons_option P None xs here each = each

length-cons_option : {A : Type 0} (o : Option A) (xs : List A) → length (cons_option o xs) ≤ suc (length xs)
length-cons_option (Some x) xs = omega arith
length-cons_option None xs = omega arith

pub length-filter_map : {A B : Type 0} (g : A → Option B) (xs : List A) → length (filter_map g xs) ≤ length xs
length-filter_map g [] = omega arith
length-filter_map g (x ∷ xs) = omega (arith, length-filter_map g xs, length-cons_option (g x) (filter_map g xs))

-- the lower section first, and an adjustment in its range
abbrev IsAdjusted : ((ℕ × ℕ) × ℤ) → Type 0
IsAdjusted adjusted = (adjusted.0.0 < adjusted.0.1) × (unsigned_abs adjusted.1 ≤ 200)

abs_low : (n : ℤ) → unsigned_abs n ≤ 200 → negsuc 199 ≤ℤ n
abs_low (pos m) small = omega (arith, ints)
abs_low (negsuc m) small = omega (arith, ints)

abs_high : (n : ℤ) → unsigned_abs n ≤ 200 → n ≤ℤ pos 200
abs_high (pos m) small = omega (arith, ints)
abs_high (negsuc m) small = omega (arith, ints)

each_is_pair : (places : List Rated) (es : List ((ℕ × ℕ) × ℤ)) → IsAscending (sections places) → All IsAdjusted es
    → All (IsPair (length places)) (filter_map (pair_among places) es)
each_is_pair places [] up each = All-nil (IsPair (length places))
each_is_pair places (e ∷ es) up each =
    let here = All-head IsAdjusted e es each in
    All-cons_option (IsPair (length places)) (pair_among places e) _
    (if_among places e (IsPair (length places)) (λ first second. record {
      ordered = places_in_order places e.0.0 e.0.1 up here.0 first second;
      on_menu = second;
      low = abs_low e.1 here.1;
      high = abs_high e.1 here.1;
    }))
    (each_is_pair places es up (All-tail IsAdjusted e es each))

not_below_itself : (k : ℕ × ℕ) → is_lt (pair_cmp k k) ≡ false
not_below_itself k =
    let first : nat_cmp k.0 k.0 ≡ Equal = sym (nat_cmp_is k.0 k.0 Equal refl) in
    let second : nat_cmp k.1 k.1 ≡ Equal = sym (nat_cmp_is k.1 k.1 Equal refl) in
    ap (λ r. is_lt (ordering_then r (nat_cmp k.1 k.1))) first ∙ ap is_lt second

-- other places than these
abbrev IsOther : ℕ → ℕ → ℕ × ℕ × ℤ → Type 0
IsOther p q other = p ≡ other.0 → q ≢ other.1

-- another pair than each later one
apart_from : (places : List Rated) (k : ℕ × ℕ) (es : List ((ℕ × ℕ) × ℤ)) → place_in places k.0 < length places → place_in places k.1 < length places
    → below_all pair_cmp k es ≡ true
    → All (IsOther (place_in places k.0) (place_in places k.1)) (filter_map (pair_among places) es)
apart_from places k [] first second below = All-nil (IsOther (place_in places k.0) (place_in places k.1))
apart_from places k (e ∷ es) first second below =
    let P : ℕ × ℕ × ℤ → Type 0 = IsOther (place_in places k.0) (place_in places k.1) in
    let here : IsOther (place_in places k.0) (place_in places k.1) (place_in places e.0.0, place_in places e.0.1, e.1) = λ same also.
    let one : k.0 ≡ e.0.0 = one_place places k.0 e.0.0 first same in
    let two : k.1 ≡ e.0.1 = one_place places k.1 e.0.1 second also in
    let less : is_lt (pair_cmp k e.0) ≡ true = and_first _ _ below in
    let whole : k ≡ e.0 = λ i. (one i, two i) in
    true≢false (sym less ∙ ap (λ x. is_lt (pair_cmp k x)) (sym whole) ∙ not_below_itself k) in
    All-cons_option P (pair_among places e) _ (if_among places e P (λ _ _. here)) (apart_from places k es first second (and_second _ _ below))

AreDifferent-cons_option : (o : Option (ℕ × ℕ × ℤ)) (pairs : List (ℕ × ℕ × ℤ))
    → IfSome o (λ pair. All (λ (other : ℕ × ℕ × ℤ). pair.0 ≡ other.0 → pair.1 ≢ other.1) pairs) → AreDifferent pairs → AreDifferent (cons_option o pairs)
AreDifferent-cons_option (Some pair) pairs here more = (here, more)
AreDifferent-cons_option None pairs here more = more

are_different : (places : List Rated) (es : List ((ℕ × ℕ) × ℤ)) → is_sorted pair_cmp es ≡ true → AreDifferent (filter_map (pair_among places) es)
are_different places [] sorted = tt
are_different places (e ∷ es) sorted =
    AreDifferent-cons_option (pair_among places e) _
    (if_among places e _ (λ first second. apart_from places e.0 es first second (and_first _ _ sorted)))
    (are_different places es (and_second _ _ sorted))

-- the pairs of a desk, by places, are such as a menu has
pub are_pairs : (places : List Rated) (items : List (SectionNo × SectionNo × ℤ)) → IsAscending (sections places) → AreDeskPairs items
    → ArePairs (length places) (filter_map (λ pair. pair_among places (pair_entry pair)) items)
are_pairs places items up pairs =
    let es = map pair_entry items in
    let adjusted : All IsAdjusted es = All-map IsAdjusted pair_entry items (λ k d below. let here = pairs.each k d below in (here.0, here.2)) in
    subst (ArePairs (length places)) (sym (filter_map-map (pair_among places) pair_entry items)) (record {
      few = omega (arith, length-filter_map (pair_among places) es, length-map items pair_entry, pairs.few);
      each = each_is_pair places es up adjusted;
      different = are_different places es pairs.sorted;
    })

-- one more pair of the row
pub one_kept : {A B : Type 0} (g : A → Option B) (items : List A) (n : ℕ) (d : A) (y : B) (kept : List B) → n < length items
    → kept ≡ filter_map g (take n items) → g (get_or items n d) ≡ Some y
    → kept ++ y ∷ [] ≡ filter_map g (take (n + 1) items)
one_kept g items n d y kept inside so is =
    ap (λ front. front ++ y ∷ []) so
    ∙ ap (λ o. filter_map g (take n items) ++ cons_option o []) (sym is)
    ∙ sym (filter_map-append g (take n items) (get_or items n d ∷ []))
    ∙ ap (filter_map g) (sym (take_more items n d inside))

-- a pair that has no places
pub one_left_out : {A B : Type 0} (g : A → Option B) (items : List A) (n : ℕ) (d : A) (kept : List B) → n < length items → kept ≡ filter_map g (take n items)
    → g (get_or items n d) ≡ None → kept ≡ filter_map g (take (n + 1) items)
one_left_out g items n d kept inside so is =
    so ∙ sym (append-nil (filter_map g (take n items)))
    ∙ ap (λ o. filter_map g (take n items) ++ cons_option o []) (sym is)
    ∙ sym (filter_map-append g (take n items) (get_or items n d ∷ []))
    ∙ ap (filter_map g) (sym (take_more items n d inside))
