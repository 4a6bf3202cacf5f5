-- What is held before and after one price is raised.
use Rattle.std.proofs.Common.{ℕ, zero, suc, ◌≡◌, ◌<◌, ◌≤◌, ◌+◌, ◌∙◌, ◌⊎◌, true, false, List, [], ◌∷◌, ◌++◌, length, map, All, arith, subst, sym, ap, refl, inl, inr}
use Rattle.std.specs.Prelude.{nat_lt, slice_index_or, slice_set}
use Rattle.std.proofs.lemmas.Bool.{cases_Bool, false≢true}
use Rattle.std.proofs.lemmas.List.{set-get_or, length-set, length-map, map-append}
use Rattle.std.proofs.lemmas.List.Elements.{All-set, All-cons}
use Rattle.market_units.specs.declared.units.StudentNo.{StudentNo}
use Rattle.market_units.specs.declared.units.Tokens.{Tokens}
use Rattle.bundle_rules.specs.declared.bundle.Bundle.{Bundle}
use Rattle.bundle_rules.specs.Bundles.{sections_of}
use Rattle.market_units.specs.Members.{has}
use Rattle.bundle_rules.specs.Menus.{wishes_of}
use Rattle.bundle_rules.specs.Places.{places_from}
use Rattle.bundle_rules.specs.Demand.{price_in}
use Rattle.bundle_rules.proofs.BestValue.{best-is, best-only}
use Rattle.demand_api.specs.Crowds.{Student, CrowdData, IsCrowd, top, demand, demands, demand_of}
use Rattle.demand_api.specs.Prices.{IsRaised}
use Rattle.demand_api.specs.Asking.{ArePricesFor}
use Rattle.demand_api.proofs.Keeping.{best_without_stays}
use Rattle.demand_api.proofs.Halving.{is_raised}
use Rattle.demand_api.proofs.Takers.{demand_within}
use Rattle.own_price.specs.Holding.{HeldData, Holds}
use Rattle.demand_api.specs.Counting.{AreWithin}
use Rattle.own_price.specs.Exchanges.{exchanged, IsListed, AreHolders}
use Rattle.own_price.proofs.Exchanging.{exchanged_wanted}
use Rattle.demand_api.proofs.Counts.{length-demands}

-- a student that lacks the section takes the same at a higher price of it
demand_kept : (crowd : CrowdData) (before after : ℕ → ℕ) (s i : ℕ) → IsRaised s before after → has (demand_of crowd before i) s ≡ false
    → demand_of crowd before i ≡ demand_of crowd after i
unfolding demands
demand_kept crowd before after s i is lacks = kept crowd.students i lacks
  where
    kept : (students : List Student) (k : ℕ) → has (slice_index_or (map (demand crowd.sections before) students) k []) s ≡ false
        → slice_index_or (map (demand crowd.sections before) students) k [] ≡ slice_index_or (map (demand crowd.sections after) students) k []
    kept [] k none = refl
    kept (x ∷ xs) zero none = best-only x.menu after x.budget (λ t. nat_lt t crowd.sections) (demand crowd.sections before x)
        (best_without_stays (wishes_of x.menu) s before after x.budget (λ t. nat_lt t crowd.sections) (demand crowd.sections before x) is none
        (best-is x.menu before x.budget (λ t. nat_lt t crowd.sections)))
    kept (x ∷ xs) (suc k) none = kept xs k none

pub raised_prices : (crowd : CrowdData) (prices : List Tokens) (s : ℕ) (price : Tokens) → ArePricesFor crowd prices → price.0 ≤ top crowd
    → ArePricesFor crowd (slice_set prices s price)
raised_prices crowd prices s price are capped = record {
  same = length-set prices s price ∙ are.same;
  high = All-set (λ p. p.0 ≤ top crowd) prices s price capped are.high;
}

-- what is held after the holders were asked
pub raised_holds : (crowd : CrowdData) (prices : List Tokens) (bundles others : List Bundle) (students : List StudentNo) (s : ℕ) (price : Tokens)
    → ArePricesFor crowd prices → map sections_of bundles ≡ demands crowd (price_in prices) → s < crowd.sections
    → price_in prices s ≤ price.0 → price.0 ≤ top crowd → AreHolders s (map sections_of bundles) students
    → map sections_of others ≡ map (λ student. demand_of crowd (price_in (slice_set prices s price)) student.0) students
    → Holds crowd (record { prices = slice_set prices s price; bundles = map sections_of (exchanged bundles students others) })
raised_holds crowd prices bundles others students s price are held in_range up capped holders told = record {
  prices = raised_prices crowd prices s price are capped;
  bundles = exchanged_wanted (demands crowd (price_in (slice_set prices s price))) bundles students others long told each;
}
  where
    low : s < length prices
    low = let same : length prices ≡ crowd.sections = are.same in omega arith

    long : length (map sections_of bundles) ≡ length (demands crowd (price_in (slice_set prices s price)))
    long = ap length held ∙ length-demands crowd (price_in prices) ∙ sym (length-demands crowd (price_in (slice_set prices s price)))

    each : (i : ℕ) → i < length (demands crowd (price_in (slice_set prices s price)))
        → (slice_index_or (map sections_of bundles) i [] ≡ slice_index_or (demands crowd (price_in (slice_set prices s price))) i []) ⊎ IsListed i students
    each i below = elim (cases_Bool (has (slice_index_or (map sections_of bundles) i []) s)) [
      | inl has_it ↦ inr (holders.all i (rw long below) has_it)
      | inr lacks ↦
          let before : slice_index_or (map sections_of bundles) i [] ≡ demand_of crowd (price_in prices) i = ap (λ bs. slice_index_or bs i []) held in
          inl
          (before
          ∙ demand_kept crowd (price_in prices) (price_in (slice_set prices s price)) s i (is_raised prices s price low up)
          (ap (λ b. has b s) (sym before) ∙ lacks))
    ]

-- what asked students take are sections of the crowd
pub others_within : (crowd : CrowdData) (price : ℕ → ℕ) (students : List StudentNo) (others : List Bundle) (n : ℕ)
    → map sections_of others ≡ map (λ student. demand_of crowd price student.0) students → n ≡ crowd.sections → AreWithin n (map sections_of others)
others_within crowd price students others n told same i s has_it = rw same (among students i (ap (λ bs. has (slice_index_or bs i []) s) (sym told) ∙ has_it))
  where
    among : (ss : List StudentNo) (k : ℕ) → has (slice_index_or (map (λ student. demand_of crowd price student.0) ss) k []) s ≡ true → s < crowd.sections
    among [] k is = absurd (false≢true is)
    among (x ∷ xs) zero is = demand_within crowd price x.0 s is
    among (x ∷ xs) (suc k) is = among xs k is

pub others_length : (crowd : CrowdData) (price : ℕ → ℕ) (students : List StudentNo) (others : List Bundle)
    → map sections_of others ≡ map (λ student. demand_of crowd price student.0) students → length others ≡ length students
others_length crowd price students others told =
    sym (length-map others sections_of) ∙ ap length told ∙ length-map students (λ student. demand_of crowd price student.0)

-- all students, asked in file order
pub all_asked : (crowd : CrowdData) (price : ℕ → ℕ) (students : List StudentNo) (others : List Bundle) (n : ℕ) → n ≡ length crowd.students
    → map (λ student. student.0) students ≡ places_from 0 n → map sections_of others ≡ map (λ student. demand_of crowd price student.0) students
    → map sections_of others ≡ demands crowd price
all_asked crowd price students others n count are told =
    told
    ∙ by_number students
    ∙ ap (map (λ i. slice_index_or (demands crowd price) i [])) (are ∙ ap (places_from 0) (count ∙ sym (length-demands crowd price)))
    ∙ by_place (λ i. slice_index_or (demands crowd price) i []) (demands crowd price) 0
    (λ i low. ap (λ k. slice_index_or (demands crowd price) k []) (let e : 0 + i ≡ i = omega arith in e))
  where
    by_number : (ss : List StudentNo)
        → map (λ student. demand_of crowd price student.0) ss ≡ map (λ i. slice_index_or (demands crowd price) i []) (map (λ student. student.0) ss)
    by_number [] = refl
    by_number (x ∷ xs) = ap (λ ys. demand_of crowd price x.0 ∷ ys) (by_number xs)

    by_place : (f : ℕ → List ℕ) (xs : List (List ℕ)) (first : ℕ) → ((i : ℕ) → i < length xs → f (first + i) ≡ slice_index_or xs i [])
        → map f (places_from first (length xs)) ≡ xs
    by_place f [] first each = refl
    by_place f (x ∷ xs) first each =
        let here : f first ≡ x = ap f (let e : first ≡ first + 0 = omega arith in e) ∙ each 0 (omega arith) in
        let rest : map f (places_from (suc first) (length xs)) ≡ xs =
        by_place f xs (suc first)
        (λ i low. ap f (let e : suc first + i ≡ first + suc i = omega arith in e) ∙ each (suc i) (let h : suc i < suc (length xs) = omega arith in h)) in
        ap (λ y. y ∷ map f (places_from (suc first) (length xs))) here ∙ ap (λ ys. x ∷ ys) rest

pub all_count : (students : List StudentNo) (n : ℕ) → map (λ student. student.0) students ≡ places_from 0 n → length students ≡ n
all_count students n are = sym (length-map students (λ student. student.0)) ∙ ap length are ∙ long 0 n
  where
    long : (first m : ℕ) → length (places_from first m) ≡ m
    long first zero = refl
    long first (suc m) = omega (arith, long (suc first) m)

-- and so at most 2,000 bundles are told
pub all_few : (crowd : CrowdData) (price : ℕ → ℕ) (students : List StudentNo) (others : List Bundle) (n : ℕ) → IsCrowd crowd → n ≡ length crowd.students
    → map (λ student. student.0) students ≡ places_from 0 n → map sections_of others ≡ map (λ student. demand_of crowd price student.0) students
    → length others ≤ 2000
all_few crowd price students others n is long are told =
    omega (arith, is.few, long, all_count students n are, others_length crowd price students others told)

pub all_range : (students : List StudentNo) (n m : ℕ) → map (λ student. student.0) students ≡ places_from 0 n → m ≡ n → All (λ student. student.0 < m) students
all_range students n m are same = rw same (subst (λ t. All (λ student. student.0 < t) students) (let e : 0 + n ≡ n = omega arith in e) (below students 0 n are))
  where
    below : (ss : List StudentNo) (first k : ℕ) → map (λ student. student.0) ss ≡ places_from first k → All (λ student. student.0 < first + k) ss
    below [] first k told = λ i d low. absurd (omega arith)
    below (x ∷ xs) first zero told = absurd cc
    below (x ∷ xs) first (suc k) told =
        let here : x.0 ≡ first = cc in
        let rest : map (λ student. student.0) xs ≡ places_from (suc first) k = cc in
        let e : suc first + k ≡ first + suc k = omega arith in
        All-cons (λ student. student.0 < first + suc k) x xs (omega arith) (subst (λ t. All (λ student. student.0 < t) xs) e (below xs (suc first) k rest))

-- one student more
pub places_more : (first n : ℕ) → places_from first (n + 1) ≡ places_from first n ++ (first + n) ∷ []
places_more first zero = ap (λ k. k ∷ []) (let e : first ≡ first + 0 = omega arith in e)
places_more first (suc n) =
    let one_more : suc n + 1 ≡ suc (n + 1) = omega arith in
    rw one_more
    (ap (λ ks. first ∷ ks)
    (places_more (suc first) n ∙ ap (λ k. places_from (suc first) n ++ k ∷ []) (let e : suc first + n ≡ first + suc n = omega arith in e)))

pub students_more : (students later : List StudentNo) (n : ℕ) (last : StudentNo) → map (λ student. student.0) students ≡ places_from 0 n
    → later ≡ students ++ last ∷ [] → last.0 ≡ n → map (λ student. student.0) later ≡ places_from 0 (n + 1)
students_more students later n last are more is =
    rw more
    (map-append (λ student. student.0) students (last ∷ []) ∙ ap (λ ks. ks ++ last.0 ∷ []) are
    ∙ ap (λ k. places_from 0 n ++ k ∷ []) (is ∙ (let e : n ≡ 0 + n = omega arith in e)) ∙ sym (places_more 0 n))

abbrev held_of : List Tokens → List (List ℕ) → HeldData
held_of prices bundles = record { prices = prices; bundles = bundles }

-- the price that is put back
pub put_back : (prices : List Tokens) (index : ℕ) (price d : Tokens) → slice_set (slice_set prices index price) index (slice_index_or prices index d) ≡ prices
put_back prices index price d = twice prices index price (slice_index_or prices index d) ∙ set-get_or prices index d
  where
    twice : (xs : List Tokens) (i : ℕ) (a b : Tokens) → slice_set (slice_set xs i a) i b ≡ slice_set xs i b
    twice [] i a b = refl
    twice (x ∷ xs) zero a b = refl
    twice (x ∷ xs) (suc i) a b = ap (λ ys. x ∷ ys) (twice xs i a b)

-- prices that are the same hold the same
pub held_same : (one other : List Tokens) (bundles : List (List ℕ)) → one ≡ other → held_of one bundles ≡ held_of other bundles
held_same one other bundles same = ap (λ prices. held_of prices bundles) same
