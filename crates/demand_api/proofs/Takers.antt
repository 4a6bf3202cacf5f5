-- What the plain demands find.
use Rattle.std.proofs.Common.{ℕ, zero, suc, ◌≡◌, ◌<◌, ◌≤◌, ◌+◌, ◌∙◌, Bool, List, [], ◌∷◌, ◌++◌, length, take, All, arith, sym, refl, ap, map, true, drop, inl, inr}
use Rattle.std.proofs.lemmas.Bool.{cases_Bool, false≢true}
use Rattle.std.proofs.lemmas.Bool.Decides.{nat_tests}
use Rattle.std.specs.Prelude.{slice_index, slice_index_or, nat_lt, if◌then◌else◌}
use Rattle.std.proofs.lemmas.List.{take_more, take_all, length-take, map-append, get_or-map}
use Rattle.std.proofs.Math.Seq.{take-append_seam}
use Rattle.market_units.specs.declared.units.SectionNo.{SectionNo}
use Rattle.market_units.specs.declared.units.Tokens.{Tokens}
use Rattle.market_units.proofs.Sums.{total-append}
use Rattle.market_units.specs.Members.{has}
use Rattle.bundle_rules.specs.Menus.{MenuData, wishes_of}
use Rattle.bundle_rules.specs.Places.{places_from}
use Rattle.bundle_rules.specs.Demand.{price_in, HasPrices, IsChoice, IsBest}
use Rattle.bundle_rules.specs.Ordinals.{ordinals, IsBundle}
use Rattle.bundle_rules.specs.Existence.Members.{has-here, has-there}
use Rattle.bundle_rules.proofs.BestValue.{best-is, best-only}
use Rattle.demand_api.specs.declared.crowd.Crowd.{Crowd}
use Rattle.demand_api.specs.Crowds.{Student, CrowdData, top, demand, demands, demand_of, holders, count, counts}
use Rattle.demand_api.specs.Views.{data_of}
use Rattle.demand_api.specs.Asking.{ArePricesFor}
use Rattle.demand_api.specs.Counting.{AreCounts, HasCounted}
use Rattle.demand_api.proofs.Halving.{price_at}
use Rattle.demand_api.proofs.Parts.{menus_within, student_of, students_length, top_high}

-- allowed sets that say the same have the same best bundles
choice_by_allowed : (menu : MenuData) (price : ℕ → ℕ) (budget : ℕ) (one other : ℕ → Bool) (bundle : List ℕ) → ((s : ℕ) → one s ≡ other s)
    → IsChoice (wishes_of menu) price budget one bundle → IsChoice (wishes_of menu) price budget other bundle
choice_by_allowed menu price budget one other bundle same choice =
    record { feasible = choice.feasible; affordable = choice.affordable; within = λ s in_it. sym (same s) ∙ choice.within s in_it }

pub is_demand : (menu : MenuData) (price : ℕ → ℕ) (budget sections : ℕ) (allowed : ℕ → Bool) (bundle : List ℕ) → ((s : ℕ) → allowed s ≡ nat_lt s sections)
    → IsBest (wishes_of menu) price budget allowed bundle
    → bundle ≡ demand sections price (record { menu = menu; budget = budget })
is_demand menu price budget sections allowed bundle same best = best-only menu price budget (λ s. nat_lt s sections) bundle (record {
  choice = choice_by_allowed menu price budget allowed (λ s. nat_lt s sections) bundle same best.choice;
  preferred =
      λ other choice apart. best.preferred other (choice_by_allowed menu price budget (λ s. nat_lt s sections) allowed other (λ s. sym (same s)) choice) apart;
})

-- what the student at a place takes
pub demand_at : (crowd : Crowd) (price : ℕ → ℕ) (i : ℕ) (m : MenuData) (b : Tokens) → i < length crowd.menus.items
    → demand_of (data_of crowd) price i
    ≡ demand crowd.sections price (record { menu = slice_index_or crowd.menus.items i m; budget = (slice_index_or crowd.budgets.items i b).0 })
unfolding demands
demand_at crowd price i m b low =
    let d : Student = record { menu = m; budget = b.0 } in
    get_or-map (demand crowd.sections price) (data_of crowd).students i d [] (rw (students_length crowd) low)
    ∙ ap (demand crowd.sections price) (student_of crowd i d m b low)

-- the best bundle of the menu and budget at a place is what that student takes
pub found_demand : (crowd : Crowd) (price : ℕ → ℕ) (i : ℕ) (menu : MenuData) (budget : Tokens) (allowed : ℕ → Bool) (bundle : List ℕ)
    → i < length crowd.menus.items
    → menu ≡ slice_index_or crowd.menus.items i menu → budget ≡ slice_index_or crowd.budgets.items i budget
    → ((s : ℕ) → allowed s ≡ nat_lt s crowd.sections)
    → IsBest (wishes_of menu) price budget.0 allowed bundle → bundle ≡ demand_of (data_of crowd) price i
found_demand crowd price i menu budget allowed bundle low is has_it told best =
    is_demand menu price budget.0 crowd.sections allowed bundle told best
    ∙ same_student
    ∙ sym (demand_at crowd price i menu budget low)
  where
    same_student : demand crowd.sections price (record { menu = menu; budget = budget.0 })
        ≡ demand crowd.sections price (record { menu = slice_index_or crowd.menus.items i menu; budget = (slice_index_or crowd.budgets.items i budget).0 })
    same_student = rw (← is, ← has_it) refl

pub demands_length : (crowd : Crowd) (price : ℕ → ℕ) → length (demands (data_of crowd) price) ≡ length crowd.menus.items
unfolding demands
demands_length crowd price = length_map (demand crowd.sections price) (data_of crowd).students ∙ students_length crowd
  where
    length_map : (f : Student → List ℕ) (xs : List Student) → length (map f xs) ≡ length xs
    length_map f [] = refl
    length_map f (x ∷ xs) = omega (arith, length_map f xs)

-- what a student takes are sections of the crowd
pub demand_within : (crowd : CrowdData) (price : ℕ → ℕ) (i s : ℕ) → has (demand_of crowd price i) s ≡ true → s < crowd.sections
unfolding demands
demand_within crowd price i s is = among crowd.students i is
  where
    among : (students : List Student) (k : ℕ) → has (slice_index_or (map (demand crowd.sections price) students) k []) s ≡ true → s < crowd.sections
    among [] k is = absurd (false≢true is)
    among (x ∷ xs) zero is =
        let allowed : nat_lt s crowd.sections ≡ true = (best-is x.menu price x.budget (λ t. nat_lt t crowd.sections)).choice.within s is in
        grind (arith, nat_tests)
    among (x ∷ xs) (suc k) is = among xs k is

-- each section of a list is in it
pub listed_in : (sections : List SectionNo) (k : ℕ) (d : SectionNo) → k < length sections → has (ordinals sections) (slice_index_or sections k d).0 ≡ true
listed_in [] k d low = absurd (omega arith)
listed_in (x ∷ xs) zero d low = has-here x.0 (ordinals xs)
listed_in (x ∷ xs) (suc k) d low = has-there x.0 (ordinals xs) (slice_index_or xs k d).0 (listed_in xs k d (omega arith))

pub sections_low : (crowd : CrowdData) (price : ℕ → ℕ) (i n : ℕ) (sections : List SectionNo) (bundle : List ℕ) → ordinals sections ≡ bundle
    → bundle ≡ demand_of crowd price i → n ≡ crowd.sections → All (λ section. section.0 < n) sections
sections_low crowd price i n sections bundle listed is size k d low =
    let in_it : has (demand_of crowd price i) (slice_index_or sections k d).0 ≡ true =
    ap (λ b. has b (slice_index_or sections k d).0) (sym (listed ∙ is)) ∙ listed_in sections k d low in
    rw size (demand_within crowd price i (slice_index_or sections k d).0 in_it)

-- a bundle has at most 8 sections
pub sections_few : (sections : List SectionNo) (bundle : List ℕ) → ordinals sections ≡ bundle → IsBundle bundle → length sections ≤ 8
sections_few sections bundle listed is =
    let few : length bundle ≤ 8 = is.few in
    let long : length (ordinals sections) ≡ length bundle = ap length listed in
    let same : length (ordinals sections) ≡ length sections = as_long sections in
    omega arith
  where
    as_long : (ss : List SectionNo) → length (ordinals ss) ≡ length ss
    as_long [] = refl
    as_long (x ∷ xs) = omega (arith, as_long xs)

-- one item more
pub listed_more : {A B C : Type 0} (g : A → C) (f : B → C) (xs : List B) (i : ℕ) (d : B) (found later : List A) (x : A) → i < length xs
    → map g found ≡ map f (take i xs) → later ≡ found ++ x ∷ [] → g x ≡ f (slice_index_or xs i d) → map g later ≡ map f (take (i + 1) xs)
listed_more g f xs i d found later x low so_far more is =
    rw (more, take_more xs i d low)
    (map-append g found (x ∷ []) ∙ ap (λ ys. ys ++ g x ∷ []) so_far ∙ ap (λ y. map f (take i xs) ++ y ∷ []) is
    ∙ sym (map-append f (take i xs) (slice_index_or xs i d ∷ [])))

-- all items are listed
pub listed_all : {A B C : Type 0} (g : A → C) (f : B → C) (xs : List B) (i : ℕ) (found : List A) → length xs ≤ i → map g found ≡ map f (take i xs)
    → map g found ≡ map f xs
listed_all g f xs i found past so_far = so_far ∙ ap (map f) (take_all i xs past)

-- one bundle more
pub holders_more : (s : ℕ) (bundles : List (List ℕ)) (i : ℕ) → i < length bundles
    → holders s (take (i + 1) bundles) ≡ holders s (take i bundles) + (if has (slice_index_or bundles i []) s then 1 else 0)
holders_more s bundles i low =
    let one_more = take_more bundles i [] low in
    let sums = total-append (λ bundle. if has bundle s then 1 else 0) (take i bundles) (slice_index_or bundles i [] ∷ []) in
    rw one_more (omega (arith, sums))

-- no more than the bundles have a section
pub holders_few : (s : ℕ) (bundles : List (List ℕ)) → holders s bundles ≤ length bundles
holders_few s [] = omega arith
holders_few s (bundle ∷ bundles) =
    let rest : holders s bundles ≤ length bundles = holders_few s bundles in
    elim (cases_Bool (has bundle s)) [
      | inl is ↦ rw is (omega arith)
      | inr lacks ↦ rw lacks (omega arith)
    ]

-- no more than the first places have it
pub holders_so_far : (s i : ℕ) (bundles : List (List ℕ)) → holders s (take i bundles) ≤ i
holders_so_far s i bundles =
    let few : holders s (take i bundles) ≤ length (take i bundles) = holders_few s (take i bundles) in
    let short : length (take i bundles) ≤ i = rw (length-take i bundles) (omega arith) in
    omega arith

-- the count of the first places, as the loop goes on
pub counted : (s : ℕ) (bundles : List (List ℕ)) (i : ℕ) (bundle : List ℕ) (takes : Bool) (n : ℕ) → i < length bundles → takes ≡ has bundle s
    → bundle ≡ slice_index_or bundles i [] → n ≡ holders s (take i bundles)
    → holders s (take (i + 1) bundles) ≡ n + (if takes then 1 else 0)
counted s bundles i bundle takes n low told is so_far =
    holders_more s bundles i low
    ∙ ap (λ b. holders s (take i bundles) + (if has b s then 1 else 0)) (sym is)
    ∙ ap (λ t. holders s (take i bundles) + (if t then 1 else 0)) (sym told)
    ∙ ap (λ m. m + (if takes then 1 else 0)) (sym so_far)

-- a list is known by its items
pub listed_by_place : (f : ℕ → ℕ) (xs : List ℕ) (first : ℕ) → ((i : ℕ) → i < length xs → slice_index xs i ≡ f (first + i))
    → xs ≡ map f (places_from first (length xs))
listed_by_place f [] first each = refl
listed_by_place f (x ∷ xs) first each =
    let here : x ≡ f first = each 0 (omega arith) ∙ ap f (let e : first + 0 ≡ first = omega arith in e) in
    let rest : xs ≡ map f (places_from (suc first) (length xs)) =
    listed_by_place f xs (suc first)
    (λ i low. each (suc i) (let h : suc i < suc (length xs) = omega arith in h) ∙ ap f (let e : first + suc i ≡ suc first + i = omega arith in e)) in
    ap (λ y. y ∷ xs) here ∙ ap (λ ys. f first ∷ ys) rest

-- each section of each menu has a price
all_menus_priced : (crowd : Crowd) (prices : List Tokens) → ArePricesFor (data_of crowd) prices → All (λ menu. HasPrices menu prices) crowd.menus.items
all_menus_priced crowd prices are k d low k' d' low' =
    let below : (slice_index_or (slice_index_or crowd.menus.items k d).places k' d').section.0 < crowd.sections = menus_within crowd k d low k' d' low' in
    let size : length prices ≡ crowd.sections = are.same in
    let s : ℕ = (slice_index_or (slice_index_or crowd.menus.items k d).places k' d').section.0 in
    let capped : top (data_of crowd) ≤ 1000001 = top_high crowd in
    let none : Tokens = record { 0 = 0 } in
    let high : (slice_index_or prices s none).0 ≤ top (data_of crowd) = are.high s none (omega arith) in
    let same : price_in prices s ≡ (slice_index_or prices s none).0 = price_at prices s none (omega arith) in
    record { listed = omega arith; high = omega arith }

-- the menu at a place has its prices
pub priced_at : (crowd : Crowd) (prices : List Tokens) (i : ℕ) (menu : MenuData)
    → ArePricesFor (data_of crowd) prices → i < length crowd.menus.items → menu ≡ slice_index_or crowd.menus.items i menu
    → HasPrices menu prices
priced_at crowd prices i menu are low is = rw is (all_menus_priced crowd prices are i menu low)

-- an item, read in two ways
pub index_same : (xs : List ℕ) (k d : ℕ) → k < length xs → slice_index_or xs k d ≡ slice_index xs k
index_same [] k d low = absurd (omega arith)
index_same (x ∷ xs) zero d low = refl
index_same (x ∷ xs) (suc k) d low = index_same xs k d (omega arith)

pub counts_done : (crowd : CrowdData) (price : ℕ → ℕ) (i : ℕ) (found : List ℕ) → length (demands crowd price) ≤ i
    → AreCounts crowd.sections (take i (demands crowd price)) found → found ≡ counts crowd price
counts_done crowd price i found past are =
    let same : length found ≡ crowd.sections = are.len in
    listed_by_place (count crowd price) found 0
    (λ s low. are.each s (omega arith) ∙ ap (holders s) (take_all i (demands crowd price) past)
    ∙ ap (count crowd price) (let e : s ≡ 0 + s = omega arith in e))
    ∙ ap (λ n. map (count crowd price) (places_from 0 n)) same

-- a count has room for one bundle more
pub counts_fit : (n : ℕ) (bundles : List (List ℕ)) (i : ℕ) (found lent : List ℕ) (sections : List SectionNo) (bundle : List ℕ)
    → AreCounts n (take i bundles) found → lent ≡ found → i < 2147483648
    → ordinals sections ≡ bundle → IsBundle bundle → All (λ n. n + length sections < 4294967296) lent
counts_fit n bundles i found lent sections bundle are same few listed is k d low =
    let size : length found ≡ n = are.len in
    let short : length sections ≤ 8 = sections_few sections bundle listed is in
    let low_found : k < length found = rw same at low in
    let at_most : holders k (take i bundles) ≤ i = holders_so_far k i bundles in
    let here : slice_index found k ≡ holders k (take i bundles) = are.each k (omega arith) in
    let read : slice_index_or lent k d ≡ slice_index found k = rw same (index_same found k d low_found) in
    omega arith

pub counts_room : (n : ℕ) (bundles : List (List ℕ)) (i : ℕ) (found lent : List ℕ) (sections : List SectionNo) (bundle : List ℕ)
    → AreCounts n (take i bundles) found → lent ≡ found → i ≤ 2000
    → ordinals sections ≡ bundle → IsBundle bundle → All (λ n. n + length sections < 4294967296) lent
counts_room n bundles i found lent sections bundle are same few = counts_fit n bundles i found lent sections bundle are same (omega (arith, few))

-- what was lent and written comes back
pub lent_back : {A : Type 0} (len : ℕ) (new old : List A) → len ≡ length new → take len (new ++ drop (length new) old) ≡ new
lent_back len new old whole = ap (λ n. take n (new ++ drop (length new) old)) whole ∙ take-append_seam new (drop (length new) old)

-- the counts with one bundle more
pub counts_more : (n : ℕ) (bundles : List (List ℕ)) (i len : ℕ) (found lent new : List ℕ) (sections : List SectionNo) (bundle : List ℕ)
    → AreCounts n (take i bundles) found → lent ≡ found → i < length bundles
    → ordinals sections ≡ bundle → bundle ≡ slice_index_or bundles i [] → len ≡ length found → length new ≡ length lent
    → ((s : ℕ) → s < length lent → HasCounted lent new (ordinals sections) s)
    → AreCounts n (take (i + 1) bundles) (take len (new ++ drop (length new) found))
counts_more n bundles i len found lent new sections bundle are same low listed is whole back counted_so =
    rw (lent_back len new found (whole ∙ ap length (sym same) ∙ sym back)) record {
      len = back ∙ ap length same ∙ are.len;
      each = λ s in_range.
          let size : length found ≡ n = are.len in
          let low_lent : s < length lent = rw same (omega arith) in
          let step : slice_index new s ≡ slice_index lent s + (if has (ordinals sections) s then 1 else 0) = counted_so s low_lent in
          let before : slice_index lent s ≡ holders s (take i bundles) = rw same (are.each s in_range) in
          step ∙ sym (counted s bundles i (ordinals sections) (has (ordinals sections) s) (slice_index lent s) low refl (listed ∙ is) before);
    }
