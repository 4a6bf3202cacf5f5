-- What is remembered, at other prices.
use Rattle.std.proofs.Common.{ℕ, zero, suc, Bool, true, ◌≡◌, ◌<◌, ◌≤◌, ◌==◌, ◌∙◌, List, [], ◌∷◌, All, length, slice_index_or, refl, ap, sym, subst, arith, inl, inr}
use Rattle.std.specs.Prelude.{map, nat_lt, slice_index}
use Rattle.std.proofs.lemmas.Bool.{cases_Bool}
use Rattle.std.proofs.lemmas.Bool.Decides.{nat_tests}
use Rattle.std.proofs.lemmas.List.{get_or-map}
use Rattle.market_units.specs.declared.units.SectionNo.{SectionNo}
use Rattle.market_units.specs.declared.units.Tokens.{Tokens}
use Rattle.market_units.specs.Totals.{total}
use Rattle.market_units.specs.Members.{has}
use Rattle.bundle_rules.specs.declared.menu.Rated.{Rated}
use Rattle.bundle_rules.specs.Demand.{price_in, IsPriced}
use Rattle.bundle_rules.specs.Menus.{MenuData, rating_at, place_in, wishes_of}
use Rattle.bundle_rules.specs.Ordinals.{ordinals}
use Rattle.bundle_rules.proofs.BestValue.{best-is, best-only}
use Rattle.demand_api.specs.declared.crowd.Crowd.{Crowd}
use Rattle.demand_api.specs.Asking.{ArePricesFor}
use Rattle.demand_api.specs.Crowds.{Student, CrowdData, IsWithin, top, demand, demands, demand_of}
use Rattle.demand_api.specs.Views.{data_of}
use Rattle.demand_api.proofs.Halving.{price_at}
use Rattle.demand_api.proofs.Keeping.{best_stays}
use Rattle.demand_api.proofs.Parts.{menus_within, student_of, students_length, top_high}
use Rattle.demand_api.proofs.Takers.{demand_within, listed_in}
use Rattle.demand_workers.specs.Notes.{budget_of, places_of}

-- a rated section is at one of the places
pub rated_no_cheaper : (places : List Rated) (before after : ℕ → ℕ) → All (λ (rated : Rated). before rated.section.0 ≤ after rated.section.0) places → (s : ℕ)
    → 0 < rating_at places (place_in places s) → before s ≤ after s
rated_no_cheaper [] before after all s some = absurd (omega arith)
rated_no_cheaper (r ∷ more) before after all s some = elim (cases_Bool (r.section.0 == s)) [
  | inl here ↦ let e : r.section.0 ≡ s = grind (arith, nat_tests) in let P : ℕ → Type 0 = λ t. before t ≤ after t in subst P e (all 0 r (omega arith))
  | inr there ↦
      let h = rw there at some in rated_no_cheaper more before after (λ i d low. all (suc i) d (let goal : suc i < suc (length more) = omega arith in goal)) s h
]

-- what a student takes is affordable
pub taken_affordable : (crowd : CrowdData) (price : ℕ → ℕ) (i : ℕ) (bundle : List ℕ) → bundle ≡ demand_of crowd price i → total price bundle ≤ budget_of crowd i
unfolding demands
taken_affordable crowd price i bundle told = subst (λ (b : List ℕ). total price b ≤ budget_of crowd i) (sym told) (among crowd.students i)
  where
    among : (students : List Student) (k : ℕ) → total price (slice_index_or (map (demand crowd.sections price) students) k [])
        ≤ slice_index (map (λ (student : Student). student.budget) students) k
    among [] k = omega arith
    among (x ∷ xs) zero = (best-is x.menu price x.budget (λ t. nat_lt t crowd.sections)).choice.affordable
    among (x ∷ xs) (suc k) = among xs k

-- a bundle that a student took is what the student takes, where it is affordable and no section of the menu became cheaper
pub kept_bundle : (crowd : CrowdData) (before after : ℕ → ℕ) (i : ℕ) (bundle : List ℕ)
    → All (λ (rated : Rated). before rated.section.0 ≤ after rated.section.0) (places_of crowd i) → total after bundle ≤ budget_of crowd i
    → bundle ≡ demand_of crowd before i → bundle ≡ demand_of crowd after i
unfolding demands wishes_of
kept_bundle crowd before after i bundle no_cheaper affordable told =
    told ∙ among crowd.students i no_cheaper (subst (λ (b : List ℕ). total after b ≤ budget_of crowd i) told affordable)
  where
    among : (students : List Student) (k : ℕ) → All (λ (rated : Rated). before rated.section.0 ≤ after rated.section.0)
        (slice_index_or (map (λ (student : Student). student.menu.places) students) k [])
        → total after (slice_index_or (map (demand crowd.sections before) students) k []) ≤ slice_index (map (λ (student : Student). student.budget) students) k
        → slice_index_or (map (demand crowd.sections before) students) k [] ≡ slice_index_or (map (demand crowd.sections after) students) k []
    among [] k none paid = refl
    among (x ∷ xs) zero none paid =
        let allowed : ℕ → Bool = λ t. nat_lt t crowd.sections in
        best-only x.menu after x.budget allowed (demand crowd.sections before x)
        (best_stays (wishes_of x.menu) before after x.budget allowed (demand crowd.sections before x) (rated_no_cheaper x.menu.places before after none) paid
        (best-is x.menu before x.budget allowed))
    among (x ∷ xs) (suc k) none paid = among xs k none paid

-- a menu that stands for one that is not there
pub nobody : MenuData
nobody = record { places = []; pairs = []; clashes = []; credits = 0; courses = 0 }

-- the budget of a student is the one at its place
pub budget_is : (crowd : Crowd) (i : ℕ) (budget : Tokens) → i < length crowd.menus.items → budget ≡ slice_index_or crowd.budgets.items i budget
    → budget_of (data_of crowd) i ≡ budget.0
budget_is crowd i budget low is =
    let d : Student = record { menu = nobody; budget = budget.0 } in
    get_or-map (λ (s : Student). s.budget) (data_of crowd).students i d 0 (rw (students_length crowd) low)
    ∙ ap (λ (s : Student). s.budget) (student_of crowd i d nobody budget low) ∙ ap (λ (b : Tokens). b.0) (sym is)

-- the places of a student's menu
pub places_are : (crowd : Crowd) (i : ℕ) (menu : MenuData) → i < length crowd.menus.items → menu ≡ slice_index_or crowd.menus.items i menu
    → places_of (data_of crowd) i ≡ menu.places
places_are crowd i menu low is =
    let d : Student = record { menu = menu; budget = 0 } in
    get_or-map (λ (s : Student). s.menu.places) (data_of crowd).students i d [] (rw (students_length crowd) low)
    ∙ ap (λ (s : Student). s.menu.places) (student_of crowd i d menu (record { 0 = 0 }) low) ∙ ap (λ (m : MenuData). m.places) (sym is)

-- so it is with a bundle that is remembered of a student
pub kept_demand : (crowd : Crowd) (before after : ℕ → ℕ) (i : ℕ) (menu : MenuData) (budget : Tokens) (bundle : List ℕ) → i < length crowd.menus.items
    → menu ≡ slice_index_or crowd.menus.items i menu → budget ≡ slice_index_or crowd.budgets.items i budget
    → All (λ (rated : Rated). before rated.section.0 ≤ after rated.section.0) menu.places → total after bundle ≤ budget.0
    → bundle ≡ demand_of (data_of crowd) before i → bundle ≡ demand_of (data_of crowd) after i
kept_demand crowd before after i menu budget bundle low is has_it no_cheaper affordable =
    kept_bundle (data_of crowd) before after i bundle
    (subst (All (λ (rated : Rated). before rated.section.0 ≤ after rated.section.0)) (sym (places_are crowd i menu low is)) no_cheaper)
    (subst (λ (n : ℕ). total after bundle ≤ n) (sym (budget_is crowd i budget low has_it)) affordable)

-- the sections of a bundle of the crowd's sections have prices
pub listed_priced : (crowd : Crowd) (prices : List Tokens) (listed : List SectionNo) (bundle : List ℕ) → ArePricesFor (data_of crowd) prices
    → ordinals listed ≡ bundle → ((s : ℕ) → has bundle s ≡ true → s < crowd.sections) → All (λ (section : SectionNo). IsPriced prices section.0) listed
listed_priced crowd prices listed bundle are spelled within k d low =
    let s : ℕ = (slice_index_or listed k d).0 in
    let below : s < crowd.sections = within s (subst (λ (b : List ℕ). has b (slice_index_or listed k d).0 ≡ true) spelled (listed_in listed k d low)) in
    let size : length prices ≡ crowd.sections = are.same in
    let none : Tokens = record { 0 = 0 } in
    let high : (slice_index_or prices s none).0 ≤ top (data_of crowd) = are.high s none (let goal : s < length prices = omega arith in goal) in
    let same : price_in prices s ≡ (slice_index_or prices s none).0 = price_at prices s none (let goal : s < length prices = omega arith in goal) in
    record { listed = omega arith; high = omega (arith, top_high crowd) }

-- the sections of what a student takes have prices
pub taken_priced : (crowd : Crowd) (prices : List Tokens) (price : ℕ → ℕ) (i : ℕ) (listed : List SectionNo) (bundle : List ℕ)
    → ArePricesFor (data_of crowd) prices → ordinals listed ≡ bundle → bundle ≡ demand_of (data_of crowd) price i
    → All (λ (section : SectionNo). IsPriced prices section.0) listed
taken_priced crowd prices price i listed bundle are spelled told =
    listed_priced crowd prices listed bundle are spelled (λ s is. demand_within (data_of crowd) price i s (subst (λ (b : List ℕ). has b s ≡ true) told is))

-- the sections at a student's places are below the number of prices
pub places_low : (crowd : Crowd) (n i : ℕ) (menu : MenuData) → n ≡ crowd.sections
    → i < length crowd.menus.items → menu ≡ slice_index_or crowd.menus.items i menu → All (λ (rated : Rated). rated.section.0 < n) menu.places
places_low crowd n i menu size low is =
    subst (λ m. All (λ (rated : Rated). rated.section.0 < m) menu.places) (sym size)
    (subst (IsWithin crowd.sections) (sym is) (menus_within crowd i menu low))

-- the sections of a student's menu are below the number of sections
pub on_menu : (crowd : Crowd) (i n : ℕ) (menu : MenuData) (places : List Rated) → i < length crowd.menus.items → menu ≡ slice_index_or crowd.menus.items i menu
    → places ≡ menu.places → n ≡ crowd.sections → All (λ (rated : Rated). rated.section.0 < n) places
on_menu crowd i n menu places low there is wide =
    subst (All (λ (rated : Rated). rated.section.0 < n)) (sym is) (places_low crowd n i menu wide low there)
