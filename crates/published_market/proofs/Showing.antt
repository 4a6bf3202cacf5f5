-- The students of a made crowd, by their places, and what is shown of them in a loop.
use Rattle.std.proofs.Common.{ℕ, zero, suc, ◌≡◌, ◌<◌, ◌+◌, ◌∙◌, Bool, List, [], ◌∷◌, ◌++◌, map, length, get_or, take, refl, ap, sym, subst, arith}
use Rattle.std.specs.Prelude.{nat_lt}
use Rattle.std.specs.List.{zip}
use Rattle.std.proofs.lemmas.List.{get_or-map, length-map}
use Rattle.market_units.specs.declared.units.Tokens.{Tokens}
use Rattle.bundle_rules.specs.declared.bundle.Bundle.{Bundle}
use Rattle.bundle_rules.specs.Bundles.{sections_of}
use Rattle.bundle_rules.specs.Demand.{IsBest, price_in}
use Rattle.bundle_rules.specs.Menus.{MenuData, wishes_of}
use Rattle.bundle_rules.proofs.BestValue.{best-is}
use Rattle.demand_api.specs.declared.crowd.Crowd.{Crowd}
use Rattle.demand_api.specs.Crowds.{Student, demand, demand_of}
use Rattle.demand_api.specs.Parts.{students_of}
use Rattle.demand_api.specs.Views.{data_of}
use Rattle.demand_api.proofs.Takers.{demand_at, demands_length}
use Rattle.oversubscription_stage.specs.Rounds.{AreTaken}
use Rattle.published_parts.specs.Offers.{all_sections, nobody, offer_to, student_in}

abbrev pub asked : MenuData → Tokens → Student
asked menu budget = record { menu = menu; budget = budget.0 }

-- the student at a place has the menu and the budget at that place
pub asked_at : (menus : List MenuData) (budgets : List Tokens) (i : ℕ) (d : Student) (menu : MenuData) (budget : Tokens) → length budgets ≡ length menus
    → i < length menus → menu ≡ get_or menus i menu → budget ≡ get_or budgets i budget
    → get_or (students_of menus budgets) i d ≡ asked menu budget
asked_at [] budgets i d menu budget same low is has_it = absurd (omega arith)
asked_at (x ∷ xs) [] i d menu budget same low is has_it = absurd (omega arith)
asked_at (x ∷ xs) (y ∷ ys) zero d menu budget same low is has_it = λ k. record { menu = sym is k; budget = (sym has_it k).0 }
asked_at (x ∷ xs) (y ∷ ys) (suc i) d menu budget same low is has_it = asked_at xs ys i d menu budget (omega arith) (omega arith) is has_it

-- there is a bundle for each menu
pub taken_count : (crowd : Crowd) (prices : List Tokens) (bundles : List Bundle)
    → AreTaken (data_of crowd) prices bundles → length bundles ≡ length crowd.menus.items
taken_count crowd prices bundles taken =
    sym (length-map bundles sections_of) ∙ ap (λ (all : List (List ℕ)). length all) taken ∙ demands_length crowd (price_in prices)

-- the bundle at a place is the best of the menu and the budget at that place
pub taken_best : (crowd : Crowd) (prices : List Tokens) (bundles : List Bundle) (i : ℕ) (menu : MenuData)
    (budget : Tokens) (bundle : Bundle) (allowed : ℕ → Bool)
    → AreTaken (data_of crowd) prices bundles → i < length bundles → menu ≡ get_or crowd.menus.items i menu → budget ≡ get_or crowd.budgets.items i budget
    → bundle ≡ get_or bundles i bundle → ((s : ℕ) → allowed s ≡ nat_lt s crowd.sections)
    → IsBest (wishes_of menu) (price_in prices) budget.0 allowed (sections_of bundle)
taken_best crowd prices bundles i menu budget bundle allowed taken low is has_it at told =
    let count : length bundles ≡ length crowd.menus.items = taken_count crowd prices bundles taken in
    let there : sections_of bundle ≡ get_or (map sections_of bundles) i [] = ap sections_of at ∙ sym (get_or-map sections_of bundles i bundle [] low) in
    let demanded : get_or (map sections_of bundles) i [] ≡ demand_of (data_of crowd) (price_in prices) i =
    ap (λ all. get_or all i []) taken in
    let whose : demand_of (data_of crowd) (price_in prices) i
    ≡ demand crowd.sections (price_in prices) (asked (get_or crowd.menus.items i menu) (get_or crowd.budgets.items i budget)) =
    demand_at crowd (price_in prices) i menu budget (omega arith) in
    let own : demand crowd.sections (price_in prices) (asked (get_or crowd.menus.items i menu) (get_or crowd.budgets.items i budget))
    ≡ demand crowd.sections (price_in prices) (asked menu budget) =
    λ k. demand crowd.sections (price_in prices) (asked (sym is k) (sym has_it k)) in
    let best : IsBest (wishes_of menu) (price_in prices) budget.0 (λ s. nat_lt s crowd.sections) (demand crowd.sections (price_in prices) (asked menu budget)) =
    best-is menu (price_in prices) budget.0 (λ s. nat_lt s crowd.sections) in
    let sections_are : (λ s. nat_lt s crowd.sections) ≡ allowed = λ k s. sym (told s) k in
    subst (IsBest (wishes_of menu) (price_in prices) budget.0 allowed) (sym (there ∙ demanded ∙ whose ∙ own))
    (subst (λ among. IsBest (wishes_of menu) (price_in prices) budget.0 among (demand crowd.sections (price_in prices) (asked menu budget))) sections_are best)

-- what is offered to the student at a place, by the menu and the budget there
pub offer_read : (crowd : Crowd) (prices : List Tokens) (i : ℕ) (menu : MenuData) (budget : Tokens) (allowed : ℕ → Bool) → i < length crowd.menus.items
    → menu ≡ get_or crowd.menus.items i menu → budget ≡ get_or crowd.budgets.items i budget → ((s : ℕ) → allowed s ≡ nat_lt s crowd.sections)
    → offer_to (asked menu budget) (price_in prices) budget.0 allowed
    ≡ offer_to (student_in (data_of crowd) i) (price_in prices) (student_in (data_of crowd) i).budget (all_sections crowd.sections)
offer_read crowd prices i menu budget allowed low is has_it told =
    let sections_are : allowed ≡ all_sections crowd.sections = λ k s. told s k in
    ap (offer_to (asked menu budget) (price_in prices) budget.0) sections_are
    ∙ ap (λ (student : Student). offer_to student (price_in prices) student.budget (all_sections crowd.sections))
    (sym (asked_at crowd.menus.items crowd.budgets.items i nobody menu budget crowd.same low is has_it))

-- one more pair of a zip
pub zip_next : (xs ys : List ℕ) (i : ℕ) → i < length xs → i < length ys
    → zip (take (i + 1) xs) (take (i + 1) ys) ≡ zip (take i xs) (take i ys) ++ (get_or xs i 0, get_or ys i 0) ∷ []
zip_next [] ys i low small = absurd (omega arith)
zip_next (x ∷ xs) [] i low small = absurd (omega arith)
zip_next (x ∷ xs) (y ∷ ys) zero low small = refl
zip_next (x ∷ xs) (y ∷ ys) (suc i) low small =
    let one_more : suc i + 1 ≡ suc (i + 1) = omega arith in
    rw one_more (ap (λ rest. (x, y) ∷ rest) (zip_next xs ys i (omega arith) (omega arith)))
