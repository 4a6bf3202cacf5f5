-- What the parts of a crowd are.
use Rattle.std.proofs.Common.{ℕ, zero, suc, ◌≡◌, ◌<◌, ◌≤◌, ◌+◌, List, [], ◌∷◌, length, All, arith, refl}
use Rattle.std.specs.Prelude.{slice_index_or}
use Rattle.std.proofs.lemmas.List.Elements.{All-cons, All-head, All-nil, All-tail}
use Rattle.market_units.specs.declared.units.Tokens.{Tokens}
use Rattle.bundle_rules.specs.Menus.{MenuData}
use Rattle.demand_api.specs.declared.crowd.Crowd.{Crowd}
use Rattle.demand_api.specs.Crowds.{Student, IsCrowd, IsWithin, greatest_budget, top}
use Rattle.demand_api.specs.Parts.{students_of, of_parts, greatest}
use Rattle.demand_api.specs.Views.{data_of}

-- as many students as menus
pub joined_length : (menus : List MenuData) (budgets : List Tokens) → length budgets ≡ length menus → length (students_of menus budgets) ≡ length menus
joined_length [] budgets same = refl
joined_length (x ∷ xs) [] same = absurd (omega arith)
joined_length (x ∷ xs) (y ∷ ys) same = omega (arith, joined_length xs ys (omega arith))

-- the student at a place has the menu and the budget at that place
joined_at : (menus : List MenuData) (budgets : List Tokens) (i : ℕ) (d : Student) (m : MenuData) (b : Tokens) → length budgets ≡ length menus
    → i < length menus
    → slice_index_or (students_of menus budgets) i d ≡ record { menu = slice_index_or menus i m; budget = (slice_index_or budgets i b).0 }
joined_at [] budgets i d m b same low = absurd (omega arith)
joined_at (x ∷ xs) [] i d m b same low = absurd (omega arith)
joined_at (x ∷ xs) (y ∷ ys) zero d m b same low = refl
joined_at (x ∷ xs) (y ∷ ys) (suc i) d m b same low = joined_at xs ys i d m b (omega arith) (omega arith)

-- parts that are in their ranges make a crowd
pub parts_whole : (menus : List MenuData) (budgets : List Tokens) (sections : ℕ) → length budgets ≡ length menus → length menus ≤ 2000
    → All (λ (budget : Tokens). budget.0 ≤ 1000000) budgets → sections ≤ 400 → All (IsWithin sections) menus
    → IsCrowd (of_parts menus budgets sections)
parts_whole menus budgets sections same few high low within = record {
  few = rw (joined_length menus budgets same) few;
  budgets = all_budgets menus budgets high;
  sections = low;
  menus = all_menus menus budgets within;
}
  where
    all_budgets : (ms : List MenuData) (bs : List Tokens) → All (λ (budget : Tokens). budget.0 ≤ 1000000) bs
        → All (λ (student : Student). student.budget ≤ 1000000) (students_of ms bs)
    all_budgets [] bs all = λ i d low. absurd (omega arith)
    all_budgets (m ∷ ms) [] all = λ i d low. absurd (omega arith)
    all_budgets (m ∷ ms) (b ∷ bs) all =
        All-cons (λ (student : Student). student.budget ≤ 1000000) (record { menu = m; budget = b.0 }) (students_of ms bs) (all 0 b (omega arith))
        (all_budgets ms bs (λ i d low. all (suc i) d (let h : suc i < suc (length bs) = omega arith in h)))

    all_menus : (ms : List MenuData) (bs : List Tokens) → All (IsWithin sections) ms
        → All (λ (student : Student). IsWithin sections student.menu) (students_of ms bs)
    all_menus [] bs all = λ i d low. absurd (omega arith)
    all_menus (m ∷ ms) [] all = λ i d low. absurd (omega arith)
    all_menus (m ∷ ms) (b ∷ bs) all =
        All-cons (λ (student : Student). IsWithin sections student.menu) (record { menu = m; budget = b.0 }) (students_of ms bs) (all 0 m (omega arith))
        (all_menus ms bs (λ i d low. all (suc i) d (let h : suc i < suc (length ms) = omega arith in h)))

-- and only these
pub parts_few : (menus : List MenuData) (budgets : List Tokens) (sections : ℕ) → length budgets ≡ length menus → IsCrowd (of_parts menus budgets sections)
    → length menus ≤ 2000
parts_few menus budgets sections same whole =
    let long : length (students_of menus budgets) ≡ length menus = joined_length menus budgets same in
    let few : length (students_of menus budgets) ≤ 2000 = whole.few in
    omega arith

pub parts_high : (menus : List MenuData) (budgets : List Tokens) (sections : ℕ) → length budgets ≡ length menus → IsCrowd (of_parts menus budgets sections)
    → All (λ (budget : Tokens). budget.0 ≤ 1000000) budgets
parts_high menus budgets sections same whole = each menus budgets same whole.budgets
  where
    each : (ms : List MenuData) (bs : List Tokens) → length bs ≡ length ms → All (λ (student : Student). student.budget ≤ 1000000) (students_of ms bs)
        → All (λ (budget : Tokens). budget.0 ≤ 1000000) bs
    each [] [] same all = All-nil (λ (budget : Tokens). budget.0 ≤ 1000000)
    each [] (b ∷ bs) same all = absurd (omega arith)
    each (m ∷ ms) [] same all = absurd (omega arith)
    each (m ∷ ms) (b ∷ bs) same all =
        All-cons (λ (budget : Tokens). budget.0 ≤ 1000000) b bs
        (All-head (λ (student : Student). student.budget ≤ 1000000) (record { menu = m; budget = b.0 }) (students_of ms bs) all)
        (each ms bs (omega arith) (All-tail (λ (student : Student). student.budget ≤ 1000000) (record { menu = m; budget = b.0 }) (students_of ms bs) all))

pub parts_within : (menus : List MenuData) (budgets : List Tokens) (sections : ℕ) → length budgets ≡ length menus → IsCrowd (of_parts menus budgets sections)
    → All (IsWithin sections) menus
parts_within menus budgets sections same whole = each menus budgets same whole.menus
  where
    each : (ms : List MenuData) (bs : List Tokens) → length bs ≡ length ms
        → All (λ (student : Student). IsWithin sections student.menu) (students_of ms bs) → All (IsWithin sections) ms
    each [] bs same all = All-nil (IsWithin sections)
    each (m ∷ ms) [] same all = absurd (omega arith)
    each (m ∷ ms) (b ∷ bs) same all =
        All-cons (IsWithin sections) m ms
        (All-head (λ (student : Student). IsWithin sections student.menu) (record { menu = m; budget = b.0 }) (students_of ms bs) all)
        (each ms bs (omega arith) (All-tail (λ (student : Student). IsWithin sections student.menu) (record { menu = m; budget = b.0 }) (students_of ms bs) all))

greatest_high : (budgets : List Tokens) → All (λ (budget : Tokens). budget.0 ≤ 1000000) budgets → greatest budgets ≤ 1000000
greatest_high [] all = omega arith
greatest_high (b ∷ bs) all =
    let here : b.0 ≤ 1000000 = all 0 b (omega arith) in
    let rest : greatest bs ≤ 1000000 = greatest_high bs (λ i d low. all (suc i) d (let h : suc i < suc (length bs) = omega arith in h)) in
    omega arith

greatest_same : (menus : List MenuData) (budgets : List Tokens) → length budgets ≡ length menus → greatest_budget (students_of menus budgets) ≡ greatest budgets
greatest_same [] [] same = refl
greatest_same [] (y ∷ ys) same = absurd (omega arith)
greatest_same (x ∷ xs) [] same = absurd (omega arith)
greatest_same (x ∷ xs) (y ∷ ys) same = let rest : greatest_budget (students_of xs ys) ≡ greatest ys = greatest_same xs ys (omega arith) in rw rest refl

-- a crowd has a student for each menu
pub students_length : (crowd : Crowd) → length (data_of crowd).students ≡ length crowd.menus.items
students_length crowd = joined_length crowd.menus.items crowd.budgets.items crowd.same

pub student_of : (crowd : Crowd) (i : ℕ) (d : Student) (m : MenuData) (b : Tokens) → i < length crowd.menus.items
    → slice_index_or (data_of crowd).students i d ≡ record { menu = slice_index_or crowd.menus.items i m; budget = (slice_index_or crowd.budgets.items i b).0 }
student_of crowd i d m b low = joined_at crowd.menus.items crowd.budgets.items i d m b crowd.same low

-- at most 2,000 menus
pub menus_few : (crowd : Crowd) → length crowd.menus.items ≤ 2000
menus_few crowd = parts_few crowd.menus.items crowd.budgets.items crowd.sections crowd.same crowd.whole

-- and as many students
pub students_few : (crowd : Crowd) → length (data_of crowd).students ≤ 2000
students_few crowd = crowd.whole.few

-- at most 400 sections
pub few_sections : (crowd : Crowd) → crowd.sections ≤ 400
few_sections crowd = crowd.whole.sections

-- each budget is at most a million
pub budgets_high : (crowd : Crowd) → All (λ (budget : Tokens). budget.0 ≤ 1000000) crowd.budgets.items
budgets_high crowd = parts_high crowd.menus.items crowd.budgets.items crowd.sections crowd.same crowd.whole

-- the sections of the menus are sections of the crowd
pub menus_within : (crowd : Crowd) → All (IsWithin crowd.sections) crowd.menus.items
menus_within crowd = parts_within crowd.menus.items crowd.budgets.items crowd.sections crowd.same crowd.whole

-- so the greatest budget is at most a million, and the top is one more than it
pub most_high : (crowd : Crowd) → greatest crowd.budgets.items ≤ 1000000
most_high crowd = greatest_high crowd.budgets.items (budgets_high crowd)

pub top_found : (crowd : Crowd) (found : ℕ) → found ≡ greatest crowd.budgets.items → found + 1 ≡ top (data_of crowd)
unfolding top
top_found crowd found is = omega (arith, is, greatest_same crowd.menus.items crowd.budgets.items crowd.same)

pub top_high : (crowd : Crowd) → top (data_of crowd) ≤ 1000001
top_high crowd = omega (arith, most_high crowd, top_found crowd (greatest crowd.budgets.items) refl)
