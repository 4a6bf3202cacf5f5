-- How many students take a section.
use Rattle.std.proofs.Common.{ℕ, zero, suc, Bool, ◌≡◌, ◌<◌, ◌≤◌, min, if◌then◌else◌, List, [], ◌∷◌, All, length, arith, refl, ◌∙◌, ap, inl, inr, sym, vec_len}
use Rattle.std.specs.Prelude.{nat_lt, map}
use Rattle.std.proofs.lemmas.Bool.{cases_Bool}
use Rattle.std.proofs.lemmas.List.Elements.{All-cons}
use Rattle.market_units.specs.declared.units.Tokens.{Tokens}
use Rattle.clearing_error.specs.Errors.{error}
use Rattle.clearing_error.proofs.Sections.{error_by_top}
use Rattle.market_units.specs.Totals.{total}
use Rattle.market_units.proofs.Sums.{total-le, total-map}
use Rattle.market_units.specs.Members.{has}
use Rattle.bundle_rules.specs.Menus.{wishes_of}
use Rattle.bundle_rules.specs.Places.{places_from}
use Rattle.bundle_rules.specs.Demand.{price_in, IsBest}
use Rattle.bundle_rules.proofs.BestValue.{best-is, best-only}
use Rattle.demand_api.specs.Crowds.{Student, CrowdData, top, greatest_budget, demand, demands, holders, count, counts}
use Rattle.demand_api.specs.Prices.{IsRaised}
use Rattle.demand_api.proofs.Keeping.{best_without_stays}
use Rattle.demand_api.proofs.Tops.{best_too}
use Rattle.market_units.proofs.Memberships.{member_total}
use Rattle.std.proofs.lemmas.List.{length-map}
use Rattle.demand_api.specs.declared.crowd.Crowd.{Crowd}
use Rattle.demand_api.specs.Views.{data_of}
use Rattle.demand_api.proofs.Parts.{students_length}

-- 1 where the student takes the section, 0 where not
abbrev pub taken : ℕ → (ℕ → ℕ) → ℕ → Student → ℕ
taken sections price s student = if has (demand sections price student) s then 1 else 0

-- the top is above each budget
abbrev pub IsAboveBudgets : ℕ → List Student → Type 0
IsAboveBudgets above students = All (λ student. student.budget < above) students

pub top_above : (crowd : CrowdData) → IsAboveBudgets (top crowd) crowd.students
unfolding top
top_above crowd = above (suc (greatest_budget crowd.students)) crowd.students (omega arith)
  where
    above : (least : ℕ) (students : List Student) → greatest_budget students < least → IsAboveBudgets least students
    above least [] low = λ i d none. absurd (omega arith)
    above least (x ∷ xs) low = All-cons (λ student. student.budget < least) x xs (omega arith) (above least xs (omega arith))

-- the count as a sum over the students
pub count_taken : (crowd : CrowdData) (price : ℕ → ℕ) (s : ℕ) → count crowd price s ≡ total (taken crowd.sections price s) crowd.students
unfolding demands
count_taken crowd price s = total-map (λ bundle. if has bundle s then 1 else 0) (demand crowd.sections price) crowd.students

-- a student that lacks the section lacks it at a higher price of it
pub taken_falls : (sections s : ℕ) (before after : ℕ → ℕ) → IsRaised s before after → (student : Student)
    → taken sections after s student ≤ taken sections before s student
taken_falls sections s before after is student = elim (cases_Bool (has (demand sections before student) s)) [
  | inl has_it ↦ elim (cases_Bool (has (demand sections after student) s)) [
    | inl still ↦ rw (has_it, still) (omega arith)
    | inr lost ↦ rw (has_it, lost) (omega arith)
  ]
  | inr lacks ↦
      let stays : IsBest (wishes_of student.menu) after student.budget (λ t. nat_lt t sections) (demand sections before student) =
      best_without_stays (wishes_of student.menu) s before after student.budget (λ t. nat_lt t sections) (demand sections before student) is lacks
      (best-is student.menu before student.budget (λ t. nat_lt t sections)) in
      let same : demand sections before student ≡ demand sections after student =
      best-only student.menu after student.budget (λ t. nat_lt t sections) (demand sections before student) stays in
      rw (← same) (rw lacks (omega arith))
]

pub count_falls : (crowd : CrowdData) (s : ℕ) (before after : ℕ → ℕ) → IsRaised s before after → count crowd after s ≤ count crowd before s
count_falls crowd s before after is =
    let falls : total (taken crowd.sections after s) crowd.students ≤ total (taken crowd.sections before s) crowd.students =
    total-le (taken crowd.sections after s) (taken crowd.sections before s) crowd.students (taken_falls crowd.sections s before after is) in
    omega (arith, falls, count_taken crowd after s, count_taken crowd before s)

-- a student takes nothing whose price is above the budget
pub not_taken : (sections s : ℕ) (price : ℕ → ℕ) (student : Student) → student.budget < price s → taken sections price s student ≡ 0
not_taken sections s price student high = elim (cases_Bool (has (demand sections price student) s)) [
  | inl has_it ↦
      let best : IsBest (wishes_of student.menu) price student.budget (λ t. nat_lt t sections) (demand sections price student) =
      best-is student.menu price student.budget (λ t. nat_lt t sections) in
      let cost : total price (demand sections price student) ≤ student.budget = best.choice.affordable in
      let part : price s ≤ total price (demand sections price student) = member_total price (demand sections price student) s has_it in
      absurd (omega arith)
  | inr lacks ↦ rw lacks refl
]

-- sums of equal items
pub total_same : {A : Type 0} (f g : A → ℕ) (P : A → Type 0) (xs : List A) → ((x : A) → P x → f x ≡ g x) → All P xs → total f xs ≡ total g xs
total_same f g P [] each all = refl
total_same f g P (x ∷ xs) each all =
    let here : f x ≡ g x = each x (all 0 x (omega arith)) in
    let rest : total f xs ≡ total g xs = total_same f g P xs each (λ i d h. all (suc i) d (let k : suc i < suc (length xs) = omega arith in k)) in
    omega arith

pub total_none : {A : Type 0} (xs : List A) → total (λ (x : A). 0) xs ≡ 0
total_none {A} [] = refl
total_none {A} (x ∷ xs) = omega (arith, total_none xs)

pub none_at_top : (crowd : CrowdData) (s : ℕ) (price : ℕ → ℕ) → top crowd ≤ price s → count crowd price s ≡ 0
none_at_top crowd s price high =
    count_taken crowd price s
    ∙ total_same (taken crowd.sections price s) (λ student. 0) (λ student. student.budget < top crowd) crowd.students
    (λ student below. not_taken crowd.sections s price student (omega arith)) (top_above crowd)
    ∙ total_none crowd.students

-- where prices are the same up to a price above the budgets, each student takes the same
pub same_demands : (above sections : ℕ) (one other : ℕ → ℕ) (students : List Student) → IsAboveBudgets above students
    → ((t : ℕ) → min (one t) above ≡ min (other t) above) → map (demand sections one) students ≡ map (demand sections other) students
same_demands above sections one other [] all same = refl
same_demands above sections one other (student ∷ students) all same =
    let allowed : ℕ → Bool = λ t. nat_lt t sections in
    let stays : IsBest (wishes_of student.menu) other student.budget allowed (demand sections one student) =
    best_too (wishes_of student.menu) one other above student.budget allowed (all 0 student (omega arith)) same (demand sections one student)
    (best-is student.menu one student.budget allowed) in
    let here : demand sections one student ≡ demand sections other student =
    best-only student.menu other student.budget allowed (demand sections one student) stays in
    let rest : map (demand sections one) students ≡ map (demand sections other) students =
    same_demands above sections one other students (λ i d low. all (suc i) d (let k : suc i < suc (length students) = omega arith in k)) same in
    rw (here, rest) refl

pub demands_by_top : (crowd : CrowdData) (one other : ℕ → ℕ) → ((t : ℕ) → min (one t) (top crowd) ≡ min (other t) (top crowd))
    → demands crowd one ≡ demands crowd other
unfolding demands
demands_by_top crowd one other same = same_demands (top crowd) crowd.sections one other crowd.students (top_above crowd) same

pub counts_by_top : (crowd : CrowdData) (one other : ℕ → ℕ) → ((t : ℕ) → min (one t) (top crowd) ≡ min (other t) (top crowd))
    → counts crowd one ≡ counts crowd other
counts_by_top crowd one other same = ap (λ bundles. map (λ s. holders s bundles) (places_from 0 crowd.sections)) (demands_by_top crowd one other same)

-- lists of prices that are the same up to a price say so of each section
pub same_up_to : (most : ℕ) (one other : List Tokens) → map (λ price. min price.0 most) one ≡ map (λ price. min price.0 most) other → (s : ℕ)
    → min (price_in one s) most ≡ min (price_in other s) most
same_up_to most [] [] same s = refl
same_up_to most [] (q ∷ qs) same s = absurd cc
same_up_to most (p ∷ ps) [] same s = absurd cc
same_up_to most (p ∷ ps) (q ∷ qs) same zero = let head : min p.0 most ≡ min q.0 most = cc in head
same_up_to most (p ∷ ps) (q ∷ qs) same (suc s) =
    let tail : map (λ price. min price.0 most) ps ≡ map (λ price. min price.0 most) qs = cc in same_up_to most ps qs tail s

pub top_some : (crowd : CrowdData) → 1 ≤ top crowd
unfolding top
top_some crowd = omega arith

pub errors_by_top : (crowd : CrowdData) (seats : List ℕ) (one other : List Tokens)
    → map (λ price. min price.0 (top crowd)) one ≡ map (λ price. min price.0 (top crowd)) other
    → error (counts crowd (price_in one)) seats one ≡ error (counts crowd (price_in other)) seats other
errors_by_top crowd seats one other same =
    ap (λ found. error found seats one) (counts_by_top crowd (price_in one) (price_in other) (same_up_to (top crowd) one other same))
    ∙ error_by_top (counts crowd (price_in other)) seats one other (top crowd) (top_some crowd) same

-- what each student takes is one bundle for each
pub length-demands : (crowd : CrowdData) (price : ℕ → ℕ) → length (demands crowd price) ≡ length crowd.students
unfolding demands
length-demands crowd price = length-map crowd.students (demand crowd.sections price)

-- a student for each menu
pub crowd_counted : (n : ℕ) (crowd seen : Crowd) → n ≡ vec_len seen.menus → seen ≡ crowd → n ≡ length (data_of crowd).students
crowd_counted n crowd seen is same = is ∙ ap (λ (x : Crowd). vec_len x.menus) same ∙ crowd.menus.ok.0 ∙ sym (students_length crowd)
