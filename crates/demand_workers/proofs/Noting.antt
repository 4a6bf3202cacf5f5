-- What is noted of students, and where it serves.
use Rattle.std.proofs.Common.{ℕ, zero, suc, ◌≡◌, ◌≢◌, ◌<◌, ◌≤◌, ◌+◌, ◌==◌, ◌∙◌, Bool, Option, None, Some, List, [], ◌∷◌, length, nat_lt, slice_set, slice_index_or, true, false, refl, ap, sym, subst, arith, inl, inr}
use Rattle.std.specs.Prelude.{IfSome}
use Rattle.std.proofs.lemmas.Bool.{cases_Bool, cases_order}
use Rattle.std.proofs.lemmas.Bool.Decides.{nat_tests}
use Rattle.std.proofs.lemmas.List.{get_or_default}
use Rattle.market_units.specs.declared.units.Tokens.{Tokens}
use Rattle.market_units.specs.Members.{has}
use Rattle.bundle_rules.specs.declared.menu.Rated.{Rated}
use Rattle.bundle_rules.specs.Menus.{MenuData, place_in, rating_at, wishes_of}
use Rattle.bundle_rules.specs.Demand.{price_in}
use Rattle.demand_api.specs.declared.crowd.Crowd.{Crowd}
use Rattle.demand_api.specs.Crowds.{demand_of}
use Rattle.demand_api.specs.Views.{data_of}
use Rattle.demand_api.specs.Prices.{IsRaised}
use Rattle.demand_api.proofs.Halving.{price_at, price_kept, price_written, is_raised}
use Rattle.demand_api.proofs.Keeping.{none_falls, same_cost}
use Rattle.demand_api.proofs.Parts.{students_length}
use Rattle.demand_api.proofs.Takers.{found_demand}
use Rattle.demand_oracle.specs.Bests.{AreBest, IsFirstWithin}
use Rattle.demand_oracle.specs.BestViews.{bundles_of}
use Rattle.demand_oracle.proofs.StillFirst.{first_within_is_best}
use Rattle.demand_workers.specs.declared.note.Note.{Note}
use Rattle.demand_workers.specs.Notes.{budget_of, places_of, price_among, IsNoted}
use Rattle.demand_workers.proofs.Recalling.{budget_is, kept_bundle, nobody, places_are, rated_no_cheaper, taken_affordable}

-- prices that stand in the order of these places
abbrev pub AreAmong : List Rated → List Tokens → (ℕ → ℕ) → ℕ → Type 0
AreAmong places noted price n = (k : ℕ) (d : Rated) → k < n → price_in noted k ≡ price (slice_index_or places k d).section.0

-- no section costs more among them
pub among_at_most : (places : List Rated) (noted : List Tokens) (price : ℕ → ℕ) → AreAmong places noted price (length places) → (s : ℕ)
    → price_among places noted s ≤ price s
among_at_most [] noted price are s = omega arith
among_at_most (r ∷ places) [] price are s = omega arith
among_at_most (r ∷ places) (p ∷ noted) price are s = elim (cases_Bool (r.section.0 == s)) [
  | inl here ↦
      let first : p.0 ≡ price r.section.0 = are 0 r (let goal : 0 < suc (length places) = omega arith in goal) in
      let same : price r.section.0 ≡ price s = ap price (let e : r.section.0 ≡ s = grind (arith, nat_tests) in e) in
      rw here (let goal : p.0 ≤ price s = omega (arith, first, same) in goal)
  | inr there ↦
      rw there (among_at_most places noted price (λ k d low. are (suc k) d (let goal : suc k < suc (length places) = omega arith in goal)) s)
]

-- and a section of the places no less
pub among_at_least : (places : List Rated) (noted : List Tokens) (price : ℕ → ℕ) → AreAmong places noted price (length places)
    → length places ≤ length noted → (k : ℕ) (d : Rated) → k < length places
    → price (slice_index_or places k d).section.0 ≤ price_among places noted (slice_index_or places k d).section.0
among_at_least [] noted price are wide k d low = absurd (omega (arith, low))
among_at_least (r ∷ places) [] price are wide k d low = absurd (omega (arith, wide))
among_at_least (r ∷ places) (p ∷ noted) price are wide zero d low =
    let here : (r.section.0 == r.section.0) ≡ true = grind (arith, nat_tests) in
    let first : p.0 ≡ price r.section.0 = are 0 r (let goal : 0 < suc (length places) = omega arith in goal) in
    rw here (let goal : price r.section.0 ≤ p.0 = omega (arith, first) in goal)
among_at_least (r ∷ places) (p ∷ noted) price are wide (suc k) d low = elim (cases_Bool (r.section.0 == (slice_index_or places k d).section.0)) [
  | inl here ↦
      let s : ℕ = (slice_index_or places k d).section.0 in
      let first : p.0 ≡ price r.section.0 = are 0 r (let goal : 0 < suc (length places) = omega arith in goal) in
      let same : price r.section.0 ≡ price s = ap price (let e : r.section.0 ≡ s = grind (arith, nat_tests) in e) in
      rw here (let goal : price s ≤ p.0 = omega (arith, first, same) in goal)
  | inr there ↦
      rw there
      (among_at_least places noted price (λ i e inside. are (suc i) e (let goal : suc i < suc (length places) = omega arith in goal))
      (let goal : length places ≤ length noted = omega (arith, wide) in goal) k d (let goal : k < length places = omega (arith, low) in goal))
]

-- one price more, of the section at the next place
pub among_more : (places : List Rated) (noted prices : List Tokens) (n s : ℕ) (r : Rated) → AreAmong places noted (price_in prices) n → n < length noted
    → n < length places → s ≡ (slice_index_or places n r).section.0 → s < length prices
    → AreAmong places (slice_set noted n (slice_index_or prices s (record { 0 = 0 }))) (price_in prices) (n + 1)
among_more places noted prices n s r are fits there is low k d below = elim (cases_order k n) [
  | inl same ↦
      rw same
      (price_written noted n (slice_index_or prices s (record { 0 = 0 })).0 fits ∙ sym (price_at prices s (record { 0 = 0 }) low)
      ∙ ap (price_in prices) (is ∙ ap (λ (one : Rated). one.section.0) (get_or_default places n r d there)))
  | inr (inl less) ↦
      let apart : k ≢ n = omega (arith, less) in price_kept noted n (slice_index_or prices s (record { 0 = 0 })).0 k apart ∙ are k d less
  | inr (inr more) ↦ absurd (omega (arith, below, more))
]

-- a budget of the crowd, by its place
budget_there : (crowd : Crowd) (i : ℕ) → i < length crowd.menus.items → (budget : Tokens) × (budget ≡ slice_index_or crowd.budgets.items i budget)
budget_there crowd i low =
    let none : Tokens = record { 0 = 0 } in
    let budget : Tokens = slice_index_or crowd.budgets.items i none in
    let same : length crowd.budgets.items ≡ length crowd.menus.items = crowd.same in
    (budget, get_or_default crowd.budgets.items i none budget (let goal : i < length crowd.budgets.items = omega (arith, low, same) in goal))

-- of a student's best bundles at these prices, the first that is affordable where none is lower is what the student takes there
listed_taken : (crowd : Crowd) (before after : ℕ → ℕ) (i : ℕ) (menu : MenuData) (budget : Tokens) (allowed : ℕ → Bool) (bundles : List (List ℕ)) (bundle : List ℕ)
    → i < length crowd.menus.items → menu ≡ slice_index_or crowd.menus.items i menu → budget ≡ slice_index_or crowd.budgets.items i budget
    → ((s : ℕ) → allowed s ≡ nat_lt s crowd.sections) → AreBest (wishes_of menu) before budget.0 allowed bundles
    → ((s : ℕ) → 0 < (wishes_of menu).rating s → before s ≤ after s) → IsFirstWithin after budget.0 bundles bundle
    → bundle ≡ demand_of (data_of crowd) after i
listed_taken crowd before after i menu budget allowed bundles bundle low menu_is has_it every best none first =
    found_demand crowd after i menu budget allowed bundle low menu_is has_it every
    (first_within_is_best (wishes_of menu) before after budget.0 allowed bundles bundle best none first)

-- the first of a student's best bundles at these prices is what the student takes
pub first_taken : (crowd : Crowd) (price : ℕ → ℕ) (i : ℕ) (menu : MenuData) (budget : Tokens) (allowed : ℕ → Bool) (bundles others : List (List ℕ)) (first : List ℕ)
    → i < length crowd.menus.items → menu ≡ slice_index_or crowd.menus.items i menu → budget ≡ slice_index_or crowd.budgets.items i budget
    → ((s : ℕ) → allowed s ≡ nat_lt s crowd.sections) → AreBest (wishes_of menu) price budget.0 allowed bundles → bundles ≡ first ∷ others
    → first ≡ demand_of (data_of crowd) price i
first_taken crowd price i menu budget allowed bundles others first low menu_is has_it every best are =
    let best' : AreBest (wishes_of menu) price budget.0 allowed (first ∷ others) = subst (AreBest (wishes_of menu) price budget.0 allowed) are best in
    listed_taken crowd price price i menu budget allowed (first ∷ others) first low menu_is has_it every best'
    (λ s rated. omega arith) (inl ((best'.choices first (inl refl)).affordable, refl))

-- the best bundles of a student at these prices may be noted of it with them
pub listed_noted : (crowd : Crowd) (price : ℕ → ℕ) (note : Note) (menu : MenuData) (budget : Tokens) (allowed : ℕ → Bool) → note.student.0 < length crowd.menus.items
    → menu ≡ slice_index_or crowd.menus.items note.student.0 menu → budget ≡ slice_index_or crowd.budgets.items note.student.0 budget
    → ((s : ℕ) → allowed s ≡ nat_lt s crowd.sections)
    → AreAmong menu.places note.prices price (length menu.places) → length menu.places ≤ length note.prices
    → AreBest (wishes_of menu) price budget.0 allowed (bundles_of note.best) → IsNoted (data_of crowd) note
unfolding wishes_of
listed_noted crowd price note menu budget allowed low menu_is has_it every are wide best =
    let i : ℕ = note.student.0 in
    let noted : ℕ → ℕ = price_among menu.places note.prices in
    let places : places_of (data_of crowd) i ≡ menu.places = places_are crowd i menu low menu_is in
    let paid : budget_of (data_of crowd) i ≡ budget.0 = budget_is crowd i budget low has_it in
    let no_less : (s : ℕ) → 0 < rating_at menu.places (place_in menu.places s) → price s ≤ noted s =
    rated_no_cheaper menu.places price noted (among_at_least menu.places note.prices price are wide) in
    record {
      student = rw (students_length crowd) low;
      rated = λ bundle among s is.
          subst (λ (ps : List Rated). 0 < rating_at ps (place_in ps s)) (sym places) ((best.choices bundle among).feasible.rated s is);
      taken = λ after none bundle first.
          listed_taken crowd price after i menu budget allowed (bundles_of note.best) bundle low menu_is has_it every best
          (λ s rated.
          let up : price s ≤ noted s = no_less s rated in
          let more : noted s ≤ after s = subst (λ (ps : List Rated). price_among ps note.prices s ≤ after s) places (none s) in omega arith)
          (subst (λ (n : ℕ). IsFirstWithin after n (bundles_of note.best) bundle) paid first);
    }

-- the best bundles of a student that is asked may be noted, whatever the menu and the budget are called
pub asked_noted : (crowd : Crowd) (price : ℕ → ℕ) (note : Note) (menu : MenuData) (allowed : ℕ → Bool) → note.student.0 < length crowd.menus.items
    → menu ≡ slice_index_or crowd.menus.items note.student.0 menu → ((s : ℕ) → allowed s ≡ nat_lt s crowd.sections)
    → AreAmong menu.places note.prices price (length menu.places) → length menu.places ≤ length note.prices
    → ((budget : Tokens) → budget ≡ slice_index_or crowd.budgets.items note.student.0 budget
    → AreBest (wishes_of menu) price budget.0 allowed (bundles_of note.best))
    → IsNoted (data_of crowd) note
asked_noted crowd price note menu allowed low menu_is every are wide best =
    let there = budget_there crowd note.student.0 low in
    listed_noted crowd price note menu there.0 allowed low menu_is there.1 every are wide (best there.0 there.1)

-- the menu and the budget of a student, whatever they are called
pub record HasMenu (crowd : Crowd) (i : ℕ) : Type 0 where
  pub menu : MenuData
  pub budget : Tokens
  pub menu_is : menu ≡ slice_index_or crowd.menus.items i menu
  pub has_it : budget ≡ slice_index_or crowd.budgets.items i budget

menu_there : (crowd : Crowd) (i : ℕ) → i < length crowd.menus.items → HasMenu crowd i
menu_there crowd i low =
    let there = budget_there crowd i low in
    let none : MenuData = nobody in
    let menu : MenuData = slice_index_or crowd.menus.items i none in
    record { menu = menu; budget = there.0; menu_is = get_or_default crowd.menus.items i none menu low; has_it = there.1 }

-- a student's best bundles at these prices, whatever its menu and its budget are called
abbrev pub AreListed : Crowd → (ℕ → ℕ) → ℕ → (ℕ → Bool) → List (List ℕ) → Type 0
AreListed crowd price i allowed bundles =
    (menu : MenuData) (budget : Tokens) → menu ≡ slice_index_or crowd.menus.items i menu → budget ≡ slice_index_or crowd.budgets.items i budget
    → AreBest (wishes_of menu) price budget.0 allowed bundles

-- there is one of them
pub some_listed : (crowd : Crowd) (price : ℕ → ℕ) (i : ℕ) (allowed : ℕ → Bool) (bundles : List (List ℕ)) → i < length crowd.menus.items
    → AreListed crowd price i allowed bundles → 1 ≤ length bundles
some_listed crowd price i allowed bundles low listed =
    let there = menu_there crowd i low in (listed there.menu there.budget there.menu_is there.has_it).some

-- and the student takes the first
pub first_listed : (crowd : Crowd) (price : ℕ → ℕ) (i : ℕ) (allowed : ℕ → Bool) (bundles others : List (List ℕ)) (first : List ℕ)
    → i < length crowd.menus.items → ((s : ℕ) → allowed s ≡ nat_lt s crowd.sections) → AreListed crowd price i allowed bundles → bundles ≡ first ∷ others
    → first ≡ demand_of (data_of crowd) price i
first_listed crowd price i allowed bundles others first low every listed are =
    let there = menu_there crowd i low in
    first_taken crowd price i there.menu there.budget allowed bundles others first low there.menu_is there.has_it every
    (listed there.menu there.budget there.menu_is there.has_it) are

-- what holds of every value holds of one that is there
pub if_some : {A : Type 0} (P Q : A → Type 0) (o : Option A) → ((a : A) → P a → Q a) → IfSome o P → IfSome o Q
if_some P Q None more is = tt
if_some P Q (Some a) more is = more a is

-- a bundle without the section stays where only the section's price rises
pub lacking_stays : (crowd : Crowd) (prices raised : List Tokens) (s i : ℕ) (least : Tokens) (bundle : List ℕ)
    → i < length crowd.menus.items → s < length prices → price_in prices s ≤ least.0
    → raised ≡ slice_set prices s least → has bundle s ≡ false → bundle ≡ demand_of (data_of crowd) (price_in prices) i
    → bundle ≡ demand_of (data_of crowd) (price_in raised) i
lacking_stays crowd prices raised s i least bundle low there up written lacks told =
    let after : ℕ → ℕ = price_in (slice_set prices s least) in
    let is : IsRaised s (price_in prices) after = is_raised prices s least there up in
    let paid = taken_affordable (data_of crowd) (price_in prices) i bundle told in
    let cost = same_cost s (price_in prices) after bundle is lacks in
    subst (λ (l : List Tokens). bundle ≡ demand_of (data_of crowd) (price_in l) i) (sym written)
    (kept_bundle (data_of crowd) (price_in prices) after i bundle (λ k d within. none_falls s (price_in prices) after is _) (omega (arith, paid, cost)) told)
