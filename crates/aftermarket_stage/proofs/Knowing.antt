-- Bundles that are known to be the best.
use Rattle.std.proofs.Common.{ℕ, ◌≡◌, ◌<◌, ◌∙◌, ◌||◌, Bool, true, false, not, List, [], length, Option, Some, None, All, IsTrue, arith, refl, sym, ap, subst, inl, inr}
use Rattle.std.specs.Prelude.{slice_get, slice_index_or, slice_set}
use Rattle.std.specs.Ordering.{nat_cmp}
use Rattle.std.specs.FinSet as set
use Rattle.std.proofs.lemmas.Bool.{cases_eq, or_left, false≢true}
use Rattle.std.proofs.lemmas.List.{length-set, get_or_default}
use Rattle.std.proofs.lemmas.Option.{slice_get_within, get_or_from_slice_get}
use Rattle.market_units.specs.declared.units.Tokens.{Tokens}
use Rattle.bundle_rules.specs.declared.menu.Rated.{Rated}
use Rattle.market_units.specs.Members.{has}
use Rattle.bundle_rules.specs.Menus.{MenuData, wishes_of}
use Rattle.bundle_rules.specs.Demand.{price_in, IsBest}
use Rattle.budget_draw.specs.Budgets.{raised_by}
use Rattle.demand_api.specs.Crowds.{Student}
use Rattle.demand_api.specs.Views.{data_of}
use Rattle.demand_api.specs.declared.crowd.Crowd.{Crowd}
use Rattle.held_seats.specs.Choices.{is_free, may_choose}
use Rattle.held_seats.proofs.Gets.{get-set_same, get-set_other, set_again}
use Rattle.aftermarket_stage.specs.Turns.{Terms}
use Rattle.aftermarket_stage.specs.After.{terms_of}
use Rattle.aftermarket_stage.specs.HeldChoices.{AreKnown, IsSettled}
use Rattle.aftermarket_stage.specs.Runs.{IsBestAt}
use Rattle.aftermarket_stage.proofs.Ranks.{of_rated}
use Rattle.aftermarket_stage.proofs.Crowding.{student_here}

old_one : (a b : Bool) → IsTrue (a || not b) → b ≡ true → a ≡ true
old_one true b told is = refl
old_one false true told is = told
old_one false false told is = absurd (false≢true is)

-- the best of some sections is the best of others that have it, and no rated section that is not among the first ones
pub still_best : (menu : MenuData) (price : ℕ → ℕ) (budget : ℕ) (known allowed : set.FinSet nat_cmp) (bundle : List ℕ)
    → All (λ rated. IsTrue (set.contains known rated.section.0 || not (set.contains allowed rated.section.0))) menu.places
    → ((s : ℕ) → has bundle s ≡ true → set.contains allowed s ≡ true) → IsBest (wishes_of menu) price budget (set.contains known) bundle
    → IsBest (wishes_of menu) price budget (set.contains allowed) bundle
still_best menu price budget known allowed bundle none_new within best = record {
  choice = record { feasible = best.choice.feasible; affordable = best.choice.affordable; within = within };
  preferred = λ other choice apart. best.preferred other
      (record {
        feasible = choice.feasible;
        affordable = choice.affordable;
        within = λ s in_it.
            let told = of_rated (λ t. IsTrue (set.contains known t || not (set.contains allowed t))) menu none_new s (choice.feasible.rated s in_it) in
            old_one (set.contains known s) (set.contains allowed s) told (choice.within s in_it);
      }) apart;
}

-- the student at a place, with its budget as it stands there
listed_student : (crowd : Crowd) (i : ℕ) (menu : MenuData) → i < length crowd.menus.items → menu ≡ slice_index_or crowd.menus.items i menu
    → slice_get (data_of crowd).students i ≡ Some (record { menu = menu; budget = (slice_index_or crowd.budgets.items i (record { 0 = 0 })).0 })
listed_student crowd i menu low is =
    let budget : Tokens = slice_index_or crowd.budgets.items i (record { 0 = 0 }) in
    student_here crowd.menus.items crowd.budgets.items i menu budget crowd.same low is
    (get_or_default crowd.budgets.items i (record { 0 = 0 }) budget (omega (arith, crowd.same, low)))

-- a settled bundle is the best
pub settled_best : (crowd : Crowd) (seats : List ℕ) (prices : List Tokens) (raise i : ℕ) (held : List (List ℕ)) (known : List (Option (set.FinSet nat_cmp)))
    (menu : MenuData) (places : List Rated) (allowed : set.FinSet nat_cmp) (bundle : List ℕ)
    → i < length crowd.menus.items → menu ≡ slice_index_or crowd.menus.items i menu → places ≡ menu.places → slice_get held i ≡ Some bundle
    → ((s : ℕ) → has (slice_index_or held i []) s ≡ true → set.contains allowed s ≡ true)
    → AreKnown (terms_of crowd seats prices raise) held known → IsSettled known i places allowed
    → IsBestAt (terms_of crowd seats prices raise) i (set.contains allowed) bundle
settled_best crowd seats prices raise i held known menu places allowed bundle low is all there own are settled =
    let budget : ℕ = (slice_index_or crowd.budgets.items i (record { 0 = 0 })).0 in
    let who : Student = record { menu = menu; budget = budget } in
    let listed = listed_student crowd i menu low is in
    let here : slice_index_or held i [] ≡ bundle = get_or_from_slice_get held i bundle [] there in
    record {
      who = who;
      listed = listed;
      best =
          still_best menu (price_in prices) (raised_by raise budget) settled.sections allowed bundle
          (subst (All (λ rated. IsTrue (set.contains settled.sections rated.section.0 || not (set.contains allowed rated.section.0)))) all settled.none_new)
          (λ s in_it. own s (ap (λ b. has b s) here ∙ in_it)) (are i who bundle settled.sections listed there settled.are_known);
    }

-- nothing is known at first
pub known_none : (terms : Terms) (held : List (List ℕ)) (known : List (Option (set.FinSet nat_cmp)))
    → All (λ one. one ≡ None) known → AreKnown terms held known
known_none terms held known none = λ place who bundle sections listed there is.
    let low = slice_get_within known place (Some sections) is in
    let read : slice_index_or known place None ≡ Some sections = get_or_from_slice_get known place (Some sections) None is in
    let clash : None ≡ Some sections = sym (none place None low) ∙ read in
    absurd (cc clash)

-- what is known after a student was asked
pub known_asked : (terms : Terms) (i : ℕ) (held : List (List ℕ)) (known : List (Option (set.FinSet nat_cmp))) (who : Student)
    (allowed : set.FinSet nat_cmp) (bundle : List ℕ)
    → AreKnown terms held known → slice_get terms.crowd.students i ≡ Some who
    → IsBest (wishes_of who.menu) (price_in terms.prices) (raised_by terms.raise who.budget) (set.contains allowed) bundle
    → AreKnown terms (slice_set held i bundle) (slice_set known i (Some allowed))
known_asked terms i held known who allowed bundle are listed best = λ place other found sections told there is. elim (cases_eq place i) [
  | inl same ↦
      let low : i < length held =
      let within = slice_get_within (slice_set held i bundle) place found there in omega (arith, within, length-set held i bundle, same) in
      let low' : i < length known =
      let within = slice_get_within (slice_set known i (Some allowed)) place (Some sections) is in
      omega (arith, within, length-set known i (Some allowed), same) in
      let both : Some bundle ≡ Some found = sym (get-set_same held i bundle low) ∙ ap (slice_get (slice_set held i bundle)) (sym same) ∙ there in
      let sets : Some (Some allowed) ≡ Some (Some sections) =
      sym (get-set_same known i (Some allowed) low') ∙ ap (slice_get (slice_set known i (Some allowed))) (sym same) ∙ is in
      let people : Some who ≡ Some other = sym listed ∙ ap (slice_get terms.crowd.students) (sym same) ∙ told in
      let one : bundle ≡ found = cc both in
      let two : allowed ≡ sections = cc sets in
      let three : who ≡ other = cc people in
      subst (λ w. IsBest (wishes_of w.menu) (price_in terms.prices) (raised_by terms.raise w.budget) (set.contains sections) found) three
      (subst (λ a. IsBest (wishes_of who.menu) (price_in terms.prices) (raised_by terms.raise who.budget) (set.contains a) found) two
      (subst (λ b. IsBest (wishes_of who.menu) (price_in terms.prices) (raised_by terms.raise who.budget) (set.contains allowed) b) one best))
  | inr apart ↦
      are place other found sections told (sym (get-set_other held i place bundle apart) ∙ there) (sym (get-set_other known i place (Some allowed) apart) ∙ is)
]

-- and after it kept its bundle
pub known_kept : (terms : Terms) (i : ℕ) (held : List (List ℕ)) (known : List (Option (set.FinSet nat_cmp))) (bundle : List ℕ)
    → AreKnown terms held known → slice_get held i ≡ Some bundle → AreKnown terms (slice_set held i bundle) known
known_kept terms i held known bundle are there = subst (λ h. AreKnown terms h known) (sym (set_again held i bundle there)) are

-- a student may choose what it holds
pub own_allowed : (seats : List ℕ) (held : List (List ℕ)) (i : ℕ) (allowed : set.FinSet nat_cmp)
    → ((s : ℕ) → set.contains allowed s ≡ may_choose seats held i s) → (s : ℕ) → has (slice_index_or held i []) s ≡ true → set.contains allowed s ≡ true
own_allowed seats held i allowed told s in_it = told s ∙ or_left (has (slice_index_or held i []) s) (is_free seats held s) in_it
