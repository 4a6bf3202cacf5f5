-- What a turn does to what is held: it brings a preferred bundle or nothing, and keeps the seats.
use Rattle.std.proofs.Common.{ℕ, ◌≡◌, ◌≢◌, ◌<◌, ◌≤◌, ◌⊎◌, ◌∷◌, ◌++◌, Bool, true, List, [], length, Some, arith, refl, sym, ◌∙◌, ap, subst, inl, inr}
use Rattle.std.specs.Prelude.{slice_get, slice_index, slice_index_or, slice_set, nat_lt, option_map}
use Rattle.std.proofs.lemmas.Bool.{cases_Bool, cases_eq, or_left}
use Rattle.std.proofs.lemmas.Bool.Decides.{nat_tests}
use Rattle.std.proofs.lemmas.List.{length-set, length-map}
use Rattle.std.proofs.lemmas.Option.{slice_get_within, get_or_from_slice_get, slice_get-map, slice_get_cases}
use Rattle.market_units.specs.Members.{has}
use Rattle.bundle_rules.specs.Menus.{wishes_of}
use Rattle.bundle_rules.specs.Preferences.{IsPreferred}
use Rattle.bundle_rules.specs.Demand.{price_in, IsChoice}
use Rattle.bundle_rules.specs.Existence.Orders.{compared, not_both_preferred, not_preferred_itself}
use Rattle.bundle_rules.proofs.BestValue.{best-is}
use Rattle.budget_draw.specs.Budgets.{raised_by}
use Rattle.demand_api.specs.Crowds.{Student, CrowdData, IsCrowd, IsWithin, demand, demands, holders}
use Rattle.held_seats.specs.Choices.{AreHeldWithin, is_free, may_choose}
use Rattle.aftermarket_stage.specs.Turns.{Terms, TurnData, IsTurn, after_turn, after_turns, EachTurn, IsQuiet}
use Rattle.aftermarket_stage.specs.HeldChoices.{HoldsChoice, AreChoices}
use Rattle.aftermarket_stage.specs.Laws.{start_of, IsImproved}
use Rattle.held_seats.proofs.Gets.{get-set_same, get-set_other, set_again, set_past}
use Rattle.demand_api.proofs.Holders.{holders_set}
use Rattle.aftermarket_stage.proofs.Ranks.{rank_falls, rated_below, left, left_set}

-- a choice of some sections is one of all
any_choice : (terms : Terms) (who : Student) (allowed : ℕ → Bool) (bundle : List ℕ)
    → IsChoice (wishes_of who.menu) (price_in terms.prices) (raised_by terms.raise who.budget) allowed bundle
    → IsChoice (wishes_of who.menu) (price_in terms.prices) (raised_by terms.raise who.budget) (λ s. true) bundle
any_choice terms who allowed bundle is = record { feasible = is.feasible; affordable = is.affordable; within = λ s in_it. refl }

-- what is held may be chosen again
choice_of_held : (terms : Terms) (held : List (List ℕ)) (turn : TurnData) (is : IsTurn terms held turn) (holds : HoldsChoice terms held is.who turn.student)
    → IsChoice (wishes_of is.who.menu) (price_in terms.prices) (raised_by terms.raise is.who.budget) turn.allowed holds.bundle
choice_of_held terms held turn is holds = record {
  feasible = holds.choice.feasible;
  affordable = holds.choice.affordable;
  within = λ s in_it.
      let own : slice_index_or held turn.student [] ≡ holds.bundle = get_or_from_slice_get held turn.student holds.bundle [] holds.there in
      ap (λ allowed. allowed s) is.choices
      ∙ or_left (has (slice_index_or held turn.student []) s) (is_free terms.seats held s) (ap (λ b. has b s) own ∙ in_it);
}

-- a turn brings nothing new, or a preferred bundle
pub turn_told : (terms : Terms) (held : List (List ℕ)) (turn : TurnData) → AreChoices terms held → IsTurn terms held turn
    → IsQuiet held turn ⊎ IsImproved terms held turn
turn_told terms held turn are is =
    let holds = are.choices turn.student is.who is.listed in
    let choice = choice_of_held terms held turn is holds in
    elim (compared (wishes_of is.who.menu) holds.bundle turn.bundle holds.choice.feasible.set is.best.choice.feasible.set) [
      | inl same ↦ inl (holds.there ∙ ap (λ (b : List ℕ). Some b) same)
      | inr (inl worse) ↦ absurd (
          let apart : holds.bundle ≢ turn.bundle =
          λ e. not_preferred_itself (wishes_of is.who.menu) holds.bundle (subst (λ b. IsPreferred (wishes_of is.who.menu) holds.bundle b) (sym e) worse) in
          not_both_preferred (wishes_of is.who.menu) holds.bundle turn.bundle worse (is.best.preferred holds.bundle choice apart)
          )
      | inr (inr better) ↦ inr (record { who = is.who; listed = is.listed; before = holds.bundle; had = holds.there; preferred = better })
    ]

-- after it each student holds a choice
pub choices_after : (terms : Terms) (held : List (List ℕ)) (turn : TurnData) → AreChoices terms held → IsTurn terms held turn
    → AreChoices terms (after_turn held turn)
choices_after terms held turn are is = record {
  each = length-set held turn.student turn.bundle ∙ are.each;
  choices = λ place who listed. elim (cases_eq place turn.student) [
    | inl here ↦
        let both : Some who ≡ Some is.who = sym listed ∙ ap (slice_get terms.crowd.students) here ∙ is.listed in
        let same : is.who ≡ who = cc both in
        let low : turn.student < length held =
        let size = are.each in let within = slice_get_within terms.crowd.students turn.student is.who is.listed in omega arith in
        record {
          bundle = turn.bundle;
          there = ap (slice_get (slice_set held turn.student turn.bundle)) here ∙ get-set_same held turn.student turn.bundle low;
          choice =
              subst (λ w. IsChoice (wishes_of w.menu) (price_in terms.prices) (raised_by terms.raise w.budget) (λ s. true) turn.bundle) same
              (any_choice terms is.who turn.allowed turn.bundle is.best.choice);
        }
    | inr apart ↦
        let holds = are.choices place who listed in
        record { bundle = holds.bundle; there = get-set_other held turn.student place turn.bundle apart ∙ holds.there; choice = holds.choice }
  ];
}

-- a change is not quiet
pub improved_moves : (terms : Terms) (held : List (List ℕ)) (turn : TurnData) → IsImproved terms held turn → ¬ IsQuiet held turn
improved_moves terms held turn is quiet =
    let both : Some is.before ≡ Some turn.bundle = sym is.had ∙ quiet in
    let same : turn.bundle ≡ is.before = cc both in
    not_preferred_itself (wishes_of is.who.menu) is.before (subst (λ b. IsPreferred (wishes_of is.who.menu) b is.before) same is.preferred)

-- the menu of a listed student is within the crowd's sections
listed_within : (crowd : CrowdData) (i : ℕ) (who : Student) → IsCrowd crowd → slice_get crowd.students i ≡ Some who → IsWithin crowd.sections who.menu
listed_within crowd i who is listed =
    let low = slice_get_within crowd.students i who listed in
    let here = get_or_from_slice_get crowd.students i who who listed in
    subst (λ w. IsWithin crowd.sections w.menu) here (is.menus i who low)

-- the sections of a bundle that may be taken are the crowd's
pub choice_below : (crowd : CrowdData) (price : ℕ → ℕ) (budget i : ℕ) (who : Student) (allowed : ℕ → Bool) (bundle : List ℕ) → IsCrowd crowd
    → slice_get crowd.students i ≡ Some who → IsChoice (wishes_of who.menu) price budget allowed bundle
    → (s : ℕ) → has bundle s ≡ true → s < crowd.sections
choice_below crowd price budget i who allowed bundle known listed choice s in_it =
    rated_below crowd.sections who.menu (listed_within crowd i who known listed) s (choice.feasible.rated s in_it)

-- what is left falls with a change
left_falls : (terms : Terms) (held : List (List ℕ)) (turn : TurnData) → IsCrowd terms.crowd → IsTurn terms held turn → IsImproved terms held turn
    → left terms.crowd.sections terms.crowd.students (after_turn held turn) < left terms.crowd.sections terms.crowd.students held
left_falls terms held turn known is change =
    let both : Some is.who ≡ Some change.who = sym is.listed ∙ change.listed in
    let same : is.who ≡ change.who = cc both in
    let choice =
    subst (λ w. IsChoice (wishes_of w.menu) (price_in terms.prices) (raised_by terms.raise w.budget) turn.allowed turn.bundle) same is.best.choice in
    let less =
    rank_falls terms.crowd.sections change.who.menu change.before turn.bundle choice.feasible
    (choice_below terms.crowd (price_in terms.prices) (raised_by terms.raise change.who.budget) turn.student change.who turn.allowed turn.bundle known
    change.listed choice)
    change.preferred in
    let sums = left_set terms.crowd.sections terms.crowd.students held turn.student change.who change.before turn.bundle change.listed change.had in
    omega (arith, less, sums)

-- what some turns come to: each student holds a choice after them; and they bring nothing new, or less is left
pub record Comes (terms : Terms) (held : List (List ℕ)) (turns : List TurnData) : Type 0 where
  pub choices : AreChoices terms (after_turns held turns)
  pub told : (EachTurn IsQuiet held turns × (after_turns held turns ≡ held))
      ⊎ ((¬ EachTurn IsQuiet held turns)
      × (left terms.crowd.sections terms.crowd.students (after_turns held turns) < left terms.crowd.sections terms.crowd.students held))

pub comes : (terms : Terms) (held : List (List ℕ)) (turns : List TurnData) → IsCrowd terms.crowd → AreChoices terms held → EachTurn (IsTurn terms) held turns
    → Comes terms held turns
comes terms held [] known are each = record { choices = are; told = inl (tt, refl) }
comes terms held (turn ∷ turns) known are each =
    let rest = comes terms (after_turn held turn) turns known (choices_after terms held turn are each.0) each.1 in
    record {
      choices = rest.choices;
      told = elim (turn_told terms held turn are each.0) [
        | inl quiet ↦
            let same : after_turn held turn ≡ held = set_again held turn.student turn.bundle quiet in
            elim rest.told [
              | inl none ↦ inl ((quiet, none.0), none.1 ∙ same)
              | inr some ↦
                  inr (
                    λ all. some.0 all.1,
                    let even = ap (left terms.crowd.sections terms.crowd.students) same in let less = some.1 in omega (arith, even, less),
                  )
            ]
        | inr change ↦
            let less = left_falls terms held turn known each.0 change in
            inr (
              λ all. improved_moves terms held turn change all.0,
              elim rest.told [
                | inl none ↦ let even = ap (left terms.crowd.sections terms.crowd.students) none.1 in omega (arith, even, less)
                | inr some ↦ let more = some.1 in omega (arith, more, less)
              ],
            )
      ];
    }

-- what each student takes before the raise is a choice with it
pub start_choices : (terms : Terms) → AreChoices terms (start_of terms)
unfolding demands
start_choices terms = record {
  each = length-map terms.crowd.students (demand terms.crowd.sections (price_in terms.prices));
  choices = λ place who listed.
      let is = best-is who.menu (price_in terms.prices) who.budget (λ s. nat_lt s terms.crowd.sections) in
      record {
        bundle = demand terms.crowd.sections (price_in terms.prices) who;
        there =
            slice_get-map (demand terms.crowd.sections (price_in terms.prices)) terms.crowd.students place
            ∙ ap (option_map (demand terms.crowd.sections (price_in terms.prices))) listed;
        choice = record {
          feasible = is.choice.feasible;
          affordable = let within = is.choice.affordable in omega (arith, within);
          within = λ s in_it. refl;
        };
      };
}

-- turns after turns
pub each_append : (Wanted : List (List ℕ) → TurnData → Type 0) (held : List (List ℕ)) (xs ys : List TurnData) → EachTurn Wanted held xs
    → EachTurn Wanted (after_turns held xs) ys → EachTurn Wanted held (xs ++ ys)
each_append Wanted held [] ys one two = two
each_append Wanted held (x ∷ xs) ys one two = (one.0, each_append Wanted (after_turn held x) xs ys one.1 two)

pub each_front : (Wanted : List (List ℕ) → TurnData → Type 0) (held : List (List ℕ)) (xs ys : List TurnData) → EachTurn Wanted held (xs ++ ys)
    → EachTurn Wanted held xs
each_front Wanted held [] ys all = tt
each_front Wanted held (x ∷ xs) ys all = (all.0, each_front Wanted (after_turn held x) xs ys all.1)

pub each_later : (Wanted : List (List ℕ) → TurnData → Type 0) (held : List (List ℕ)) (xs ys : List TurnData) → EachTurn Wanted held (xs ++ ys)
    → EachTurn Wanted (after_turns held xs) ys
each_later Wanted held [] ys all = all
each_later Wanted held (x ∷ xs) ys all = each_later Wanted (after_turn held x) xs ys all.1

pub after_append : (held : List (List ℕ)) (xs ys : List TurnData) → after_turns held (xs ++ ys) ≡ after_turns (after_turns held xs) ys
after_append held [] ys = refl
after_append held (x ∷ xs) ys = after_append (after_turn held x) xs ys

-- choices stay choices after any turns
pub choices_stay : (terms : Terms) (held : List (List ℕ)) (turns : List TurnData) → AreChoices terms held → EachTurn (IsTurn terms) held turns
    → AreChoices terms (after_turns held turns)
choices_stay terms held [] are each = are
choices_stay terms held (turn ∷ turns) are each = choices_stay terms (after_turn held turn) turns (choices_after terms held turn are each.0) each.1

-- a turn keeps within seats
within_after : (terms : Terms) (sections : ℕ) (held : List (List ℕ)) (turn : TurnData) → AreHeldWithin sections terms.seats held → IsTurn terms held turn
    → AreHeldWithin sections terms.seats (after_turn held turn)
within_after terms sections held turn within is s low = elim (slice_get_cases held turn.student).1 [
  | inl (before, inside, there, read) ↦
      let sums = holders_set s held turn.student before turn.bundle there in
      let few : holders s held ≤ slice_index terms.seats s = within s low in
      elim (cases_Bool (has turn.bundle s)) [
        | inl takes ↦ elim (cases_Bool (has before s)) [
          | inl had ↦ let same = rw (takes, had) at sums in omega (arith, same, few)
          | inr lacked ↦
              let own : slice_index_or held turn.student [] ≡ before = get_or_from_slice_get held turn.student before [] there in
              let may : may_choose terms.seats held turn.student s ≡ true = ap (λ allowed. allowed s) (sym is.choices) ∙ is.best.choice.within s takes in
              let free : is_free terms.seats held s ≡ true = rw (own, lacked) at may in
              let room : holders s held < slice_index terms.seats s = grind (arith, nat_tests) in
              let more = rw (takes, lacked) at sums in
              omega (arith, more, room)
        ]
        | inr leaves ↦ let less = rw leaves at sums in omega (arith, less, few)
      ]
  | inr past ↦
      let same : after_turn held turn ≡ held = set_past held turn.student turn.bundle past.1 in
      subst (λ h. holders s h ≤ slice_index terms.seats s) (sym same) (within s low)
]

pub within_stays : (terms : Terms) (sections : ℕ) (held : List (List ℕ)) (turns : List TurnData) → AreHeldWithin sections terms.seats held
    → EachTurn (IsTurn terms) held turns → AreHeldWithin sections terms.seats (after_turns held turns)
within_stays terms sections held [] within each = within
within_stays terms sections held (turn ∷ turns) within each =
    within_stays terms sections (after_turn held turn) turns (within_after terms sections held turn within each.0) each.1
