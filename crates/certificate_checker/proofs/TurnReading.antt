-- What is found on a turn.
use Rattle.std.proofs.Common.{ℕ, ◌≡◌, ◌<◌, ◌≤◌, ◌∙◌, Bool, true, false, List, length, map, get_or, refl, ap, sym, subst, arith}
use Rattle.std.specs.Prelude.{All, None}
use Rattle.std.specs.FinSet as set
use Rattle.std.specs.Ordering.{nat_cmp}
use Rattle.std.proofs.lemmas.List.{length-map}
use Rattle.market_units.specs.Totals.{total}
use Rattle.market_units.specs.declared.units.Tokens.{Tokens}
use Rattle.bundle_bounds.specs.Offers.{OfferData, offer_of}
use Rattle.bundle_rules.specs.Bundles.{sections_of}
use Rattle.bundle_rules.specs.Demand.{HasPrices, IsPriced, price_in}
use Rattle.bundle_rules.specs.Menus.{MenuData, wishes_of}
use Rattle.market_units.specs.Members.{has}
use Rattle.bundle_rules.specs.Wishes.{IsFeasible}
use Rattle.budget_draw.specs.Budgets.{raised_by}
use Rattle.demand_api.specs.Crowds.{IsWithin}
use Rattle.demand_api.specs.Views.{data_of}
use Rattle.demand_api.proofs.Parts.{menus_within, students_length}
use Rattle.market_certificate.specs.declared.publication.ProvedTurn as declared_turn
use Rattle.market_certificate.specs.declared.publication.Publication as declared
use Rattle.market_certificate.specs.Publications.{ProvedTurn, Publication}
use Rattle.market_certificate.specs.Views.{publication_of, turn_of}
use Rattle.proof_tree.specs.declared.defects.TreeDefect.{TreeDefect}
use Rattle.proof_tree.specs.Defects.{IsDefect}
use Rattle.proof_tree.specs.Texts.{IsTreeText}
use Rattle.held_seats.specs.Choices.{may_choose}
use Rattle.certificate_checker.specs.declared.findings.Finding.{Finding}
use Rattle.certificate_checker.specs.declared.findings.Finding.TheVariants.{Allocation, Budget, Infeasible, Journal, NotQuiet, Seats, Text, Tree, Turn, Unaffordable, Used}
use Rattle.certificate_checker.specs.declared.findings.TurnFault.TheVariants as fault
use Rattle.certificate_checker.specs.declared.progress.Progress.{Progress}
use Rattle.certificate_checker.specs.declared.terms.Terms.{Terms}
use Rattle.certificate_checker.specs.Findings.{HasTurnFault, HoldsToSeats, IsFirstIn, IsTurnFinding}
use Rattle.certificate_checker.specs.Firsts.{AllBelow}
use Rattle.certificate_checker.specs.Terms.{TermsData}
use Rattle.certificate_checker.specs.Parts.{CanCheck, IsDueTurn, IsProgress}
use Rattle.certificate_checker.specs.Students.{IsAffordable, IsOffered, MayTake}
use Rattle.certificate_checker.specs.Turns.{EndsQuietly, HasQuietPass, IsDue, IsRightTurn, held_before, order_in, turn_in, turn_offer}
use Rattle.certificate_checker.specs.Views.{terms_of}
use Rattle.certificate_checker.proofs.Bundling.{all_priced}
use Rattle.certificate_checker.proofs.Reading.{HasLengths, lengths, moved, nameless_sections}
use Rattle.certificate_checker.proofs.Turning.{is_due_turn, no_due_turn, turn_below, turn_is, turn_offer_is, turn_student}

-- a turn is read where the passes have come so far
pub record IsTurnAt (terms : Terms) (publication : declared.Publication) (place : ℕ) (order : List ℕ) (progress : Progress) (item : declared_turn.ProvedTurn) :
    Type 0 where
  pub can : CanCheck terms (publication_of publication)
  pub low : place < length publication.turns.items
  pub printed : item ≡ get_or publication.turns.items place item
  pub order_is : order ≡ order_in (terms_of terms).crowd
  pub so_far : IsProgress (length terms.crowd.menus.items) (publication_of publication) place progress

-- its student's menu, budget and raised budget, and the prices
pub record IsTurnOf (terms : Terms) (publication : declared.Publication) (item : declared_turn.ProvedTurn) (m : MenuData) (b raised : Tokens)
    (prices : List Tokens) : Type 0 where
  pub menu : m ≡ get_or terms.crowd.menus.items item.student.0 m
  pub budget : b ≡ get_or terms.crowd.budgets.items item.student.0 b
  pub more : raised.0 ≡ raised_by terms.raise b.0
  pub prices_are : prices ≡ publication.prices.items

-- each section of a student's menu has a price
pub menu_priced : (terms : Terms) (publication : declared.Publication) (k : ℕ) (m : MenuData) (prices : List Tokens) {student : ℕ}
    → CanCheck terms (publication_of publication) → student < length terms.crowd.menus.items → k ≡ student → m ≡ get_or terms.crowd.menus.items k m
    → prices ≡ publication.prices.items → HasPrices m prices
menu_priced terms publication k m prices is low same menu listed = λ j d inside.
    let long : HasLengths terms publication = lengths terms publication is in
    let within : IsWithin terms.crowd.sections m = subst (IsWithin terms.crowd.sections) (sym menu) (menus_within terms.crowd k m (omega arith)) in
    let small : (get_or m.places j d).section.0 < terms.crowd.sections = within j d inside in
    let size : length prices ≡ length publication.prices.items = ap length listed in
    record {
      listed = omega arith;
      high = subst (λ (all : List Tokens). get_or (map (λ (t : Tokens). t.0) all) (get_or m.places j d).section.0 0 ≤ 1000001) (sym listed)
          (is.is_publication.prices.each (get_or m.places j d).section.0 0
          (let many = is.is_publication.prices.count in let sections = nameless_sections terms in omega arith));
    }

-- what is told of the choices at a floor is so of what the publication held, and of the turn's student
pub told_choices : (seats : List ℕ) (held before : List (List ℕ)) (student k : ℕ) (choices : set.FinSet nat_cmp)
    → ((s : ℕ) → set.contains choices s ≡ may_choose seats held student s) → held ≡ before → student ≡ k
    → (s : ℕ) → set.contains choices s ≡ may_choose seats before k s
told_choices seats held before student k choices told same who s = told s ∙ (λ i. may_choose seats (same i) (who i) s)

module _ (terms : Terms) (publication : declared.Publication) (place : ℕ) (order : List ℕ) (progress : Progress) (item : declared_turn.ProvedTurn)
    (at : IsTurnAt terms publication place order progress item) where
  read : turn_of item ≡ turn_in (publication_of publication) place
  read = sym (turn_is publication place item at.low at.printed)

  pub who : item.student.0 < length terms.crowd.menus.items
  who = turn_student terms publication place item at.can at.low at.printed

  pub fits : All (λ s. s < terms.crowd.sections) (sections_of item.bundle)
  fits = turn_below terms publication place item at.can at.low at.printed

  pub some : 0 < length (data_of terms.crowd).students
  some = let long = students_length terms.crowd in let student = who in omega arith

  goes : IsProgress (length (terms_of terms).crowd.students) (publication_of publication) place progress
  goes =
      subst (λ n. IsProgress n (publication_of publication) place progress)
      (sym (students_length terms.crowd)) at.so_far

  pub is_due : IsDueTurn order progress (turn_of item) → IsDue (terms_of terms).crowd (publication_of publication) place
  is_due due =
      is_due_turn (terms_of terms).crowd (publication_of publication) place progress goes some
      (moved (λ (list : List ℕ) (turn : ProvedTurn). IsDueTurn list progress turn) order (order_in (terms_of terms).crowd) (turn_of item)
      (turn_in (publication_of publication) place) at.order_is read due)

  pub not_due : ¬ IsDueTurn order progress (turn_of item) → HasTurnFault (terms_of terms) (publication_of publication) place fault.Order
  not_due other =
      no_due_turn (terms_of terms).crowd (publication_of publication) place progress goes some
      (moved (λ (list : List ℕ) (turn : ProvedTurn). ¬ IsDueTurn list progress turn) order (order_in (terms_of terms).crowd) (turn_of item)
      (turn_in (publication_of publication) place) at.order_is read other)

  module _ (m : MenuData) (b raised : Tokens) (prices : List Tokens) (of : IsTurnOf terms publication item m b raised prices) where
    -- what is offered, where these sections may be chosen
    abbrev offered : (ℕ → Bool) → OfferData
    offered allowed = record { menu = m; price = price_in prices; budget = raised.0; allowed = allowed }

    offered_is : (allowed : ℕ → Bool) → ((s : ℕ) → allowed s ≡ may_choose terms.seats.items (held_before (publication_of publication) place) item.student.0 s)
        → offered allowed ≡ turn_offer (terms_of terms) (publication_of publication) place
    offered_is allowed told =
        ap (λ (list : List Tokens). record { menu = m; price = price_in list; budget = raised.0; allowed = allowed }) of.prices_are
        ∙ sym
        (turn_offer_is terms.crowd terms.seats.items terms.raise place publication item m b raised
        allowed who of.menu of.budget (sym read) of.more told)

    -- a fact of what is read is one of what is printed
    pub told_of_turn : (P : OfferData → ProvedTurn → Type 0) (allowed : ℕ → Bool)
        → ((s : ℕ) → allowed s ≡ may_choose terms.seats.items (held_before (publication_of publication) place) item.student.0 s)
        → P (offered allowed) (turn_of item) → P (turn_offer (terms_of terms) (publication_of publication) place) (turn_in (publication_of publication) place)
    told_of_turn P allowed told is =
        moved P (offered allowed) (turn_offer (terms_of terms) (publication_of publication) place) (turn_of item) (turn_in (publication_of publication) place)
        (offered_is allowed told) read is

    pub priced_turn : All (IsPriced prices) (sections_of item.bundle)
    priced_turn = all_priced terms publication prices (sections_of item.bundle) at.can of.prices_are fits

    affordable_is : total (price_in prices) (sections_of item.bundle) ≤ raised.0
        → IsAffordable (turn_offer (terms_of terms) (publication_of publication) place) (turn_in (publication_of publication) place).bundle
    affordable_is is =
        told_of_turn (λ offer turn. IsAffordable offer turn.bundle)
        (may_choose terms.seats.items (held_before (publication_of publication) place) item.student.0)
        (λ s. refl) is

    feasible_is : IsFeasible (wishes_of m) (sections_of item.bundle)
        → MayTake (turn_offer (terms_of terms) (publication_of publication) place) (turn_in (publication_of publication) place).bundle
    feasible_is is =
        told_of_turn (λ offer turn. MayTake offer turn.bundle) (may_choose terms.seats.items (held_before (publication_of publication) place) item.student.0)
        (λ s. refl) is

    pub unaffordable_turn : IsDueTurn order progress (turn_of item) → ¬ (total (price_in prices) (sections_of item.bundle) ≤ raised.0)
        → HasTurnFault (terms_of terms) (publication_of publication) place fault.Unaffordable
    unaffordable_turn due high = (
      is_due due,
      told_of_turn (λ offer turn. ¬ IsAffordable offer turn.bundle)
          (may_choose terms.seats.items (held_before (publication_of publication) place) item.student.0) (λ s. refl) high,
    )

    pub infeasible_turn : IsDueTurn order progress (turn_of item) → total (price_in prices) (sections_of item.bundle) ≤ raised.0
        → ¬ IsFeasible (wishes_of m) (sections_of item.bundle) → HasTurnFault (terms_of terms) (publication_of publication) place fault.Infeasible
    infeasible_turn due affordable not = (
      is_due due,
      affordable_is affordable,
      told_of_turn (λ offer turn. ¬ MayTake offer turn.bundle) (may_choose terms.seats.items (held_before (publication_of publication) place) item.student.0)
          (λ s. refl) not,
    )

    module _ (choices : set.FinSet nat_cmp)
        (told : (s : ℕ) → set.contains choices s ≡ may_choose terms.seats.items (held_before (publication_of publication) place) item.student.0 s) where
      pub taken_turn : IsDueTurn order progress (turn_of item) → total (price_in prices) (sections_of item.bundle) ≤ raised.0
          → IsFeasible (wishes_of m) (sections_of item.bundle) → ¬ ((s : ℕ) → has (sections_of item.bundle) s ≡ true → set.contains choices s ≡ true)
          → HasTurnFault (terms_of terms) (publication_of publication) place fault.Taken
      taken_turn due affordable feasible not = (
        is_due due,
        affordable_is affordable,
        feasible_is feasible,
        told_of_turn (λ offer turn. ¬ IsOffered offer turn.bundle) (set.contains choices) told not,
      )

      pub wrong_turn_tree : (tree : List ℕ) (defect : TreeDefect) → tree ≡ item.tree.items → IsDueTurn order progress (turn_of item)
          → total (price_in prices) (sections_of item.bundle) ≤ raised.0 → IsFeasible (wishes_of m) (sections_of item.bundle)
          → ((s : ℕ) → has (sections_of item.bundle) s ≡ true → set.contains choices s ≡ true)
          → IsDefect (offer_of m prices raised.0 choices) (sections_of item.bundle) tree defect
          → HasTurnFault (terms_of terms) (publication_of publication) place (fault.Tree defect)
      wrong_turn_tree tree defect same due affordable feasible chosen is = (
        is_due due,
        affordable_is affordable,
        feasible_is feasible,
        told_of_turn (λ offer turn. IsOffered offer turn.bundle) (set.contains choices) told chosen,
        told_of_turn (λ offer turn. IsDefect offer turn.bundle turn.tree defect) (set.contains choices) told
            (subst (λ t. IsDefect (offer_of m prices raised.0 choices) (sections_of item.bundle) t defect) same is),
      )

      pub right_turn : (tree : List ℕ) → tree ≡ item.tree.items → IsDueTurn order progress (turn_of item)
          → total (price_in prices) (sections_of item.bundle) ≤ raised.0 → IsFeasible (wishes_of m) (sections_of item.bundle)
          → ((s : ℕ) → has (sections_of item.bundle) s ≡ true → set.contains choices s ≡ true)
          → IsTreeText (offer_of m prices raised.0 choices) None (sections_of item.bundle) tree
          → IsRightTurn (terms_of terms) (publication_of publication) place
      right_turn tree same due affordable feasible chosen is = record {
        due = is_due due;
        affordable = affordable_is affordable;
        feasible = feasible_is feasible;
        offered = told_of_turn (λ offer turn. IsOffered offer turn.bundle) (set.contains choices) told chosen;
        proved =
            told_of_turn (λ offer turn. IsTreeText offer None turn.bundle turn.tree) (set.contains choices) told
            (subst (λ t. IsTreeText (offer_of m prices raised.0 choices) None (sections_of item.bundle) t) same is);
      }

-- the turns end quietly where the passes are over
pub ends_quietly : (terms : Terms) (publication : declared.Publication) (place : ℕ) (progress : Progress) → CanCheck terms (publication_of publication)
    → place ≡ length publication.turns.items → IsProgress (length terms.crowd.menus.items) (publication_of publication) place progress → progress.over ≡ true
    → EndsQuietly (terms_of terms).crowd (publication_of publication)
ends_quietly terms publication place progress can at is over = λ some.
    moved (λ (n t : ℕ). HasQuietPass n (publication_of publication) t) (length terms.crowd.menus.items)
    (length (data_of terms.crowd).students) place (length (publication_of publication).turns)
    (sym (students_length terms.crowd)) (at ∙ sym (length-map publication.turns.items turn_of))
    (is.is_over over)

-- and not where they go on
pub ends_early : (terms : Terms) (publication : declared.Publication) (place : ℕ) (progress : Progress) → CanCheck terms (publication_of publication)
    → place ≡ length publication.turns.items → IsProgress (length terms.crowd.menus.items) (publication_of publication) place progress
    → 0 < length terms.crowd.menus.items → progress.over ≡ false
    → ¬ EndsQuietly (terms_of terms).crowd (publication_of publication)
ends_early terms publication place progress can at is some over = λ ends.
    let students = students_length terms.crowd in
    is.goes_on some over
    (moved (λ (n t : ℕ). HasQuietPass n (publication_of publication) t) (length (data_of terms.crowd).students) (length terms.crowd.menus.items) (length (publication_of publication).turns) place
    students (length-map publication.turns.items turn_of ∙ sym at) (ends (omega arith)))

-- what is found on a turn is the first finding, where what comes before it is right
pub first_turn : (terms : TermsData) (p : Publication) (place : ℕ) (finding : Finding) → HoldsToSeats terms p → place < length p.turns
    → AllBelow place (IsRightTurn terms p) → IsTurnFinding terms p place finding → IsFirstIn terms p finding
first_turn terms p place (Turn turn fault) seats inside before is =
    record { before = seats; found = record { place = place; number = is.0; within = inside; before = before; wrong = is.1 } }
first_turn terms p place (Text line kind) seats inside before is = absurd is
first_turn terms p place (Journal at) seats inside before is = absurd is
first_turn terms p place (Budget number) seats inside before is = absurd is
first_turn terms p place (Unaffordable number) seats inside before is = absurd is
first_turn terms p place (Infeasible number) seats inside before is = absurd is
first_turn terms p place (Tree number defect) seats inside before is = absurd is
first_turn terms p place (Seats section used free) seats inside before is = absurd is
first_turn terms p place (NotQuiet turns) seats inside before is = absurd is
first_turn terms p place (Allocation number) seats inside before is = absurd is
first_turn terms p place (Used section) seats inside before is = absurd is
