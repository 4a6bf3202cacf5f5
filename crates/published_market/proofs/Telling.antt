-- What the code tells of the stages.
use Rattle.std.proofs.Common.{ℕ, ◌≡◌, ◌≤◌, ◌∙◌, List, [], ◌∷◌, map, length, refl, ap, subst, sym, arith}
use Rattle.std.specs.Prelude.{All, Some, slice_get}
use Rattle.std.proofs.lemmas.List.{length-map}
use Rattle.std.proofs.lemmas.List.Elements.{All-cons, All-map, All-nil}
use Rattle.std.proofs.lemmas.Option.{get_or_from_slice_get, slice_get_within}
use Rattle.market_units.specs.declared.units.Tokens.{Tokens}
use Rattle.bundle_rules.specs.Demand.{IsBest, price_in}
use Rattle.bundle_rules.specs.Menus.{MenuData, wishes_of}
use Rattle.bundle_rules.proofs.BestValue.{best-only}
use Rattle.budget_draw.specs.Budgets.{raised_by}
use Rattle.bundle_rules.specs.Places.{places_from}
use Rattle.demand_api.specs.Crowds.{CrowdData, Student, holders}
use Rattle.demand_api.specs.Parts.{students_of}
use Rattle.aftermarket_stage.specs.Passes.{IsAftermarket}
use Rattle.aftermarket_stage.specs.Turns.{EachTurn, IsTurn, TurnData, after_turn}
use Rattle.course_catalog.specs.Catalog.{CatalogData, IsCatalog}
use Rattle.course_catalog.specs.Sections.{Section}
use Rattle.preference_desk.specs.declared.entry.Entry.{Entry}
use Rattle.market_certificate.specs.Publications.{IsSession}
use Rattle.preference_desk.specs.Journals.{sessions_of}
use Rattle.published_market.specs.Making.{IsBestTurn}
use Rattle.published_market.specs.Publishing.{terms_at}
use Rattle.published_market.specs.Turns.{best_of, offer_at}
use Rattle.published_parts.specs.Offers.{nobody}
use Rattle.bundle_rules.proofs.PlaceLists.{length-places_from}
use Rattle.aftermarket_stage.proofs.Passing.{made_each}

-- the budgets of a made crowd
pub budgets_told : (menus : List MenuData) (budgets : List Tokens) → length budgets ≡ length menus
    → map (λ (budget : Tokens). budget.0) budgets ≡ map (λ (student : Student). student.budget) (students_of menus budgets)
budgets_told [] [] same = refl
budgets_told [] (budget ∷ budgets) same = absurd (omega arith)
budgets_told (menu ∷ menus) [] same = absurd (omega arith)
budgets_told (menu ∷ menus) (budget ∷ budgets) same = ap (λ rest. budget.0 ∷ rest) (budgets_told menus budgets (omega arith))

best_turn : (crowd : CrowdData) (prices : List Tokens) (raise : ℕ) (turn : TurnData) (who : Student) → slice_get crowd.students turn.student ≡ Some who
    → IsBest (wishes_of who.menu) (price_in prices) (raised_by raise who.budget) turn.allowed turn.bundle → IsBestTurn crowd prices raise turn
best_turn crowd prices raise turn who listed is = record {
  within = slice_get_within crowd.students turn.student who listed;
  best =
      best-only who.menu (price_in prices) (raised_by raise who.budget) turn.allowed turn.bundle is
      ∙ ap (λ (student : Student). best_of (offer_at prices raise student turn)) (sym (get_or_from_slice_get crowd.students turn.student who nobody listed));
}

each_best : (crowd : CrowdData) (seats : List ℕ) (prices : List Tokens) (raise : ℕ) (held : List (List ℕ)) (turns : List TurnData)
    → EachTurn (IsTurn (terms_at crowd seats prices raise)) held turns → All (IsBestTurn crowd prices raise) turns
each_best crowd seats prices raise held [] are = All-nil (IsBestTurn crowd prices raise)
each_best crowd seats prices raise held (turn ∷ turns) are =
    All-cons (IsBestTurn crowd prices raise) turn turns (best_turn crowd prices raise turn are.0.who are.0.listed are.0.best)
    (each_best crowd seats prices raise (after_turn held turn) turns are.1)

-- each turn that was made is to the best of what was offered
pub turns_best : (crowd : CrowdData) (seats : List ℕ) (prices : List Tokens) (raise : ℕ) (held : List (List ℕ)) (turns : List TurnData) (passes : ℕ)
    → IsAftermarket (terms_at crowd seats prices raise) held turns passes → All (IsBestTurn crowd prices raise) turns
turns_best crowd seats prices raise held turns passes is =
    each_best crowd seats prices raise held turns (made_each (IsTurn (terms_at crowd seats prices raise)) crowd held turns passes is)

-- there is a count for each section
pub used_count : (used : List ℕ) (held : List (List ℕ)) (n m : ℕ) → used ≡ map (λ s. holders s held) (places_from 0 n) → m ≡ n → length used ≡ m
used_count used held n m is same = ap (λ (all : List ℕ). length all) is ∙ length-map (places_from 0 n) (λ s. holders s held) ∙ length-places_from 0 n ∙ sym same

-- the sessions of the entries are sessions
pub order_told : (journal : List Entry) (order : List ℕ) → order ≡ sessions_of journal → All (λ (entry : Entry). IsSession entry.session) journal
    → All IsSession order
order_told journal order is are = subst (All IsSession) (sym is) (All-map IsSession (λ (entry : Entry). entry.session) journal are)

-- no section of a catalogue has more than 9,999 seats
pub seats_low : (catalog : CatalogData) (seats : List ℕ) → seats ≡ map (λ (section : Section). section.seats) catalog.sections → IsCatalog catalog
    → All (λ count. count ≤ 9999) seats
seats_low catalog seats same is =
    subst (All (λ count. count ≤ 9999)) (sym same)
    (All-map (λ count. count ≤ 9999) (λ (section : Section). section.seats) catalog.sections (λ k d inside. (is.each k d inside).is_section.few_seats))

-- there are as many seat numbers as sections
pub seats_count : (catalog : CatalogData) (seats : List ℕ) → seats ≡ map (λ (section : Section). section.seats) catalog.sections
    → length seats ≡ length catalog.sections
seats_count catalog seats same = ap (λ (all : List ℕ). length all) same ∙ length-map catalog.sections (λ (section : Section). section.seats)
