-- What is published exists, where prices are found.
use Rattle.std.proofs.Common.{ℕ, ◌≡◌, ◌⊎◌, List, [], ◌∷◌, map, length, refl, ap, sym, subst, inl, inr}
use Rattle.std.specs.Prelude.{All, None, Some, slice_get}
use Rattle.std.specs.List.{AllZip}
use Rattle.std.proofs.lemmas.List.Elements.{All-head, All-tail}
use Rattle.std.proofs.lemmas.Option.{get_or_from_slice_get, slice_get_within}
use Rattle.market_units.specs.declared.units.Tokens.{Tokens}
use Rattle.bundle_bounds.specs.Offers.{OfferData}
use Rattle.bundle_rules.specs.Demand.{IsBest, price_in}
use Rattle.bundle_rules.specs.Menus.{IsMenu, wishes_of}
use Rattle.bundle_rules.proofs.BestValue.{best-is}
use Rattle.budget_draw.specs.Budgets.{amounts, budgets_of}
use Rattle.course_catalog.specs.Catalog.{IsCatalog}
use Rattle.demand_api.specs.Crowds.{CrowdData, IsCrowd, Student, demand, demands}
use Rattle.demand_api.specs.Parts.{of_parts}
use Rattle.proof_tree.specs.Laws.{HasTree, TreesProveTheBest}
use Rattle.proof_tree.specs.Texts.{spelled}
use Rattle.tabu_search.specs.Laws.{SearchEnds}
use Rattle.tabu_search.specs.Search.{IsFound}
use Rattle.oversubscription_stage.specs.Laws.{EliminationEnds}
use Rattle.oversubscription_stage.specs.Rounds.{IsSettled, last}
use Rattle.aftermarket_stage.specs.Laws.{AftermarketEnds}
use Rattle.aftermarket_stage.specs.Passes.{IsAftermarket}
use Rattle.aftermarket_stage.specs.Turns.{EachTurn, IsTurn, Terms, TurnData, after_turn}
use Rattle.market_crowd.proofs.CrowdFacts.{crowd_is_markets}
use Rattle.market_menus.specs.Limits.{EachHasAMenu}
use Rattle.market_settings.specs.declared.reader.Settings.{Settings}
use Rattle.market_certificate.specs.Publications.{Proved, ProvedTurn, Publication}
use Rattle.preference_desk.specs.declared.entry.Entry.{Entry}
use Rattle.student_roll.specs.Students.{IsRoll}
use Rattle.utility_language.specs.declared.commands.Command.{Command}
use Rattle.published_parts.specs.Crowds.{IsCrowdAfter, IsCrowdIn}
use Rattle.published_parts.specs.Holdings.{held_after, tokens, used_of}
use Rattle.published_parts.specs.Journals.{wanted_in}
use Rattle.preference_desk.specs.Journals.{sessions_of}
use Rattle.published_parts.specs.Markets.{Market, seats_in}
use Rattle.published_parts.specs.Offers.{IsProvedBest, IsProvedDemand, all_sections, offer_to}
use Rattle.published_market.specs.Laws.{PublishedOrUnpriced}
use Rattle.published_market.specs.Publishing.{IsOutcome, IsPublished, IsUnpriced, Lengths, lengths_of, terms_at}
use Rattle.published_market.specs.Turns.{IsPublishedTurn, offer_at}
use Rattle.published_market.proofs.Found.{found_prices}
use Rattle.published_market.proofs.Limited.{wanted_limited, wanted_long}
use Rattle.published_market.proofs.Prices.{tokens_of_prices}
use Rattle.published_market.proofs.Publishable.{crowd_known, menus_limited}
use Rattle.published_market.proofs.Outcomes.{demanded_crowd}
use Rattle.aftermarket_stage.proofs.Passing.{made_each}

-- the best bundle of an offer has a tree
tree_for : TreesProveTheBest → (offer : OfferData) (bundle : List ℕ) → IsMenu offer.menu
    → IsBest (wishes_of offer.menu) offer.price offer.budget offer.allowed bundle → (tree : List ℕ) × IsProvedBest offer bundle tree
tree_for law offer bundle menu best =
    let has : HasTree offer None bundle = (law offer bundle menu best.choice).1 best in
    (spelled has.0, record { best = best; proved = (has.0, has.1, refl) })

all_proved : TreesProveTheBest → (sections : ℕ) (price : ℕ → ℕ) (students : List Student) → All (λ (student : Student). IsMenu student.menu) students
    → (bundles : List Proved) × AllZip (IsProvedDemand sections price) students bundles
all_proved law sections price [] menus = ([], tt)
all_proved law sections price (student ∷ students) menus =
    let one =
    tree_for law (offer_to student price student.budget (all_sections sections)) (demand sections price student)
    (All-head (λ (who : Student). IsMenu who.menu) student students menus)
    (best-is student.menu price student.budget (all_sections sections)) in
    let rest = all_proved law sections price students (All-tail (λ (who : Student). IsMenu who.menu) student students menus) in
    (record { bundle = demand sections price student; tree = one.0 } ∷ rest.0, (one.1, rest.1))

listed_menu : (students : List Student) (i : ℕ) (who : Student) → All (λ (student : Student). IsMenu student.menu) students → slice_get students i ≡ Some who
    → IsMenu who.menu
listed_menu students i who menus listed =
    subst (λ (student : Student). IsMenu student.menu) (get_or_from_slice_get students i who who listed) (menus i who (slice_get_within students i who listed))

all_turned : TreesProveTheBest → (crowd : CrowdData) (seats : List ℕ) (prices : List Tokens) (raise : ℕ) (held : List (List ℕ)) (turns : List TurnData)
    → All (λ (student : Student). IsMenu student.menu) crowd.students
    → EachTurn (IsTurn (terms_at crowd seats prices raise)) held turns
    → (published : List ProvedTurn) × AllZip (IsPublishedTurn crowd prices raise) turns published
all_turned law crowd seats prices raise held [] menus are = ([], tt)
all_turned law crowd seats prices raise held (turn ∷ turns) menus are =
    let one =
    tree_for law (offer_at prices raise are.0.who turn) turn.bundle (listed_menu crowd.students turn.student are.0.who menus are.0.listed) are.0.best in
    let rest = all_turned law crowd seats prices raise (after_turn held turn) turns menus are.1 in
    let first : IsPublishedTurn crowd prices raise turn (record { pass = turn.pass; student = turn.student; bundle = turn.bundle; tree = one.0 }) =
    record { pass = refl; student = refl; bundle = refl; who = are.0.who; listed = are.0.listed; proved = one.1 } in
    (record { pass = turn.pass; student = turn.student; bundle = turn.bundle; tree = one.0 } ∷ rest.0, (first, rest.1))

-- an outcome with this order
record HasOutcome (crowd : CrowdData) (seats : List ℕ) (settings : Settings) (order : List ℕ) : Type 0 where
  pub lengths : Lengths
  pub p : Publication
  pub same : p.order ≡ order
  pub is : IsOutcome crowd seats settings lengths p

outcome_found : EliminationEnds → AftermarketEnds → TreesProveTheBest
    → (crowd : CrowdData) (seats : List ℕ) (settings : Settings) (order : List ℕ) (prices : List Tokens) (error turns : ℕ) → IsCrowd crowd
    → All (λ (student : Student). IsMenu student.menu) crowd.students → IsFound crowd seats settings prices error turns → HasOutcome crowd seats settings order
outcome_found elimination aftermarket trees crowd seats settings order prices error turns known menus found =
    let ends = elimination crowd seats prices (found_prices crowd seats settings prices error turns found) in
    let final : List Tokens = last prices ends.0 in
    let shown = all_proved trees crowd.sections (price_in final) crowd.students menus in
    let terms : Terms = terms_at crowd seats final settings.raise in
    let made = aftermarket (terms_at crowd seats final settings.raise) known in
    let told =
    all_turned trees crowd seats final settings.raise (demands crowd (price_in final)) made.0 menus
    (made_each (IsTurn (terms_at crowd seats final settings.raise)) crowd (demands crowd (price_in final)) made.0 made.1 made.2) in
    let start : tokens (map (λ (price : Tokens). price.0) prices) ≡ prices = tokens_of_prices prices in
    let end : tokens (map (λ (price : Tokens). price.0) final) ≡ final = tokens_of_prices final in
    let held : List (List ℕ) = map (λ (proved : Proved). proved.bundle) shown.0 in
    let settled : IsSettled crowd seats prices final (length ends.0) = (ends.0, ends.1, refl, refl) in
    record {
      lengths = lengths_of turns (length ends.0) made.1;
      p = record {
        order = order;
        budgets = map (λ (student : Student). student.budget) crowd.students;
        start = map (λ (price : Tokens). price.0) prices;
        error = error;
        prices = map (λ (price : Tokens). price.0) final;
        bundles = shown.0;
        turns = told.0;
        allocation = held_after held told.0;
        used = used_of seats (held_after held told.0);
      };
      same = refl;
      is = record {
        budgets = refl;
        start = subst (λ (ps : List Tokens). IsFound crowd seats settings ps error turns) (sym start) found;
        prices =
            subst (λ (ps : List Tokens). IsSettled crowd seats (tokens (map (λ (price : Tokens). price.0) prices)) ps (length ends.0)) (sym end)
            (subst (λ (ps : List Tokens). IsSettled crowd seats ps final (length ends.0)) (sym start) settled);
        bundles = subst (λ (ps : List Tokens). AllZip (IsProvedDemand crowd.sections (price_in ps)) crowd.students shown.0) (sym end) shown.1;
        turns = record {
          turns = made.0;
          made = subst (λ (ps : List Tokens). IsAftermarket (terms_at crowd seats ps settings.raise) held made.0 made.1) (sym end)
              (subst (λ (from : List (List ℕ)). IsAftermarket (terms_at crowd seats final settings.raise) from made.0 made.1)
              (sym (demanded_crowd crowd (price_in final) shown.0 shown.1)) made.2);
          published = subst (λ (ps : List Tokens). AllZip (IsPublishedTurn crowd ps settings.raise) made.0 told.0) (sym end) told.1;
        };
        allocation = refl;
        used = refl;
      };
    }

-- with a crowd
by_crowd : SearchEnds → EliminationEnds → AftermarketEnds → TreesProveTheBest
    → (market : Market) (streams : List (List Command)) (order : List ℕ) (crowd : CrowdData) → IsCrowdAfter market streams order crowd → IsCrowd crowd
    → ((p : Publication) × IsPublished market streams order p) ⊎ ((least : ℕ) × IsUnpriced market streams order least)
by_crowd search elimination aftermarket trees market streams order crowd after known =
    let menus = menus_limited market.catalog.sections market.roll.students (wanted_in market after.journal) crowd.students after.is_crowd.menus in
    elim (search crowd (seats_in market) market.settings) [
      | inl (prices, error, turns, found) ↦
          let out =
          outcome_found elimination aftermarket trees crowd (seats_in market) market.settings (sessions_of after.journal) prices error turns known menus
          found in
          inl (
            out.p,
            record {
              journal = after.journal;
              is_journal = after.is_journal;
              lengths = out.lengths;
              publication = record { order = out.same; crowd = crowd; is_crowd = after.is_crowd; outcome = out.is };
            },
          )
      | inr (least, none) ↦ inr (least, (after.journal, after.is_journal, (crowd, after.is_crowd, none)))
    ]

as_tokens : List ℕ → List Tokens
as_tokens budgets = map (λ (n : ℕ). record { 0 = n }) budgets

amounts_back : (budgets : List ℕ) → amounts (as_tokens budgets) ≡ budgets
unfolding as_tokens
amounts_back [] = refl
amounts_back (budget ∷ budgets) = ap (λ more. budget ∷ more) (amounts_back budgets)

-- the students of a market in order are a crowd
crowd_there : EachHasAMenu → (market : Market) (journal : List Entry) → IsCatalog market.catalog → IsRoll market.roll
    → (crowd : CrowdData) × IsCrowdIn market journal crowd
crowd_there law market journal catalog roll =
    let menus = law market.catalog market.roll (wanted_in market journal) catalog roll (wanted_long market journal) (wanted_limited market journal) in
    let budgets : List ℕ = budgets_of market.roll.students market.settings.seed market.settings.spread in (
      of_parts menus.0 (as_tokens budgets) (length market.catalog.sections),
      crowd_is_markets market.catalog market.roll (wanted_in market journal) menus.0 (as_tokens budgets) market.settings.seed market.settings.spread menus.1
          (amounts_back budgets),
    )

pub published_or_unpriced : EachHasAMenu → SearchEnds → EliminationEnds → AftermarketEnds → TreesProveTheBest → PublishedOrUnpriced
published_or_unpriced law search elimination aftermarket trees market streams order journal are is_journal =
    let there = crowd_there law market journal are.catalog are.roll in
    by_crowd search elimination aftermarket trees market streams order there.0 (record { journal = journal; is_journal = is_journal; is_crowd = there.1 })
    (crowd_known market journal there.0 are.catalog are.roll are.settings there.1)
