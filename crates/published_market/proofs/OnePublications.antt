-- A market publishes one publication for an order, or none.
use Rattle.std.proofs.Common.{ℕ, ◌≡◌, ◌∙◌, List, map, ap, sym, subst}
use Rattle.std.specs.Prelude.{Some}
use Rattle.std.specs.List.{AllZip}
use Rattle.market_units.specs.declared.units.Tokens.{Tokens}
use Rattle.bundle_rules.specs.Demand.{price_in}
use Rattle.demand_api.specs.Crowds.{CrowdData, Student}
use Rattle.tabu_search.specs.Laws.{NotBothAreSearched, OneIsFound, OneSearchedError}
use Rattle.tabu_search.specs.Search.{FindsNone}
use Rattle.oversubscription_stage.specs.Rounds.{IsSettled}
use Rattle.aftermarket_stage.specs.Laws.{OneAftermarket}
use Rattle.aftermarket_stage.specs.Passes.{IsAftermarket}
use Rattle.aftermarket_stage.specs.Turns.{Terms, TurnData}
use Rattle.preference_desk.specs.declared.entry.Entry.{Entry}
use Rattle.market_settings.specs.declared.reader.Settings.{Settings}
use Rattle.market_certificate.specs.Publications.{Proved, ProvedTurn, Publication}
use Rattle.market_certificate.specs.Texts.{text_of}
use Rattle.published_parts.specs.Markets.{Market, names_in, seats_in, tables_in}
use Rattle.published_parts.specs.Journals.{wanted_in}
use Rattle.published_parts.specs.Offers.{IsProvedBest, IsProvedDemand}
use Rattle.published_market.specs.Turns.{IsPublishedTurn, offer_at}
use Rattle.published_parts.specs.Holdings.{demanded, held_after, tokens, used_of}
use Rattle.published_parts.specs.Crowds.{IsCrowdIn}
use Rattle.published_market.specs.Publishing.{AreTurns, HasNoPrices, IsOutcome, IsPublicationOf, Lengths, terms_at}
use Rattle.published_market.specs.Laws.{OneLeastError, OnePublication, OnePublishedText, PublishedIsPriced}
use Rattle.published_parts.proofs.OneBests.{one_by_items, one_list_of_demands, one_proof}
use Rattle.published_parts.proofs.OneCrowds.{one_crowd}
use Rattle.published_parts.proofs.OneJournals.{one_journal}
use Rattle.published_market.proofs.Prices.{same_amounts}
use Rattle.published_market.proofs.Sentences.{published_after}
use Rattle.published_market.proofs.Settled.{one_settled}

-- a turn of a student is published with this tree
abbrev IsProvedFor : List Tokens → ℕ → TurnData → ProvedTurn → Student → Type 0
IsProvedFor prices raise turn one student = IsProvedBest (offer_at prices raise student turn) one.bundle one.tree

-- a turn is published in one way
one_published_turn : (crowd : CrowdData) (prices : List Tokens) (raise : ℕ) (turn : TurnData) (one other : ProvedTurn)
    → IsPublishedTurn crowd prices raise turn one → IsPublishedTurn crowd prices raise turn other → one ≡ other
one_published_turn crowd prices raise turn one other is so =
    let pass : one.pass ≡ other.pass = is.pass ∙ sym so.pass in
    let student : one.student ≡ other.student = is.student ∙ sym so.student in
    let bundle : one.bundle ≡ other.bundle = is.bundle ∙ sym so.bundle in
    let both : Some is.who ≡ Some so.who = sym is.listed ∙ so.listed in
    let who : is.who ≡ so.who = cc in
    let tree : one.tree ≡ other.tree =
    one_proof (offer_at prices raise so.who turn) one.bundle other.bundle one.tree other.tree (subst (IsProvedFor prices raise turn one) who is.proved)
    so.proved in
    λ i. record { pass = pass i; student = student i; bundle = bundle i; tree = tree i }

-- the turns of an aftermarket are published in one way
one_list_of_turns : OneAftermarket → (terms : Terms) (start : List (List ℕ)) (one other : List TurnData) (m n : ℕ) (ps qs : List ProvedTurn)
    → IsAftermarket terms start one m → IsAftermarket terms start other n
    → AllZip (IsPublishedTurn terms.crowd terms.prices terms.raise) one ps → AllZip (IsPublishedTurn terms.crowd terms.prices terms.raise) other qs → ps ≡ qs
one_list_of_turns law terms start one other m n ps qs is so are too =
    one_by_items (IsPublishedTurn terms.crowd terms.prices terms.raise) (one_published_turn terms.crowd terms.prices terms.raise) one ps qs are
    (subst (λ turns. AllZip (IsPublishedTurn terms.crowd terms.prices terms.raise) turns qs) (sym (law terms start one other m n is so).0) too)

one_turns : OneAftermarket → (crowd : CrowdData) (seats : List ℕ) (raise : ℕ) (p q : Publication) (m n : ℕ) → p.prices ≡ q.prices → demanded p ≡ demanded q
    → AreTurns (terms_at crowd seats (tokens p.prices) raise) m p → AreTurns (terms_at crowd seats (tokens q.prices) raise) n q → p.turns ≡ q.turns
one_turns law crowd seats raise p q m n prices start is so =
    let terms : Terms = terms_at crowd seats (tokens q.prices) raise in
    one_list_of_turns law (terms_at crowd seats (tokens q.prices) raise) (demanded q) is.turns so.turns m n p.turns q.turns
    (subst (λ held. IsAftermarket (terms_at crowd seats (tokens q.prices) raise) held is.turns m) start
    (subst (λ amounts. IsAftermarket (terms_at crowd seats (tokens amounts) raise) (demanded p) is.turns m) prices is.made))
    so.made
    (subst (λ amounts. AllZip (IsPublishedTurn crowd (tokens amounts) raise) is.turns p.turns) prices is.published) so.published

-- the outcome of a crowd is one
one_outcome : OneIsFound → OneAftermarket → (crowd : CrowdData) (seats : List ℕ) (settings : Settings) (l m : Lengths) (p q : Publication) → p.order ≡ q.order
    → IsOutcome crowd seats settings l p → IsOutcome crowd seats settings m q → p ≡ q
one_outcome searched aftermarket crowd seats settings l m p q order is so =
    let budgets : p.budgets ≡ q.budgets = is.budgets ∙ sym so.budgets in
    let found = searched crowd seats settings (tokens p.start) (tokens q.start) p.error q.error l.turns m.turns is.start so.start in
    let start : p.start ≡ q.start = same_amounts p.start q.start found.0 in
    let error : p.error ≡ q.error = found.1 in
    let ends =
    one_settled crowd seats (tokens q.start) (tokens p.prices) (tokens q.prices) l.rounds m.rounds
    (subst (λ from. IsSettled crowd seats from (tokens p.prices) l.rounds) found.0 is.prices) so.prices in
    let prices : p.prices ≡ q.prices = same_amounts p.prices q.prices ends.0 in
    let bundles : p.bundles ≡ q.bundles =
    one_list_of_demands crowd.sections (price_in (tokens q.prices)) crowd.students p.bundles q.bundles
    (subst (λ amounts. AllZip (IsProvedDemand crowd.sections (price_in (tokens amounts))) crowd.students p.bundles) prices is.bundles) so.bundles in
    let start_of : demanded p ≡ demanded q = ap (map (λ (proved : Proved). proved.bundle)) bundles in
    let turns : p.turns ≡ q.turns = one_turns aftermarket crowd seats settings.raise p q l.passes m.passes prices start_of is.turns so.turns in
    let allocation : p.allocation ≡ q.allocation =
    is.allocation ∙ ap (λ held. held_after held p.turns) start_of ∙ ap (held_after (demanded q)) turns ∙ sym so.allocation in
    let used : p.used ≡ q.used = is.used ∙ ap (used_of seats) allocation ∙ sym so.used in
    λ i. record {
      order = order i;
      budgets = budgets i;
      start = start i;
      error = error i;
      prices = prices i;
      bundles = bundles i;
      turns = turns i;
      allocation = allocation i;
      used = used i;
    }

-- what is published after a journal is one
one_after : OneIsFound → OneAftermarket → (market : Market) (journal : List Entry) (l m : Lengths) (p q : Publication) → IsPublicationOf market journal l p
    → IsPublicationOf market journal m q → p ≡ q
one_after searched aftermarket market journal l m p q is so =
    let crowd : is.crowd ≡ so.crowd =
    one_crowd market.catalog.sections market.roll.students (wanted_in market journal) market.settings.seed market.settings.spread is.crowd so.crowd is.is_crowd
    so.is_crowd in
    one_outcome searched aftermarket so.crowd (seats_in market) market.settings l m p q (is.order ∙ sym so.order)
    (subst (λ c. IsOutcome c (seats_in market) market.settings l p) crowd is.outcome) so.outcome

pub one_publication : OneIsFound → OneAftermarket → OnePublication
one_publication searched aftermarket market streams order p q is so =
    one_after searched aftermarket market so.journal is.lengths so.lengths p q (published_after market streams order p so.journal is so.is_journal)
    so.publication

pub one_text : OneIsFound → OneAftermarket → OnePublishedText
one_text searched aftermarket market streams order text alike (p, is, _, written) (q, so, _, spelt) =
    written ∙ ap (text_of (tables_in market)) (one_publication searched aftermarket market streams order p q is so) ∙ sym spelt

-- where no prices are found after a journal, that is so of its crowd
none_for : (market : Market) (journal : List Entry) (crowd : CrowdData) (least : ℕ) → IsCrowdIn market journal crowd → HasNoPrices market journal least
    → FindsNone crowd (seats_in market) market.settings least
none_for market journal crowd least are (other, is, none) =
    subst (λ c. FindsNone c (seats_in market) market.settings least)
    (one_crowd market.catalog.sections market.roll.students (wanted_in market journal) market.settings.seed market.settings.spread other crowd is are) none

pub one_least_error : OneSearchedError → OneLeastError
one_least_error law market streams order one other (journal, is, none) (entries, so, (crowd, are, finds)) =
    let same : journal ≡ entries = one_journal (names_in market) streams order journal entries is so in
    law crowd (seats_in market) market.settings one other (none_for market entries crowd one are (subst (λ all. HasNoPrices market all one) same none)) finds

pub published_is_priced : NotBothAreSearched → PublishedIsPriced
published_is_priced law market streams order p least is (entries, so, none) =
    let made = published_after market streams order p entries is so in
    law made.crowd (seats_in market) market.settings (tokens p.start) p.error is.lengths.turns least made.outcome.start
    (none_for market entries made.crowd least made.is_crowd none)
