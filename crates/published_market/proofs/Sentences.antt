-- What a published text says of students and sections.
use Rattle.std.proofs.Common.{ℕ, ◌≡◌, ◌<◌, ◌≤◌, ◌∙◌, Bool, List, [], ◌∷◌, ◌++◌, length, map, get_or, refl, ap, sym, subst, arith}
use Rattle.std.specs.Prelude.{Some, slice_get, slice_index}
use Rattle.std.specs.List.{AllZip}
use Rattle.std.proofs.lemmas.List.{append-nil, get_or-map}
use Rattle.std.proofs.lemmas.Option.{get_or_from_slice_get, slice_get_within}
use Rattle.std.proofs.lemmas.Slice.Zip.{AllZip-long}
use Rattle.market_units.specs.declared.units.Tokens.{Tokens}
use Rattle.bundle_rules.specs.Demand.{IsBest, price_in}
use Rattle.bundle_rules.specs.Menus.{wishes_of}
use Rattle.bundle_rules.specs.Wishes.{Wishes}
use Rattle.bundle_rules.proofs.Agreements.{best_agrees}
use Rattle.bundle_rules.proofs.BestValue.{best-only}
use Rattle.budget_draw.specs.Budgets.{raised_by}
use Rattle.demand_api.specs.Crowds.{CrowdData, Student, demand, demands, holders}
use Rattle.oversubscription_stage.proofs.Eliminations.{settled_within_seats}
use Rattle.aftermarket_stage.specs.Laws.{StaysWithinSeats}
use Rattle.aftermarket_stage.specs.Turns.{EachTurn, IsTurn, TurnData, after_turns}
use Rattle.held_seats.specs.Choices.{AreHeldWithin, may_choose}
use Rattle.preference_desk.specs.declared.entry.Entry.{Entry}
use Rattle.utility_language.specs.declared.commands.Command.{Command}
use Rattle.market_settings.specs.declared.reader.Settings.{Settings}
use Rattle.market_certificate.specs.Publications.{Proved, ProvedTurn, Publication}
use Rattle.published_parts.specs.Markets.{Market, names_in, seats_in}
use Rattle.published_parts.specs.Journals.{IsJournalOf, wishes_in}
use Rattle.published_parts.specs.Offers.{IsProvedDemand, all_sections, nobody}
use Rattle.published_market.specs.Turns.{IsPublishedTurn}
use Rattle.published_parts.specs.Holdings.{AreWithinSeats, demanded, held_after, tokens}
use Rattle.published_market.specs.Publishing.{IsOutcome, IsPublicationOf, IsPublished, Lengths, terms_at}
use Rattle.published_market.specs.Laws.{AllocationWithinSeats, BestAtItsTurn, BestWithinBudget, BudgetsAreDrawn, OrderMergesStreams, StageTwoWithinSeats, TurnsWithinSeats}
use Rattle.published_parts.proofs.Asked.{budget_at, crowd_count, menu_says, zip_at}
use Rattle.published_parts.proofs.OneJournals.{one_journal}
use Rattle.published_market.proofs.Prices.{price_in_tokens}
use Rattle.published_market.proofs.Turning.{cut_like, each_there, same_held}
use Rattle.aftermarket_stage.proofs.Passing.{made_each}

-- what is published is that of each journal of the order
pub published_after : (market : Market) (streams : List (List Command)) (order : List ℕ) (p : Publication) (journal : List Entry)
    → (is : IsPublished market streams order p) → IsJournalOf (names_in market) streams order journal
    → IsPublicationOf market journal is.lengths p
published_after market streams order p journal is so =
    subst (λ entries. IsPublicationOf market entries is.lengths p) (one_journal (names_in market) streams order is.journal journal is.is_journal so)
    is.publication

pub order_merges : OrderMergesStreams
order_merges market streams order p is = (is.publication.order ∙ is.is_journal.sessions, (is.journal, is.is_journal))

pub budgets_drawn : BudgetsAreDrawn
budgets_drawn market streams order p is = is.publication.outcome.budgets ∙ is.publication.is_crowd.budgets

-- a best bundle at equal prices, budgets, allowed sections
moved : (wishes : Wishes) (one other : ℕ → ℕ) (b c : ℕ) (allowed among : ℕ → Bool) (bundle same : List ℕ) → one ≡ other → b ≡ c → allowed ≡ among
    → bundle ≡ same → IsBest wishes one b allowed bundle → IsBest wishes other c among same
moved wishes one other b c allowed among bundle same prices budget sections alike is =
    subst (λ price. IsBest wishes price c among same) prices
    (subst (λ n. IsBest wishes one n among same) budget (subst (λ a. IsBest wishes one b a same) sections (subst (IsBest wishes one b allowed) alike is)))

pub best_within_budget : BestWithinBudget
best_within_budget market streams order p journal is so student inside =
    let made = published_after market streams order p journal is so in
    let crowd : CrowdData = made.crowd in
    let outcome = made.outcome in
    let count : length crowd.students ≡ length market.roll.students = crowd_count market journal crowd made.is_crowd in
    let listed : student < length crowd.students = omega arith in
    let who : Student = get_or crowd.students student nobody in
    let proved : Proved = get_or p.bundles student (record { bundle = []; tree = [] }) in
    let best =
    zip_at (IsProvedDemand crowd.sections (price_in (tokens p.prices))) crowd.students p.bundles student nobody (record { bundle = []; tree = [] })
    outcome.bundles listed in
    let long : length p.bundles ≡ length crowd.students =
    AllZip-long (IsProvedDemand crowd.sections (price_in (tokens p.prices))) crowd.students p.bundles outcome.bundles in
    let bundle : get_or (demanded p) student [] ≡ proved.bundle =
    get_or-map (λ (one : Proved). one.bundle) p.bundles student (record { bundle = []; tree = [] }) [] (omega arith) in
    moved (wishes_in market journal student) (price_in (tokens p.prices)) (slice_index p.prices) who.budget (slice_index p.budgets student)
    (all_sections crowd.sections) (all_sections (length market.catalog.sections))
    proved.bundle (get_or (demanded p) student []) (price_in_tokens p.prices) (sym (budget_at p.budgets crowd.students student outcome.budgets listed))
    (ap all_sections made.is_crowd.sections) (sym bundle)
    (best_agrees (wishes_of who.menu) (wishes_in market journal student) (menu_says market journal crowd student made.is_crowd inside)
    (price_in (tokens p.prices)) who.budget (all_sections crowd.sections) proved.bundle best.best)

-- the published turn and the turn that was made
record IsMade (crowd : CrowdData) (seats : List ℕ) (prices : List Tokens) (raise : ℕ) (held : List (List ℕ)) (turns : List TurnData) (earlier : List ProvedTurn)
    (proved : ProvedTurn) : Type 0 where
  pub turn : TurnData
  pub is : IsPublishedTurn crowd prices raise turn proved
  pub there : IsTurn (terms_at crowd seats prices raise) (held_after held earlier) turn

first_behind : {A B : Type 0} (R : A → B → Type 0) (xs : List A) (y : B) (ys : List B) → AllZip R xs (y ∷ ys)
    → (x : A) × (rest : List A) × (xs ≡ x ∷ rest) × R x y
first_behind R (x ∷ rest) y ys are = (x, rest, refl, are.0)
first_behind R [] y ys are = absurd are

turn_made : (crowd : CrowdData) (seats : List ℕ) (prices : List Tokens) (raise : ℕ) (held : List (List ℕ)) (turns : List TurnData)
    (earlier later : List ProvedTurn) (proved : ProvedTurn)
    → EachTurn (IsTurn (terms_at crowd seats prices raise)) held turns → AllZip (IsPublishedTurn crowd prices raise) turns (earlier ++ proved ∷ later)
    → IsMade crowd seats prices raise held turns earlier proved
turn_made crowd seats prices raise held turns earlier later proved each are =
    let cut = cut_like (IsPublishedTurn crowd prices raise) turns earlier (proved ∷ later) are in
    let next = first_behind (IsPublishedTurn crowd prices raise) cut.behind proved later cut.second in
    let whole : turns ≡ cut.ahead ++ next.0 ∷ next.1 = cut.whole ∙ ap (λ rest. cut.ahead ++ rest) next.2 in
    let same : held_after held earlier ≡ after_turns held cut.ahead = same_held crowd prices raise held cut.ahead earlier cut.first in
    record {
      turn = next.0;
      is = next.3;
      there = subst (λ now. IsTurn (terms_at crowd seats prices raise) now next.0) (sym same)
          (each_there (IsTurn (terms_at crowd seats prices raise)) held cut.ahead next.1 next.0
          (subst (EachTurn (IsTurn (terms_at crowd seats prices raise)) held) whole each));
    }

pub best_at_its_turn : BestAtItsTurn
best_at_its_turn market streams order p journal is so earlier later proved split =
    let made = published_after market streams order p journal is so in
    let crowd : CrowdData = made.crowd in
    let outcome = made.outcome in
    let prices : List Tokens = tokens p.prices in
    let raise : ℕ = market.settings.raise in
    let seats : List ℕ = seats_in market in
    let one = turn_made crowd seats prices raise (demanded p) outcome.turns.turns earlier later proved
    (made_each (IsTurn (terms_at crowd seats prices raise)) crowd (demanded p) outcome.turns.turns is.lengths.passes outcome.turns.made)
    (subst (AllZip (IsPublishedTurn crowd prices raise) outcome.turns.turns) split outcome.turns.published) in
    let turn : TurnData = one.turn in
    let there = one.there in
    let same : turn.student ≡ proved.student = sym one.is.student in
    let listed : slice_get crowd.students proved.student ≡ Some there.who = subst (λ n. slice_get crowd.students n ≡ Some there.who) same there.listed in
    let inside : proved.student < length crowd.students = slice_get_within crowd.students proved.student there.who listed in
    let who : get_or crowd.students proved.student nobody ≡ there.who = get_or_from_slice_get crowd.students proved.student there.who nobody listed in
    let count : length crowd.students ≡ length market.roll.students = crowd_count market journal crowd made.is_crowd in
    let agrees = menu_says market journal crowd proved.student made.is_crowd (omega arith) in
    let budget : there.who.budget ≡ slice_index p.budgets proved.student =
    ap (λ (student : Student). student.budget) (sym who) ∙ sym (budget_at p.budgets crowd.students proved.student outcome.budgets inside) in
    let allowed : turn.allowed ≡ may_choose seats (held_after (demanded p) earlier) proved.student =
    there.choices ∙ ap (may_choose seats (held_after (demanded p) earlier)) same in
    let best : IsBest (wishes_of (get_or crowd.students proved.student nobody).menu) (price_in prices) (raised_by raise there.who.budget) turn.allowed
    turn.bundle =
    subst (λ (student : Student). IsBest (wishes_of student.menu) (price_in prices) (raised_by raise there.who.budget) turn.allowed turn.bundle) (sym who)
    there.best in
    moved (wishes_in market journal proved.student) (price_in prices) (slice_index p.prices) (raised_by raise there.who.budget)
    (raised_by raise (slice_index p.budgets proved.student))
    turn.allowed (may_choose seats (held_after (demanded p) earlier) proved.student) turn.bundle proved.bundle (price_in_tokens p.prices)
    (ap (raised_by raise) budget) allowed (sym one.is.bundle)
    (best_agrees (wishes_of (get_or crowd.students proved.student nobody).menu) (wishes_in market journal proved.student) agrees (price_in prices)
    (raised_by raise there.who.budget) turn.allowed turn.bundle best)

-- the bundles of the second stage are the crowd's demands
pub demands_published : (sections : ℕ) (price : ℕ → ℕ) (students : List Student) (bundles : List Proved)
    → AllZip (IsProvedDemand sections price) students bundles → map (λ (proved : Proved). proved.bundle) bundles ≡ map (demand sections price) students
demands_published sections price [] [] are = refl
demands_published sections price (student ∷ students) (proved ∷ bundles) are =
    let head : proved.bundle ≡ demand sections price student = best-only student.menu price student.budget (all_sections sections) proved.bundle are.0.best in
    let tail : map (λ (one : Proved). one.bundle) bundles ≡ map (demand sections price) students = demands_published sections price students bundles are.1 in
    cc
demands_published sections price [] (proved ∷ bundles) are = absurd are
demands_published sections price (student ∷ students) [] are = absurd are

pub demanded_is : (crowd : CrowdData) (seats : List ℕ) (settings : Settings) (lengths : Lengths) (p : Publication) → IsOutcome crowd seats settings lengths p
    → demanded p ≡ demands crowd (price_in (tokens p.prices))
unfolding demands
demanded_is crowd seats settings lengths p is = demands_published crowd.sections (price_in (tokens p.prices)) crowd.students p.bundles is.bundles

pub stage_two_within : (crowd : CrowdData) (seats : List ℕ) (settings : Settings) (lengths : Lengths) (p : Publication)
    → IsOutcome crowd seats settings lengths p → AreHeldWithin crowd.sections seats (demanded p)
stage_two_within crowd seats settings lengths p is s low =
    subst (λ bundles. holders s bundles ≤ slice_index seats s) (sym (demanded_is crowd seats settings lengths p is))
    (settled_within_seats crowd seats (tokens p.start) (tokens p.prices) lengths.rounds is.prices s low)

pub turns_within : StaysWithinSeats → (crowd : CrowdData) (seats : List ℕ) (settings : Settings) (lengths : Lengths) (p : Publication)
    → IsOutcome crowd seats settings lengths p → (earlier later : List ProvedTurn) → p.turns ≡ earlier ++ later
    → AreHeldWithin crowd.sections seats (held_after (demanded p) earlier)
turns_within stays crowd seats settings lengths p is earlier later split =
    let prices : List Tokens = tokens p.prices in
    let raise : ℕ = settings.raise in
    let cut =
    cut_like (IsPublishedTurn crowd prices raise) is.turns.turns earlier later
    (subst (AllZip (IsPublishedTurn crowd prices raise) is.turns.turns) split is.turns.published) in
    subst (AreHeldWithin crowd.sections seats) (sym (same_held crowd prices raise (demanded p) cut.ahead earlier cut.first))
    (stays (terms_at crowd seats prices raise) (demanded p) is.turns.turns lengths.passes (stage_two_within crowd seats settings lengths p is) is.turns.made
    cut.ahead cut.behind cut.whole)

-- no section above its seats, in the market's words
in_market : (market : Market) (sections : ℕ) (bundles : List (List ℕ)) → sections ≡ length market.catalog.sections
    → AreHeldWithin sections (seats_in market) bundles → AreWithinSeats market bundles
in_market market sections bundles same within s low = within s (omega arith)

pub stage_two_within_seats : StageTwoWithinSeats
stage_two_within_seats market streams order p is =
    let made = is.publication in
    in_market market made.crowd.sections (demanded p) made.is_crowd.sections
    (stage_two_within made.crowd (seats_in market) market.settings is.lengths p made.outcome)

pub turns_within_seats : StaysWithinSeats → TurnsWithinSeats
turns_within_seats stays market streams order p is earlier later split =
    let made = is.publication in
    in_market market made.crowd.sections (held_after (demanded p) earlier) made.is_crowd.sections
    (turns_within stays made.crowd (seats_in market) market.settings is.lengths p made.outcome earlier later split)

pub allocation_within_seats : StaysWithinSeats → AllocationWithinSeats
allocation_within_seats stays market streams order p is =
    subst (AreWithinSeats market) (sym is.publication.outcome.allocation)
    (turns_within_seats stays market streams order p is p.turns [] (sym (append-nil p.turns)))
