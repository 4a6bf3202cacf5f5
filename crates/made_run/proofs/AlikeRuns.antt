-- A market that is run after two journals which close with the same preferences.
use Rattle.std.proofs.Common.{ℕ, ◌≡◌, ◌∙◌, List, length, map, refl, ap, sym, subst}
use Rattle.std.proofs.lemmas.List.{length-map}
use Rattle.demand_api.specs.Crowds.{CrowdData}
use Rattle.tabu_search.specs.Laws.{OneIsFound}
use Rattle.aftermarket_stage.specs.Laws.{OneAftermarket}
use Rattle.market_certificate.specs.Publications.{Publication}
use Rattle.market_crowd.specs.Crowds.{IsCrowdOf}
use Rattle.market_run.specs.Held.{IsSummaryText}
use Rattle.market_settings.specs.declared.reader.Settings.{Settings}
use Rattle.market_run.specs.Summaries.{summary_text}
use Rattle.preference_desk.specs.declared.entry.Entry.{Entry}
use Rattle.preference_desk.specs.StudentPreferences.{StudentPreferences}
use Rattle.published_market.specs.Laws.{OneLeastError, OnePublication, PublishedIsPriced}
use Rattle.published_market.specs.Publishing.{AreTurns, HasNoPrices, IsOutcome, IsPublicationOf, IsPublished, IsUnpriced, Lengths, terms_at}
use Rattle.published_market.proofs.Settled.{one_settled}
use Rattle.published_parts.specs.Crowds.{IsCrowdIn}
use Rattle.published_parts.specs.Holdings.{demanded, tokens}
use Rattle.published_parts.specs.Journals.{IsJournalOf, wanted_in}
use Rattle.preference_desk.specs.Journals.{sessions_of}
use Rattle.published_parts.specs.Markets.{Market, names_in, seats_in}
use Rattle.published_parts.proofs.OneCrowds.{one_crowd}
use Rattle.utility_language.specs.declared.commands.Command.{Command}

-- the publication with the order of a journal
abbrev ordered : Publication → List Entry → Publication
ordered p journal = record p { order = sessions_of journal }

-- an outcome is one whatever the order
outcome_ordered : (crowd : CrowdData) (seats : List ℕ) (settings : Settings) (lengths : Lengths) (p : Publication) (journal : List Entry)
    → IsOutcome crowd seats settings lengths p → IsOutcome crowd seats settings lengths (ordered p journal)
outcome_ordered crowd seats settings lengths p journal is = record {
  budgets = is.budgets;
  start = is.start;
  prices = is.prices;
  bundles = is.bundles;
  turns = record { turns = is.turns.turns; made = is.turns.made; published = is.turns.published };
  allocation = is.allocation;
  used = is.used;
}

-- outcomes that are told alike took as long
one_length : OneIsFound → OneAftermarket → (crowd : CrowdData) (seats : List ℕ) (settings : Settings) (l m : Lengths) (p : Publication)
    → IsOutcome crowd seats settings l p → IsOutcome crowd seats settings m p → l ≡ m
one_length found aftermarket crowd seats settings l m p is so =
    let turns : l.turns ≡ m.turns = (found crowd seats settings (tokens p.start) (tokens p.start) p.error p.error l.turns m.turns is.start so.start).2 in
    let rounds : l.rounds ≡ m.rounds = (one_settled crowd seats (tokens p.start) (tokens p.prices) (tokens p.prices) l.rounds m.rounds is.prices so.prices).1 in
    let passes : l.passes ≡ m.passes =
    (aftermarket (terms_at crowd seats (tokens p.prices) settings.raise) (demanded p) is.turns.turns so.turns.turns l.passes m.passes is.turns.made
    so.turns.made).1 in
    λ i. record { turns = turns i; rounds = rounds i; passes = passes i }

-- a summary tells of the order how long it is
summary_ordered : (crowd : CrowdData) (lengths : Lengths) (p : Publication) (journal : List Entry) → length p.order ≡ length (sessions_of journal)
    → summary_text crowd lengths p ≡ summary_text crowd lengths (ordered p journal)
summary_ordered crowd lengths p journal count = rw count refl

-- a market, and two journals of the same streams that close with the same preferences
module _ (market : Market) (streams : List (List Command)) (one other : List Entry) (alike : wanted_in market one ≡ wanted_in market other) where
  crowd_alike : (crowd : CrowdData) → IsCrowdIn market one crowd → IsCrowdIn market other crowd
  crowd_alike crowd is =
      subst
      (λ (wanted : List StudentPreferences). IsCrowdOf market.catalog.sections market.roll.students wanted market.settings.seed market.settings.spread crowd)
      alike is

  -- what is published after the one is published after the other, in its order
  published_alike : (lengths : Lengths) (p : Publication) → IsPublicationOf market one lengths p → IsPublicationOf market other lengths (ordered p other)
  published_alike lengths p is = record {
    order = refl;
    crowd = is.crowd;
    is_crowd = crowd_alike is.crowd is.is_crowd;
    outcome = outcome_ordered is.crowd (seats_in market) market.settings lengths p other is.outcome;
  }

  -- no prices are found after both
  pub unpriced_alike : (least : ℕ) → HasNoPrices market one least → HasNoPrices market other least
  unpriced_alike least (crowd, is, none) = (crowd, crowd_alike crowd is, none)

-- the summary of what is published after the one is that of what is published after the other
pub one_summary : OneIsFound → OneAftermarket → OnePublication → (market : Market) (streams : List (List Command)) (one other : List Entry) (order : List ℕ)
    → wanted_in market one ≡ wanted_in market other → length one ≡ length other
    → IsJournalOf (names_in market) streams order other → (crowd asked : CrowdData) (l m : Lengths) (p q : Publication) → IsCrowdIn market one crowd
    → IsCrowdIn market other asked → IsPublicationOf market one l p → IsPublicationOf market other m q
    → summary_text crowd l p ≡ summary_text asked m q
one_summary found aftermarket once market streams one other order alike long so crowd asked l m p q are too is does =
    let moved : IsPublicationOf market other l (ordered p other) = published_alike market streams one other alike l p is in
    let told : IsPublished market streams order (ordered p other) = record { journal = other; is_journal = so; lengths = l; publication = moved } in
    let telling : IsPublished market streams order q = record { journal = other; is_journal = so; lengths = m; publication = does } in
    let same : ordered p other ≡ q = once market streams order (ordered p other) q told telling in
    let who : crowd ≡ asked =
    one_crowd market.catalog.sections market.roll.students (wanted_in market other) market.settings.seed market.settings.spread crowd asked
    (crowd_alike market streams one other alike crowd are) too in
    let what : moved.crowd ≡ does.crowd =
    one_crowd market.catalog.sections market.roll.students (wanted_in market other) market.settings.seed market.settings.spread moved.crowd does.crowd
    moved.is_crowd does.is_crowd in
    let outcome : IsOutcome does.crowd (seats_in market) market.settings l q =
    subst (λ (r : Publication). IsOutcome does.crowd (seats_in market) market.settings l r) same
    (subst (λ (c : CrowdData). IsOutcome c (seats_in market) market.settings l (ordered p other)) what moved.outcome) in
    let took : l ≡ m = one_length found aftermarket does.crowd (seats_in market) market.settings l m q outcome does.outcome in
    let count : length p.order ≡ length (sessions_of other) =
    ap length is.order ∙ length-map one (λ (entry : Entry). entry.session) ∙ long ∙ sym (length-map other (λ (entry : Entry). entry.session)) in
    summary_ordered crowd l p other count ∙ ap (λ (c : CrowdData). summary_text c l (ordered p other)) who
    ∙ ap (λ (r : Publication). summary_text asked l r) same ∙ ap (λ (t : Lengths). summary_text asked t q) took
