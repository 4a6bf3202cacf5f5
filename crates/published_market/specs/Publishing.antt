-- What is published of a market.
use Rattle.std.specs.Prelude.{ℕ, ◌≡◌, List, map}
use Rattle.std.specs.List.{AllZip}
use Rattle.market_units.specs.declared.units.Tokens.{Tokens}
use Rattle.bundle_rules.specs.Demand.{price_in}
use Rattle.market_settings.specs.declared.reader.Settings.{Settings}
use Rattle.demand_api.specs.Crowds.{CrowdData}
use Rattle.tabu_search.specs.Search.{FindsNone, IsFound}
use Rattle.oversubscription_stage.specs.Rounds.{IsSettled}
use Rattle.aftermarket_stage.specs.Passes.{IsAftermarket}
use Rattle.aftermarket_stage.specs.Turns.{Terms, TurnData}
use Rattle.preference_desk.specs.declared.entry.Entry.{Entry}
use Rattle.utility_language.specs.declared.commands.Command.{Command}
use Rattle.market_certificate.specs.Publications.{IsPublication, Publication}
use Rattle.market_certificate.specs.Texts.{text_of}
use Rattle.published_parts.specs.Markets.{Market, names_in, seats_in, tables_in}
use Rattle.published_parts.specs.Journals.{IsJournalOf}
use Rattle.preference_desk.specs.Journals.{sessions_of}
use Rattle.published_parts.specs.Crowds.{IsCrowdIn}
use Rattle.published_parts.specs.Offers.{IsProvedDemand}
use Rattle.published_parts.specs.Holdings.{demanded, held_after, tokens, used_of}
use Rattle.published_market.specs.Turns.{IsPublishedTurn}

-- what the aftermarket of a crowd goes by
abbrev pub terms_at : CrowdData → List ℕ → List Tokens → ℕ → Terms
terms_at crowd seats prices raise =
    record { crowd = crowd; seats = seats; prices = prices; raise = raise }

-- how long the stages went on: the turns of the search, the rounds of the elimination, the passes
-- of the aftermarket
pub record Lengths : Type 0 where
  pub turns : ℕ
  pub rounds : ℕ
  pub passes : ℕ

abbrev pub lengths_of : ℕ → ℕ → ℕ → Lengths
lengths_of turns rounds passes = record { turns = turns; rounds = rounds; passes = passes }

-- the turns of the aftermarket from the bundles of the second stage on, as they are published
pub record AreTurns (terms : Terms) (passes : ℕ) (p : Publication) : Type 0 where
  pub turns : List TurnData
  pub made : IsAftermarket terms (demanded p) turns passes
  pub published : AllZip (IsPublishedTurn terms.crowd terms.prices terms.raise) turns p.turns

-- What is published of a crowd: its budgets; the prices that the search finds, and their error; the
-- prices with which the elimination then ends; each student's best bundle at these, with its tree;
-- the turns of the aftermarket, each with its tree; what is held after all turns; and of each
-- section how many hold it.
pub record IsOutcome (crowd : CrowdData) (seats : List ℕ) (settings : Settings) (lengths : Lengths)
    (p : Publication) : Type 0 where
  pub budgets : p.budgets ≡ map (λ student. student.budget) crowd.students
  pub start : IsFound crowd seats settings (tokens p.start) p.error lengths.turns
  pub prices : IsSettled crowd seats (tokens p.start) (tokens p.prices) lengths.rounds
  pub bundles : AllZip (IsProvedDemand crowd.sections (price_in (tokens p.prices))) crowd.students
      p.bundles
  pub turns : AreTurns (terms_at crowd seats (tokens p.prices) settings.raise) lengths.passes p
  pub allocation : p.allocation ≡ held_after (demanded p) p.turns
  pub used : p.used ≡ used_of seats p.allocation

-- what is published of a market after a journal: the sessions of its entries, and the outcome of
-- the crowd
pub record IsPublicationOf (market : Market) (journal : List Entry) (lengths : Lengths)
    (p : Publication) : Type 0 where
  pub order : p.order ≡ sessions_of journal
  pub crowd : CrowdData
  pub is_crowd : IsCrowdIn market journal crowd
  pub outcome : IsOutcome crowd (seats_in market) market.settings lengths p

-- no prices are found after a journal, and this is the least error
abbrev pub HasNoPrices : Market → List Entry → ℕ → Type 0
HasNoPrices market journal least =
    (crowd : CrowdData) × IsCrowdIn market journal crowd
    × FindsNone crowd (seats_in market) market.settings least

-- What is published of a market where the sessions say these streams and their commands are taken
-- in this order: the order has a journal, which merges the streams, and this is what is published
-- after it.
pub record IsPublished (market : Market) (streams : List (List Command)) (order : List ℕ)
    (p : Publication) : Type 0 where
  pub journal : List Entry
  pub is_journal : IsJournalOf (names_in market) streams order journal
  pub lengths : Lengths
  pub publication : IsPublicationOf market journal lengths p

-- the text of that publication, which is within the ranges of such texts
abbrev pub IsPublishedText : Market → List (List Command) → List ℕ → List ℕ → Type 0
IsPublishedText market streams order text =
    (p : Publication) × IsPublished market streams order p × IsPublication (tables_in market) p
    × (text ≡ text_of (tables_in market) p)

-- nothing is published of a market for want of prices, where the sessions say these streams in this
-- order, and this is the least error
abbrev pub IsUnpriced : Market → List (List Command) → List ℕ → ℕ → Type 0
IsUnpriced market streams order least =
    (journal : List Entry) × IsJournalOf (names_in market) streams order journal
    × HasNoPrices market journal least
