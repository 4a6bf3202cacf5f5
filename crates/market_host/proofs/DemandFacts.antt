-- The prices of `demand`, and what it prints.
use Rattle.std.proofs.Common.{ℕ, ◌≡◌, List, [], ◌∷◌, length, map, arith, ap, refl, sym, subst, ◌∙◌, Global}
use Rattle.std.specs.Prelude.{Result, Ok, Err, Vec}
use Rattle.std.proofs.lemmas.List.{length-map}
use Rattle.course_catalog.specs.Catalog.{CatalogData}
use Rattle.course_catalog.specs.Sections.{Section, section_names}
use Rattle.demand_api.specs.Crowds.{CrowdData}
use Rattle.market_edge.specs.declared.shelf.Shelf as Shelf
use Rattle.market_words.specs.Kinds.{Prices}
use Rattle.market_host.specs.declared.inputs.Inputs.{Inputs}
use Rattle.market_host.specs.declared.said.Market.{Market as Said}
use Rattle.market_host.specs.Inputs.{BeginWithCatalog}
use Rattle.market_host.specs.Markets.{SayMarket}
use Rattle.market_host.specs.Said.{market_said}
use Rattle.market_host.specs.Taking.{AreTaken, HasRead, TakesMarket, TakesNext, TakesRest}
use Rattle.demand_text.specs.Taken.{TakenData, taken_at}
use Rattle.demand_text.specs.Texts.{demand_text}
use Rattle.market_crowd.specs.Crowds.{IsCrowdOf}
use Rattle.market_settings.specs.declared.reader.Settings.{Settings as SettingsData}
use Rattle.market_units.specs.declared.units.Tokens.{Tokens}
use Rattle.market_words.specs.declared.words.Form.TheVariants.{Demand}
use Rattle.preference_desk.specs.declared.entry.Entry.{Entry}
use Rattle.preference_desk.specs.Journals.{IsLegalJournal, MergesStreams, closed_preferences}
use Rattle.preference_desk.specs.DeskNames.{DeskNames}
use Rattle.preference_desk.specs.MarketNames.{market_names}
use Rattle.preference_desk.specs.StudentPreferences.{StudentPreferences}
use Rattle.price_sheet.specs.Sheets.{Priced, price_in as price_listed, price_rules, prices_of}
use Rattle.price_sheet.specs.declared.refusal.PriceRefusal.{PriceRefusal}
use Rattle.table_records.specs.Columns.{◌>>=◌}
use Rattle.table_records.specs.Reading.{TableData, reading}
use Rattle.table_records.specs.Records.{records_of}
use Rattle.published_parts.specs.Crowds.{IsCrowdIn}
use Rattle.published_parts.specs.Markets.{Market, market_of}
use Rattle.student_roll.specs.Students.{RollData}
use Rattle.utility_language.specs.declared.commands.Command.{Command}
use Rattle.market_host.specs.declared.status.Status.TheVariants.{Done}
use Rattle.market_host.specs.Works.{EndsFor}

as_many : (sections : List Section) (prices : List Tokens) (read : Result (TableData Priced) PriceRefusal)
    → (read >>= (λ rows. Ok (map (price_listed rows.rows) (section_names sections)))) ≡ Ok (map (λ price. price.0) prices)
    → length prices ≡ length sections
as_many sections prices (Ok rows) is =
    let same : map (price_listed rows.rows) (section_names sections) ≡ map (λ (price : Tokens). price.0) prices = cc in
    sym (length-map prices (λ (price : Tokens). price.0)) ∙ sym (ap length same) ∙ length-map (section_names sections) (price_listed rows.rows)
    ∙ length-map sections (λ (section : Section). section.name)
as_many sections prices (Err refusal) is = absurd cc

-- a price is listed for each section
pub prices_length : (sections : List Section) (text : List ℕ) (prices : List Tokens) → prices_of sections text ≡ Ok (map (λ price. price.0) prices)
    → length prices ≡ length sections
prices_length sections text prices is = as_many sections prices (reading (price_rules (section_names sections)) (records_of text)) is

-- the market, the prices and the sessions are taken
pub demand_read : {H A : Type 0} (shelf : Shelf.Ghosts H) (workers : ℕ) (names : List (List ℕ)) (s0 s1 s2 s3 : H) (i0 i1 i2 : Inputs) (market : Said)
    (prices : Vec Tokens Global) (streams : A) (P : List (List ℕ) → A → Type 0) → HasRead shelf (Demand workers) names i0 [] s0 s0
    → TakesMarket shelf i0 i1 s0 s1 (Ok market)
    → TakesNext shelf Prices (λ texts. BeginWithCatalog texts market.catalog)
    (λ text listed. prices_of market.catalog.sections text ≡ Ok (map (λ (price : Tokens). price.0) listed.items)) i1 i2 s1 s2 (Ok prices)
    → TakesRest shelf P i2 s2 s3 (Ok streams)
    → (catalog : List ℕ) × (roll : List ℕ) × (settings : List ℕ) × (listed : List ℕ) × (sessions : List (List ℕ))
    × AreTaken shelf (Demand workers) names (catalog ∷ roll ∷ settings ∷ listed ∷ sessions) s0 s3
    × SayMarket catalog roll settings (market_said market)
    × (prices_of market.catalog.sections listed ≡ Ok (map (λ (price : Tokens). price.0) prices.items)) × P sessions streams
demand_read shelf workers names s0 s1 s2 s3 i0 i1 i2 market prices streams P begun first next rest =
    demand_rest (first (Demand workers) names s0 (Prices ∷ [], refl) begun) where
      demand_rest : ((catalog : List ℕ) × (roll : List ℕ) × (settings : List ℕ)
          × HasRead shelf (Demand workers) names i1 (catalog ∷ roll ∷ settings ∷ []) s0 s1 × SayMarket catalog roll settings (market_said market))
          → (catalog : List ℕ) × (roll : List ℕ) × (settings : List ℕ) × (listed : List ℕ) × (sessions : List (List ℕ))
          × AreTaken shelf (Demand workers) names (catalog ∷ roll ∷ settings ∷ listed ∷ sessions) s0 s3
          × SayMarket catalog roll settings (market_said market)
          × (prices_of market.catalog.sections listed ≡ Ok (map (λ (price : Tokens). price.0) prices.items)) × P sessions streams
      demand_rest (catalog, roll, settings, has, say) =
          let listed = next (Demand workers) names (catalog ∷ roll ∷ settings ∷ []) s0 refl (omega arith) say.catalog_says has in
          let all = rest (Demand workers) names (catalog ∷ roll ∷ settings ∷ listed.0 ∷ []) s0 refl listed.1 in
          (catalog, roll, settings, listed.0, all.0, all.1, say, listed.2, all.2)

-- the order and what the crowd takes at what the inputs say are printed
pub demand_done : (workers : ℕ) (market : Market) (streams : List (List Command)) (prices : List ℕ) (listed : List Tokens) (text : List ℕ)
    → prices_of market.catalog.sections prices ≡ Ok (map (λ price. price.0) listed)
    → ((journal : List Entry) × IsLegalJournal (market_names market.catalog.sections market.roll.students) journal × MergesStreams streams journal
    × (crowd : CrowdData) × IsCrowdIn market journal crowd
    × (text ≡ demand_text market.catalog.sections market.roll.students journal (taken_at crowd (map (λ (section : Section). section.seats) market.catalog.sections) listed)))
    → EndsFor (Demand workers) market (prices ∷ []) streams Done text
demand_done workers market streams prices listed text priced (journal, legal, merges, crowd, closing, told) catalog roll settings sessions say = record {
  offered = market.catalog;
  enrolled = market.roll;
  journal = journal;
  held = record {
    catalog_says = say.catalog_says;
    roll_says = say.roll_says;
    legal = legal;
    merged = (streams, say.sessions_say, merges);
  };
  rules = market.settings;
  settings_say = say.settings_say;
  listed = listed;
  prices_say = priced;
  crowd = crowd;
  closing = closing;
  told = told;
}

-- what is told of a desk's journal and of what its crowd takes is told of the one journal that was held
pub told_whole : (offered : CatalogData) (enrolled : RollData) (rules : SettingsData) (names : DeskNames) (wanted : List StudentPreferences)
    (entries said journal : List Entry) (crowd : CrowdData) (seats : List ℕ) (listed : List Tokens) (taken : TakenData)
    (text : List ℕ) → names ≡ market_names offered.sections enrolled.students → wanted ≡ closed_preferences names entries → entries ≡ journal → said ≡ entries
    → IsCrowdOf offered.sections enrolled.students wanted rules.seed rules.spread crowd
    → seats ≡ map (λ (section : Section). section.seats) offered.sections → taken ≡ taken_at crowd seats listed
    → text ≡ demand_text offered.sections enrolled.students said taken
    → IsCrowdIn (market_of offered enrolled rules) journal crowd
    × (text ≡ demand_text offered.sections enrolled.students journal (taken_at crowd (map (λ (section : Section). section.seats) offered.sections) listed))
told_whole offered enrolled rules names wanted entries said journal crowd seats listed taken text named after same spoken is sat took told =
    let all : DeskNames = market_names offered.sections enrolled.students in
    let closes : wanted ≡ closed_preferences all journal =
    after ∙ ap (λ (n : DeskNames). closed_preferences n entries) named ∙ ap (closed_preferences all) same in
    let what : taken ≡ taken_at crowd (map (λ (section : Section). section.seats) offered.sections) listed = took ∙ ap (λ (s : List ℕ). taken_at crowd s listed) sat in (
      subst (λ (w : List StudentPreferences). IsCrowdOf offered.sections enrolled.students w rules.seed rules.spread crowd) closes is,
      told ∙ ap (λ (j : List Entry). demand_text offered.sections enrolled.students j taken) (spoken ∙ same)
          ∙ ap (demand_text offered.sections enrolled.students journal) what,
    )
