-- What is told of a made market is a function of its numbers.
use Rattle.std.proofs.Common.{ℕ, ◌≡◌, ◌∙◌, List, [], ◌∷◌, length, refl, ap, sym, subst}
use Rattle.std.specs.Prelude.{Ok}
use Rattle.std.specs.List.{AllZip}
use Rattle.course_catalog.specs.Catalog.{CatalogData}
use Rattle.market_settings.specs.declared.reader.Settings.{Settings}
use Rattle.student_roll.specs.Students.{RollData}
use Rattle.tabu_search.specs.Laws.{OneIsFound}
use Rattle.aftermarket_stage.specs.Laws.{OneAftermarket}
use Rattle.made_run.specs.Laws.{OrdersCloseAlike}
use Rattle.market_maker.specs.Sessions.{first_text, second_text}
use Rattle.market_run.specs.Held.{IsSummaryText}
use Rattle.preference_desk.specs.declared.entry.Entry.{Entry}
use Rattle.preference_desk.specs.Journals.{MergesStreams}
use Rattle.published_market.specs.Laws.{OneLeastError, OnePublication, PublishedIsPriced}
use Rattle.published_market.specs.Publishing.{IsPublished, IsUnpriced}
use Rattle.published_parts.specs.Journals.{IsJournalOf, wanted_in}
use Rattle.published_parts.specs.Markets.{Market, names_in}
use Rattle.published_parts.proofs.OneBests.{one_by_items}
use Rattle.utility_language.specs.declared.commands.Command.{Command}
use Rattle.utility_language.specs.Commands.{AreCommands}
use Rattle.utility_language.proofs.StreamLemmas.{one_list_a_text_law}
use Rattle.made_run.specs.Laws.{AreNumbers, OneMadeError, OneMadeSummary, SummaryIsPriced}
use Rattle.made_run.specs.Made.{IsMadeMarket}
use Rattle.made_run.proofs.AlikeRuns.{one_summary, unpriced_alike}
use Rattle.made_run.proofs.Apart.{made_apart}
use Rattle.made_run.proofs.Counts.{same_count}

-- the texts stand for one market
one_market : (seed students sections accept : ℕ) (one other : Market) (streams says : List (List Command))
    → IsMadeMarket seed students sections accept one streams → IsMadeMarket seed students sections accept other says → one ≡ other
one_market seed students sections accept one other streams says is so =
    let catalogs : Ok one.catalog ≡ Ok other.catalog = sym is.catalog_says ∙ so.catalog_says in
    let rolls : Ok one.roll ≡ Ok other.roll = sym is.roll_says ∙ so.roll_says in
    let rules : Ok one.settings ≡ Ok other.settings = sym is.settings_say ∙ so.settings_say in
    let catalog : one.catalog ≡ other.catalog = cc in
    let roll : one.roll ≡ other.roll = cc in
    let settings : one.settings ≡ other.settings = cc in
    λ i. record { catalog = catalog i; roll = roll i; settings = settings i }

-- and its sessions say one list of streams
one_list_of_streams : (seed students sections accept : ℕ) (one other : Market) (streams says : List (List Command))
    → IsMadeMarket seed students sections accept one streams → IsMadeMarket seed students sections accept other says → streams ≡ says
one_list_of_streams seed students sections accept one other streams says is so =
    one_by_items AreCommands one_list_a_text_law (first_text seed students sections ∷ second_text seed students sections ∷ []) streams says is.sessions_say
    so.sessions_say

-- two streams are a first and a second
count_of_two : (a b : List ℕ) (streams : List (List Command)) (one other : List Entry) → AllZip AreCommands (a ∷ b ∷ []) streams → MergesStreams streams one
    → MergesStreams streams other → length one ≡ length other
count_of_two a b (first ∷ second ∷ []) one other are merges does = same_count first second one other merges does
count_of_two a b (first ∷ second ∷ third ∷ more) one other are merges does = absurd are.1.1
count_of_two a b (first ∷ []) one other are merges does = absurd are.1
count_of_two a b [] one other are merges does = absurd are

-- the numbers of a made market, the market, its streams, and two journals that merge them
module _ (law : OrdersCloseAlike) (seed students sections accept : ℕ) (are : AreNumbers seed students sections accept) (market : Market)
    (streams : List (List Command)) (made : IsMadeMarket seed students sections accept market streams)
    (one other : List Entry) (merges : MergesStreams streams one) (does : MergesStreams streams other) where
  close_alike : wanted_in market one ≡ wanted_in market other
  close_alike = law (names_in market) streams one other (made_apart seed students sections accept are market streams made) merges does

  count_alike : length one ≡ length other
  count_alike = count_of_two (first_text seed students sections) (second_text seed students sections) streams one other made.sessions_say merges does

-- two summaries of one made market
summaries : OrdersCloseAlike → OneIsFound → OneAftermarket → OnePublication → (seed students sections accept : ℕ) → AreNumbers seed students sections accept
    → (market : Market) (streams : List (List Command)) → IsMadeMarket seed students sections accept market streams
    → (order said one other : List ℕ) → IsSummaryText market streams order one → IsSummaryText market streams said other → one ≡ other
summaries law found aftermarket once seed students sections accept are market streams made order said one other (entries, is, crowd, of, l, p, published, spelt) (journal, so, asked, too, m, q, does, written) =
    spelt
    ∙ one_summary found aftermarket once market streams entries journal said
    (close_alike law seed students sections accept are market streams made entries journal is.merges so.merges)
    (count_alike law seed students sections accept are market streams made entries journal is.merges so.merges) so crowd asked l m p q of too published does
    ∙ sym written

pub one_made_summary_law : OrdersCloseAlike → OneIsFound → OneAftermarket → OnePublication → OneMadeSummary
one_made_summary_law law found aftermarket once seed students sections accept one other are (market, streams, made, order, is) (offer, says, makes, said, so) =
    let markets : offer ≡ market = one_market seed students sections accept offer market says streams makes made in
    let lists : says ≡ streams = one_list_of_streams seed students sections accept offer market says streams makes made in
    let there : IsSummaryText market streams said other =
    subst (λ (s : List (List Command)). IsSummaryText market s said other) lists (subst (λ (o : Market). IsSummaryText o says said other) markets so) in
    summaries law found aftermarket once seed students sections accept are market streams made order said one other is there

-- where no prices are found in one order, none are found in any other
unpriced_in : OrdersCloseAlike → (seed students sections accept : ℕ) → AreNumbers seed students sections accept
    → (market : Market) (streams : List (List Command)) → IsMadeMarket seed students sections accept market streams
    → (order said : List ℕ) (least : ℕ) (journal : List Entry) → IsJournalOf (names_in market) streams said journal → IsUnpriced market streams order least
    → IsUnpriced market streams said least
unpriced_in law seed students sections accept are market streams made order said least journal so (entries, is, none) = (
  journal,
  so,
  unpriced_alike market streams entries journal (close_alike law seed students sections accept are market streams made entries journal is.merges so.merges)
      least none,
)

pub one_made_error_law : OrdersCloseAlike → OneLeastError → OneMadeError
one_made_error_law law error seed students sections accept one other are (market, streams, made, order, is) (offer, says, makes, said, so) =
    let markets : offer ≡ market = one_market seed students sections accept offer market says streams makes made in
    let lists : says ≡ streams = one_list_of_streams seed students sections accept offer market says streams makes made in
    let there : IsUnpriced market streams said other =
    subst (λ (s : List (List Command)). IsUnpriced market s said other) lists (subst (λ (o : Market). IsUnpriced o says said other) markets so) in
    error market streams said one other (unpriced_in law seed students sections accept are market streams made order said one there.0 there.1 is) there

pub summary_is_priced_law : OrdersCloseAlike → PublishedIsPriced → SummaryIsPriced
summary_is_priced_law law priced seed students sections accept text least are (market, streams, made, order, (journal, is, crowd, of, lengths, p, published, spelt)) (offer, says, makes, said, so) =
    let markets : offer ≡ market = one_market seed students sections accept offer market says streams makes made in
    let lists : says ≡ streams = one_list_of_streams seed students sections accept offer market says streams makes made in
    let there : IsUnpriced market streams said least =
    subst (λ (s : List (List Command)). IsUnpriced market s said least) lists (subst (λ (o : Market). IsUnpriced o says said least) markets so) in
    let told : IsPublished market streams order p = record { journal = journal; is_journal = is; lengths = lengths; publication = published } in
    priced market streams order p least told (unpriced_in law seed students sections accept are market streams made said order least journal is there)
