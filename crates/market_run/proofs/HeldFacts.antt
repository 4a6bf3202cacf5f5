-- What is told of a desk's journal, once it merges the streams.
use Rattle.std.proofs.Common.{ℕ, ◌≡◌, ◌≤◌, List, Global, length, refl, subst, sym, arith}
use Rattle.std.specs.Prelude.{All, Vec}
use Rattle.std.proofs.lemmas.List.{length-map}
use Rattle.demand_api.specs.Crowds.{CrowdData}
use Rattle.market_certificate.specs.Publications.{IsPublication, IsSession, Publication}
use Rattle.market_certificate.specs.Texts.{text_of}
use Rattle.market_run.specs.Summaries.{summary_text}
use Rattle.preference_desk.specs.declared.entry.Entry.{Entry}
use Rattle.preference_desk.specs.Journals.{IsLegalJournal, MergesStreams, sessions_of}
use Rattle.published_market.specs.Publishing.{HasNoPrices, IsPublicationOf, IsPublishedText, IsUnpriced, Lengths}
use Rattle.published_market.proofs.Merged.{merged_sessions, order_unpriced, text_published}
use Rattle.published_parts.specs.Crowds.{IsCrowdIn}
use Rattle.published_parts.specs.Markets.{Market, names_in, tables_in}
use Rattle.session_hall.specs.Streams.{command_lists}
use Rattle.utility_language.specs.declared.commands.Command.{Command}
use Rattle.market_run.specs.Held.{IsSummaryText}

pub sessions_held : (streams : List (Vec Command Global)) (entries steps : List Entry) → entries ≡ steps → MergesStreams (command_lists streams) steps
    → length streams ≤ 64 → All (λ (entry : Entry). IsSession entry.session) entries
sessions_held streams entries steps are merges few =
    let count : length (command_lists streams) ≡ length streams = length-map streams (λ (stream : Vec Command Global). stream.items) in
    let low : length (command_lists streams) ≤ 64 = omega arith in
    merged_sessions (command_lists streams) entries (subst (MergesStreams (command_lists streams)) (sym are) merges) low

pub text_held : (market : Market) (streams : List (List Command)) (entries steps : List Entry) (text : List ℕ) → entries ≡ steps
    → IsLegalJournal (names_in market) steps → MergesStreams streams steps
    → ((lengths : Lengths) × (p : Publication) × IsPublicationOf market entries lengths p × IsPublication (tables_in market) p
    × (text ≡ text_of (tables_in market) p))
    → (order : List ℕ) × IsPublishedText market streams order text
text_held market streams entries steps text are legal merges is = (
  sessions_of entries,
  subst (IsPublishedText market streams (sessions_of entries)) (sym is.4)
      (text_published market streams entries is.0 is.1 (subst (IsLegalJournal (names_in market)) (sym are) legal)
      (subst (MergesStreams streams) (sym are) merges) is.2 is.3),
)

pub unpriced_held : (market : Market) (streams : List (List Command)) (entries steps : List Entry) (least : ℕ) → entries ≡ steps
    → IsLegalJournal (names_in market) steps → MergesStreams streams steps
    → HasNoPrices market entries least → IsUnpriced market streams (sessions_of entries) least
unpriced_held market streams entries steps least are legal merges none =
    order_unpriced market streams entries least (subst (IsLegalJournal (names_in market)) (sym are) legal) (subst (MergesStreams streams) (sym are) merges) none

pub summary_held : (market : Market) (streams : List (List Command)) (entries steps : List Entry) (text : List ℕ) → entries ≡ steps
    → IsLegalJournal (names_in market) steps → MergesStreams streams steps
    →
    ((crowd : CrowdData) × (lengths : Lengths) × (p : Publication) × IsCrowdIn market entries crowd × IsPublicationOf market entries lengths p
    × (text ≡ summary_text crowd lengths p))
    → (order : List ℕ) × IsSummaryText market streams order text
summary_held market streams entries steps text are legal merges is = (
  sessions_of entries,
  (
    entries,
    record { sessions = refl; legal = subst (IsLegalJournal (names_in market)) (sym are) legal; merges = subst (MergesStreams streams) (sym are) merges },
    is.0,
    is.3,
    is.1,
    is.2,
    is.4,
    is.5,
  ),
)
