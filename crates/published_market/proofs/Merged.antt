-- A journal that merges the streams of at most 64 sessions, and what is published after it.
use Rattle.std.proofs.Common.{ℕ, ◌≤◌, List, length, refl, arith}
use Rattle.std.specs.Prelude.{All}
use Rattle.utility_language.specs.declared.commands.Command.{Command}
use Rattle.preference_desk.specs.declared.entry.Entry.{Entry}
use Rattle.preference_desk.specs.Journals.{IsLegalJournal, MergesStreams, sessions_of}
use Rattle.market_certificate.specs.Publications.{IsPublication, IsSession, Publication}
use Rattle.market_certificate.specs.Texts.{text_of}
use Rattle.published_parts.specs.Markets.{Market, names_in, tables_in}
use Rattle.published_market.specs.Publishing.{HasNoPrices, IsPublicationOf, IsPublishedText, IsUnpriced, Lengths}

-- each entry is of a session from 1 to 64
pub merged_sessions : (streams : List (List Command)) (journal : List Entry) → MergesStreams streams journal → length streams ≤ 64
    → All (λ (entry : Entry). IsSession entry.session) journal
merged_sessions streams journal merges few k d inside =
    let given = merges.given k d inside in
    record { least = given.0; most = let low = given.1 in omega arith }

-- what is published after it is the published text of its order
pub text_published : (market : Market) (streams : List (List Command)) (journal : List Entry) (lengths : Lengths) (p : Publication)
    → IsLegalJournal (names_in market) journal → MergesStreams streams journal → IsPublicationOf market journal lengths p
    → IsPublication (tables_in market) p → IsPublishedText market streams (sessions_of journal) (text_of (tables_in market) p)
text_published market streams journal lengths p legal merges is ranges = (
  p,
  record { journal = journal; is_journal = record { sessions = refl; legal = legal; merges = merges }; lengths = lengths; publication = is },
  ranges,
  refl,
)

-- where no prices are found after it, its order is unpriced
pub order_unpriced : (market : Market) (streams : List (List Command)) (journal : List Entry) (least : ℕ) → IsLegalJournal (names_in market) journal
    → MergesStreams streams journal → HasNoPrices market journal least
    → IsUnpriced market streams (sessions_of journal) least
order_unpriced market streams journal least legal merges none = (journal, record { sessions = refl; legal = legal; merges = merges }, none)
