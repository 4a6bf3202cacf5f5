-- The session of `quote`, and what it prints.
use Rattle.std.proofs.Common.{ℕ, ◌≡◌, List, [], ◌∷◌, ◌∙◌, ap, arith, drop, length, sym, take}
use Rattle.std.specs.Prelude.{Ok}
use Rattle.course_catalog.specs.Catalog.{CatalogData}
use Rattle.course_catalog.specs.Reading.{catalog_of}
use Rattle.market_units.specs.declared.names.Name.{Name}
use Rattle.market_units.specs.Name.{name_bytes}
use Rattle.market_words.specs.declared.call.Call.{Call}
use Rattle.market_words.specs.declared.words.Form.TheVariants.{Quote}
use Rattle.market_words.specs.Inputs.{IsCall, names_in}
use Rattle.student_roll.specs.Students.{single_student}
use Rattle.utility_language.specs.declared.commands.Command.{Command}
use Rattle.utility_language.specs.Commands.{AreCommands}
use Rattle.market_host.specs.declared.status.Status.TheVariants.{Done}
use Rattle.market_host.specs.Quotes.{IsQuote}
use Rattle.market_host.specs.Sessions.{session_text}
use Rattle.market_host.specs.Works.{Ends}
use Rattle.market_host.proofs.Cursor.{names_long}

-- a quote of what the inputs say is printed
pub quote_done : (name : Name) (credits courses : ℕ) (catalog session : List ℕ) (offered : CatalogData) (commands : List Command) (text : List ℕ)
    → catalog_of catalog ≡ Ok offered → AreCommands (session_text session) commands
    → IsQuote offered.sections (single_student (name_bytes name) credits courses) commands text
    → Ends (Quote name credits courses) (catalog ∷ session ∷ []) Done text
quote_done name credits courses catalog session offered commands text catalog_says session_says quoted =
    (offered, catalog_says, commands, session_says, quoted)

-- the words of `quote` name one session
pub one_session : (name : Name) (credits courses : ℕ) (words : List (List ℕ)) (call : Call) → IsCall words (Quote name credits courses) call
    → length call.streams.now ≡ 1
one_session name credits courses words call is =
    let two : 2 ≡ length (names_in call) = sym (ap (λ (all : List (List ℕ)). length (take 2 (drop 1 all))) is.has.2) ∙ ap length is.named in
    omega (arith, two, names_long call, is.front_long)
