-- A made market that was read from its texts.
use Rattle.std.proofs.Common.{ℕ, ◌≡◌, ◌≤◌, ◌∙◌, List, [], ◌∷◌, length, ap, sym, arith}
use Rattle.std.specs.Prelude.{Ok}
use Rattle.std.specs.List.{AllZip}
use Rattle.course_catalog.specs.Catalog.{CatalogData}
use Rattle.made_run.specs.Settings.{made_settings}
use Rattle.made_run.specs.Streams.{session_texts}
use Rattle.made_run.specs.Tables.{made_catalog, made_roll}
use Rattle.made_run.proofs.AllRead.{texts_read}
use Rattle.market_settings.specs.declared.reader.Settings.{Settings}
use Rattle.published_parts.specs.Markets.{market_of}
use Rattle.student_roll.specs.Students.{RollData}
use Rattle.utility_language.specs.declared.commands.Command.{Command}
use Rattle.utility_language.specs.Commands.{AreCommands}
use Rattle.made_run.specs.Laws.{AreNumbers}
use Rattle.made_run.specs.Made.{IsMadeMarket}

pub made_from : (seed students sections accept : ℕ) (catalog : CatalogData) (roll : RollData) (settings : Settings) (streams : List (List Command))
    → AreNumbers seed students sections accept → catalog ≡ made_catalog students sections
    → roll ≡ made_roll students → settings ≡ made_settings seed accept → AllZip AreCommands (session_texts seed students sections) streams
    → IsMadeMarket seed students sections accept (market_of catalog roll settings) streams
made_from seed students sections accept catalog roll settings streams are offered enrolled rules says =
    let grammars = texts_read seed students sections accept are.seed_fits are.few_students are.some_sections are.few_sections are.accept_fits in
    record {
      catalog_says = grammars.catalog ∙ ap Ok (sym offered);
      roll_says = grammars.roll ∙ ap Ok (sym enrolled);
      settings_say = grammars.settings ∙ ap Ok (sym rules);
      sessions_say = says;
    }

-- two streams
pub two_streams : (a b : List ℕ) (streams : List (List Command)) → AllZip AreCommands (a ∷ b ∷ []) streams → length streams ≡ 2
two_streams a b (first ∷ second ∷ []) are = omega arith
two_streams a b (first ∷ second ∷ third ∷ more) are = absurd are.1.1
two_streams a b (first ∷ []) are = absurd are.1
two_streams a b [] are = absurd are
