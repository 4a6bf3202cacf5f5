-- All texts of a made market are of their grammars.
use Rattle.made_run.specs.Laws.{MadeTextsAreOfTheirGrammars}
use Rattle.made_run.proofs.CatalogText.{catalog_read}
use Rattle.made_run.proofs.RollText.{roll_read}
use Rattle.made_run.proofs.SessionLines.{sessions_few}
use Rattle.made_run.proofs.SettingsText.{settings_read}

pub texts_read : MadeTextsAreOfTheirGrammars
texts_read seed students sections accept seeded few some small accepted = record {
  catalog = catalog_read students sections few small;
  roll = roll_read students few;
  settings = settings_read seed accept seeded accepted;
  commands = sessions_few seed students sections seeded few some small;
}
