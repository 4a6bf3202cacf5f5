use Rattle.std.specs.Prelude.{true}
use Rattle.preference_desk.specs.StudentPreferences.{no_preferences}
use Rattle.preference_desk.proofs.PreferenceLemmas.{row_changes}
use Rattle.preference_desk.proofs.preferences.Preferences.clear.Goals as goal

pub returns : goal.returns
returns c = row_changes c.args.self.now.rows.items c.from.result c.args.student.0 c.clear.new.self true no_preferences c.from.ensures c.requires c.clear.ensures
