use Rattle.preference_desk.specs.DeskView.{names_of}
use Rattle.preference_desk.specs.PreferencesView.{preferences_of}
use Rattle.market_crowd.proofs.CrowdFacts.{sections_known}
use Rattle.demand_tests.proofs.tests.crowds.crowd_after.Goals as goal

pub make_crowd-requires-clause-sections : goal.make_crowd-requires-clause-sections
make_crowd-requires-clause-sections g c =
    sections_known (names_of c.desk_after-desk.result) c.expect-catalog.result.sections c.expect-roll.result.students (preferences_of c.closed.result.now)
    c.desk_after-desk.ensures c.closed.ensures.sections
