use Rattle.std.proofs.Common.{ap}
use Rattle.preference_desk.specs.DeskStep.{DeskState}
use Rattle.preference_desk.specs.DeskView.{names_of, entries_of}
use Rattle.preference_desk.proofs.SectionLemmas.{closed_below}
use Rattle.preference_desk.proofs.desk.Desk.closed.Goals as goal

pub returns-clause-sections : goal.returns-clause-sections
returns-clause-sections c =
    let desk = c.args.self.now in
    let is = ap (λ (state : DeskState). state.preferences) desk.told.after in
    rw is (closed_below (names_of desk) (entries_of desk))
