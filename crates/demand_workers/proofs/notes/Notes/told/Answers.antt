use Rattle.std.proofs.Common.{rules, ◌<◌, length, sym, subst}
use Rattle.demand_workers.specs.declared.note.Note.{Note}
use Rattle.demand_workers.specs.Views.{crowd_of}
use Rattle.demand_workers.specs.Notes.{IsNoted}
use Rattle.demand_workers.proofs.notes.Notes.told.Goals as goal

pub served-requires : goal.served-requires
served-requires c =
    let low : c.before.before.before.before.match-get.place < length c.args.self.now.list.items = search rules in
    subst (λ (n : Note). IsNoted (crowd_of c.args.question.now.remembered.now) n) (sym c.index.ensures)
    (c.requires _ c.index.result.now low)
