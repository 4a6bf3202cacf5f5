use Rattle.std.proofs.Common.{◌∙◌, sym, subst}
use Rattle.demand_workers.specs.declared.remembered.Remembered.{Remembered}
use Rattle.price_board.specs.Tasks.{IsTask}
use Rattle.demand_workers.specs.Notes.{AreNoted}
use Rattle.demand_workers.specs.Views.{crowd_of}
use Rattle.demand_workers.proofs.notes.Notes.told_at.Goals as goal

pub raised_question-requires : goal.raised_question-requires
raised_question-requires c =
    subst (λ (r : Remembered). IsTask (crowd_of r) 1 c.args.inquiry) (sym c.deref.ensures) c.requires

pub told-requires : goal.told-requires
told-requires c =
    subst (λ (r : Remembered). AreNoted (crowd_of r) c.args.self.now.list.items) (sym (c.in-Some.ensures.remembered ∙ c.deref.ensures))
    c.args.self.now.noted
