use Rattle.std.proofs.Common.{◌≡◌, ◌∙◌, true, ap, sym, subst}
use Rattle.bundle_rules.specs.Bundles.{sections_of}
use Rattle.price_board.specs.Asked.{is_taken}
use Rattle.price_board.specs.Seats.{RoundBoard}
use Rattle.price_board.specs.Terms.{demand_at, same_sections}
use Rattle.price_board.proofs.Numbering.{same_sections-own}
use Rattle.price_board.proofs.board.Board.post.Goals as goal

pub post-requires-clause-answer : goal.post-requires-clause-answer
post-requires-clause-answer g c =
    let sections = sections_of c.args.bundle in
    subst (λ (b : RoundBoard). is_taken b.base.list b.base c.args.drawn.number c.args.bundle ≡ true) (sym c.self.view_is)
    (subst (λ l. same_sections sections l ≡ true) (c.requires.bundle ∙ ap (demand_at c.args.self.now.base) c.requires.task.its_task)
    (same_sections-own sections))
