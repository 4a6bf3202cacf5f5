use Rattle.std.specs.Fork.{AcceptsAt, ChangesAt}
use Rattle.worker_threads.proofs.Joining.{accepts_parts, changes_whole}
use Rattle.worker_threads.proofs.parts.+parts.Goals as goal

pub parts_from-part_and_others-requires-clause-others :
    goal.parts_from-part_and_others-requires-clause-others
parts_from-part_and_others-requires-clause-others g t c κs within =
    let cut = c.split_at_mut-part.ensures in
    (accepts_parts _ _ _ c.args.base c.args.size cut.value cut.front_len (AcceptsAt g.F.Fn c.args.f.now) c.requires.accepts).1

pub parts_from-returns : goal.parts_from-returns
parts_from-returns g t c =
    let cut = c.split_at_mut-part.ensures in let done = c.part_and_others.ensures in
    changes_whole (ChangesAt g.F.Fn c.args.f.now) _ _ _ _ _ c.args.base c.args.size cut.value cut.front_len done.part done.others
