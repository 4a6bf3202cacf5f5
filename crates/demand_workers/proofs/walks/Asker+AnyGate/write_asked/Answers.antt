use Rattle.std.proofs.Common.{◌≡◌, ◌<◌, ◌∙◌, All, length, slice_index_or, ap, sym, subst}
use Rattle.price_board.specs.declared.round.Task.{Task}
use Rattle.demand_workers.specs.Found.{tasks_of}
use Rattle.demand_workers.proofs.walks.Asker+AnyGate.write_asked.Goals as goal

pub write_found-requires-clause-students : goal.write_found-requires-clause-students
write_found-requires-clause-students g c =
    let listed : c.list-asked.result.now ≡ c.args.list.items =
    c.list-asked.ensures ∙ ap tasks_of c.in_ok-found.ensures.found ∙ c.in_ok-listed.ensures.list in
    subst (All (λ (q : Task). q.student.0 < length c.args.bundles.now)) (sym listed)
    (λ k d low. subst (λ n. (slice_index_or c.args.list.items k d).student.0 < n) (sym c.requires.each) (c.requires.asked k d low).student)
