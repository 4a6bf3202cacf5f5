use Rattle.std.proofs.Common.{◌≡◌, ◌<◌, ◌++◌, ◌∷◌, ◌∙◌, [], length, get_or, ap, sym, arith}
use Rattle.published_market.proofs.Showing.{zip_next}
use Rattle.published_market.proofs.seats.used_seats.Goals as goal

pub sections-preserved : goal.sections-preserved
sections-preserved c =
    let low : c.sections.place < length c.args.seats.now = c.sections-test.true in
    let same : length c.args.used.now ≡ length c.args.seats.now = c.requires in
    let small : c.sections.place < length c.args.used.now = omega arith in
    rw c.in_ok-push.ensures.items
    (ap (λ front. front ++ (get_or c.args.used.now c.sections.place 0, get_or c.args.seats.now c.sections.place 0) ∷ []) c.sections.invariant
    ∙ sym (zip_next c.args.used.now c.args.seats.now c.sections.place small low))
