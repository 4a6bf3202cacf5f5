use Rattle.preference_desk.proofs.RatingLemmas.{stands_here, stands_nowhere}
use Rattle.preference_desk.proofs.ratings.stands_at.Goals as goal

pub returns-then-place-items : goal.returns-then-place-items
returns-then-place-items c = stands_here c.args.section c.args.items.now c.args.place _ c.requires c.if-place-items.true

pub returns-else-place-items : goal.returns-else-place-items
returns-else-place-items c = stands_nowhere c.args.section c.args.items.now c.args.place c.requires c.if-place-items.false
