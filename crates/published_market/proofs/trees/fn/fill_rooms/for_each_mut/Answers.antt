use Rattle.published_market.proofs.Rooming.{room_for}
use Rattle.published_market.proofs.trees.fn.fill_rooms.for_each_mut.Goals as goal

pub best-requires : goal.best-requires
best-requires g c = c.requires.0

pub returns : goal.returns
returns g c = room_for c.fill.new.self c.best.ensures.offer c.best.ensures.bundle c.fill.ensures
