use Rattle.std.proofs.Common.{◌≡◌}
use Rattle.price_neighbours.proofs.Distinctness.{amounts, vectors_then, vectors_still}
use Rattle.price_neighbours.proofs.distinct.once.Goals as goal

pub loop-vector-preserved-in_ok-push : goal.loop-vector-preserved-in_ok-push
loop-vector-preserved-in_ok-push c =
    let key : c.in_ok-amounts.field-0.items ≡ amounts c.in-Some.vector.items = rw c.deref.ensures.value at c.in_ok-amounts.ensures in
    vectors_then c.loop-vector.yielded c.loop-vector.kept.items c.push.new.self.items c.loop-vector.seen.keys c.insert.new.self.keys c.in-Some.vector
    c.in_ok-amounts.field-0 c.in_ok-insert.field-0
    c.loop-vector.invariant key c.if-branch.true c.in_ok-push.ensures.items c.in_ok-insert.ensures.added c.in_ok-insert.ensures.keys

pub loop-vector-preserved : goal.loop-vector-preserved
loop-vector-preserved c =
    let key : c.in_ok-amounts.field-0.items ≡ amounts c.in-Some.vector.items = rw c.deref.ensures.value at c.in_ok-amounts.ensures in
    vectors_still c.loop-vector.yielded c.loop-vector.kept.items c.loop-vector.seen.keys c.insert.new.self.keys c.in-Some.vector c.in_ok-amounts.field-0
    c.in_ok-insert.field-0
    c.loop-vector.invariant key c.if-branch.false c.in_ok-insert.ensures.added c.in_ok-insert.ensures.keys
