use Rattle.std.proofs.Common.{◌≡◌, ◌≤◌, length, arith}
use Rattle.std.proofs.lemmas.Int.{ints}
use Rattle.bundle_rules.proofs.ranked.Ranked.position.Goals as goal

pub overflow_cast-result : goal.overflow_cast-result
overflow_cast-result c =
    let few : length c.args.self.now.menu.now.places ≤ 60 = c.len.ensures.menu.places.few in
    let long : length c.args.self.now.order.now ≡ length c.args.self.now.menu.now.places = c.args.self.now.renamed.each_once.long in
    let low : c.position_of.result ≤ length c.args.self.now.order.now = c.position_of.ensures.within in
    omega (arith, ints)
