use Rattle.std.proofs.Common.{arith, ap, ◌≡◌, ◌∙◌, w64, to_z, of_z}
use Rattle.std.specs.Prelude.{pos, ◌+ℤ◌, nat_abs}
use Rattle.std.proofs.lemmas.Int.{ints}
use Rattle.price_neighbours.proofs.Stepping.{clamped}
use Rattle.price_neighbours.proofs.steps.changed.Goals as goal

pub returns : goal.returns
returns c =
    let back : to_z w64 (of_z w64 c.clamp.result) ≡ c.clamp.result = omega (arith, ints) in
    let moved : to_z w64 (of_z w64 (to_z w64 (of_z w64 c.from.result) +ℤ to_z w64 (of_z w64 c.args.change))) ≡ pos c.args.price.0 +ℤ c.args.change = omega (arith, ints) in
    let most : to_z w64 (of_z w64 c.from-2.result) ≡ pos c.args.top.0 = omega (arith, ints) in
    ap nat_abs back
    ∙ clamped c.args.top.0 (pos c.args.price.0 +ℤ c.args.change) _ _ c.clamp.result c.clamp.ensures.value moved most
