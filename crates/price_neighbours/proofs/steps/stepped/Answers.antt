use Rattle.std.proofs.Common.{◌<◌, ◌≡◌, ◌∙◌, arith, length, ap, sym, slice_index, rules, w32, w64, to_z, of_z}
use Rattle.std.specs.Prelude.{pos, ◌+ℤ◌, ◌*ℤ◌, slice_index_or}
use Rattle.std.proofs.lemmas.Int.{ints}
use Rattle.std.proofs.lemmas.List.{get_or-map}
use Rattle.market_units.specs.declared.units.Tokens.{Tokens}
use Rattle.price_neighbours.specs.Neighbours.{cut, stepped_price}
use Rattle.price_neighbours.proofs.Stepping.{stepped_more}
use Rattle.price_neighbours.proofs.steps.stepped.Goals as goal

pub loop-place-preserved : goal.loop-place-preserved
loop-place-preserved c =
    let s = c.loop-place.place in
    let low : s < length c.args.taken.now.prices.now = search rules in
    let first : Tokens = slice_index_or c.args.taken.now.prices.now s (record { 0 = 0 }) in
    let whole : to_z w64 (of_z w64 c.change.result) ≡ c.change.result = omega (arith, ints) in
    let part : to_z w32 (of_z w32 c.excess-excess.result) ≡ c.excess-excess.result = omega (arith, ints) in
    stepped_more _ c.loop-place.moved.items c.push.new.self.items c.changed.result s c.loop-place.invariant
    (c.changed.ensures
    ∙ ap (λ k. cut c.args.top.0 (pos first.0 +ℤ k)) (whole ∙ c.change.ensures.value ∙ ap (λ e. pos c.args.step *ℤ e) (part ∙ c.excess-excess.ensures))
    ∙ ap (λ p. stepped_price c.args.top.0 p (slice_index c.args.taken.now.counts.now s) (slice_index c.args.taken.now.seats.now s) c.args.step)
    (sym (get_or-map (λ price. price.0) c.args.taken.now.prices.now s (record { 0 = 0 }) 0 low)))
    (search rules)
