use Rattle.std.proofs.Common.{◌≡◌, ◌≤◌, ◌+◌, ◌-◌, ℕ, [], length, set, replicate, slice_index_or, sym, ap, ◌∙◌, arith, subst}
use Rattle.std.proofs.Math.ListN.{length-set}
use Rattle.bundle_bounds.specs.Views.{data_of}
use Rattle.demand_oracle.specs.Reaches.{number_at, HoldsHopes}
use Rattle.demand_oracle.specs.Values.{hopes_from}
use Rattle.demand_oracle.proofs.Hoping.{holds_kept, holds_last, holds_more, row_same, zero_row}
use Rattle.demand_oracle.proofs.tables.put_hopes.Goals as goal

pub loop-place-init : goal.loop-place-init
loop-place-init c = record {
  whole = length-set c.args.hopes.now c.from.result _ ∙ c.told-hopes;
  filled = (let offer = data_of c.args.offer.now in
      let few : length c.args.offer.now.menu.now.places ≤ 60 = c.len-count.ensures.menu.places.few in
      let size : length c.args.hopes.now ≡ 61 = c.told-hopes in
      let at : length c.args.offer.now.menu.now.places ≡ c.from.result = sym (c.from.ensures ∙ c.len-count.ensures.value) in
      subst (λ n. HoldsHopes offer (set c.args.hopes.now c.from.result (replicate 60 0)) n) (sym c.len-count.ensures.value)
      (subst (λ n. HoldsHopes offer (set c.args.hopes.now n (replicate 60 0)) (length c.args.offer.now.menu.now.places)) at
      (holds_last offer c.args.hopes.now (replicate 60 0) (omega arith) (zero_row 60))));
}

pub add_hopes-requires-clause-hopes : goal.add_hopes-requires-clause-hopes
add_hopes-requires-clause-hopes c earlier low =
    let offer = data_of c.args.offer.now in
    let k : ℕ = c.loop-place.place - 1 in
    let few : length c.args.offer.now.menu.now.places ≤ 60 = c.len-count.ensures.menu.places.few in
    let size : length c.loop-place.hopes ≡ 61 = c.loop-place.invariant.whole in
    let row = slice_index_or c.loop-place.hopes (k + 1) [] in
    let read : c.from-in-loop-place.result + 1 ≡ k + 1 = ap (λ n. n + 1) c.from-in-loop-place.ensures in
    let next : k + 1 ≡ c.loop-place.place = omega arith in
    rw (read, c.from-in-loop-place-2.ensures, c.from-in-loop-place-3.ensures)
    (row_same c.loop-place.hopes k row earlier (omega arith)
    ∙ subst (λ n. number_at c.loop-place.hopes n earlier ≡ hopes_from offer n earlier) (sym next)
    (c.loop-place.invariant.filled c.loop-place.place earlier (omega arith) (omega arith) (omega arith)))

pub loop-place-preserved : goal.loop-place-preserved
loop-place-preserved c =
    let k : ℕ = c.loop-place.place - 1 in
    let few : length c.args.offer.now.menu.now.places ≤ 60 = c.len-count.ensures.menu.places.few in
    let size : length c.loop-place.hopes ≡ 61 = c.loop-place.invariant.whole in
    let row = slice_index_or c.loop-place.hopes (c.from-in-loop-place.result + 1) [] in
    let copied = set c.loop-place.hopes k row in
    let long : length copied ≡ 61 = length-set c.loop-place.hopes k row ∙ size in
    let next : c.loop-place.place ≡ k + 1 = omega arith in
    rw (c.from-in-loop-place-2.ensures, c.from-in-loop-place-3.ensures) record {
      whole = length-set copied k _ ∙ long;
      filled = (let offer = data_of c.args.offer.now in
          holds_more offer copied k c.add_hopes.new.hopes (omega arith)
          (holds_kept offer c.loop-place.hopes k row (subst (HoldsHopes offer c.loop-place.hopes) next (c.loop-place.invariant.filled)))
          c.add_hopes.ensures);
    }
