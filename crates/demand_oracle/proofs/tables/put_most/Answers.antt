use Rattle.std.proofs.Common.{◌≡◌, ◌≤◌, ◌+◌, ◌-◌, ◌*◌, sym, ap, arith, subst, length}
use Rattle.bundle_bounds.specs.Views.{data_of}
use Rattle.demand_oracle.specs.Values.{hopes_from}
use Rattle.demand_oracle.specs.Reaches.{number_at, within_at, HoldsCovers, top_of}
use Rattle.demand_oracle.proofs.Covering.{covers_last}
use Rattle.demand_oracle.proofs.tables.put_most.Goals as goal

pub loop-place-init : goal.loop-place-init
loop-place-init c = record {
  filled = (let offer = data_of c.args.offer.now in
      subst (HoldsCovers offer c.args.multipliers c.args.unit.shift (top_of offer c.args.unit.shift) c.put_nothing.new.most) (sym c.len-count.ensures.value)
      (covers_last offer c.args.multipliers c.args.unit.shift (top_of offer c.args.unit.shift) c.put_nothing.new.most));
  small = λ k count units from to few cheap.
      let same : k ≡ length c.args.offer.now.menu.now.places = omega (arith, c.len-count.ensures.value) in
      let capped : c.args.offer.now.menu.now.courses ≤ 8 = c.len-count.ensures.menu.caps.courses_cap in
      let zero : within_at c.put_nothing.new.most (length c.args.offer.now.menu.now.places) count units ≡ 0 = c.put_nothing.ensures count units (omega arith) in
      subst (λ n. within_at c.put_nothing.new.most n count units ≤ 65635001 * count) (sym same) (omega arith);
}

pub loop-place-preserved : goal.loop-place-preserved
loop-place-preserved c =
    let next : c.loop-place.place ≡ c.loop-place.place - 1 + 1 = omega arith in
    let row : c.from.result + 1 ≡ c.loop-place.place - 1 + 1 = ap (λ n. n + 1) c.from.ensures in
    record {
      filled = (let offer = data_of c.args.offer.now in
          let covered = subst (HoldsCovers offer c.args.multipliers c.args.unit.shift (top_of offer c.args.unit.shift) c.loop-place.most) next c.loop-place.invariant.filled in
          let hoped : number_at c.args.hopes.now (c.from.result + 1) c.from-in-loop-place.result
          ≡ hopes_from offer (c.loop-place.place - 1 + 1) (c.loop-place.place - 1) =
          rw (row, c.from-in-loop-place.ensures)
          (c.requires (c.loop-place.place - 1 + 1) (c.loop-place.place - 1) (omega arith) (omega arith) (omega arith)) in
          c.put_place.ensures.covers hoped covered);
      small = c.put_place.ensures.small;
    }

pub returns : goal.returns
returns c k count units from on few cheap = c.loop-place.invariant.filled k count units (omega arith) on few cheap
