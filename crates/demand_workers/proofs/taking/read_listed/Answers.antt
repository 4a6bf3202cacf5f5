use Rattle.std.proofs.Common.{◌≡◌, ◌<◌, ◌≤◌, ◌∙◌, length, arith}
use Rattle.market_units.specs.declared.units.StudentNo.{StudentNo}
use Rattle.bundle_rules.specs.Bundles.{sections_of}
use Rattle.demand_api.specs.Crowds.{demand_of}
use Rattle.demand_workers.specs.Views.{crowd_of, price_before}
use Rattle.demand_workers.proofs.Counting.{maps_same}
use Rattle.demand_workers.proofs.taking.read_listed.Goals as goal

pub returns : goal.returns
returns c =
    let past : length c.args.students.now ≤ c.loop-place.place = c.loop-place-test.false in
    let long : length c.loop-place.bundles ≡ length c.args.students.now = c.loop-place.invariant.len ∙ c.requires.same in
    maps_same sections_of (λ (student : StudentNo). demand_of (crowd_of c.args.remembered.now) (price_before c.args.remembered.now) student.0)
    c.loop-place.bundles c.args.students.now (record { 0 = 0 }) long
    (λ k d low. c.loop-place.invariant.done k d (record { 0 = 0 }) (let goal : k < c.loop-place.place = omega arith in goal))
