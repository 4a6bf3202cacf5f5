use Rattle.std.proofs.Common.{◌≡◌, length, map, arith, subst, sym, rules}
use Rattle.bundle_rules.specs.Bundles.{sections_of}
use Rattle.bundle_rules.specs.Demand.{price_in}
use Rattle.demand_api.specs.Crowds.{demand_of}
use Rattle.demand_api.specs.Counting.{AreCounts, IsTally}
use Rattle.own_price.specs.Holding.{Holds}
use Rattle.own_price.proofs.Raising.{all_asked, all_count, all_few, all_range, others_within}
use Rattle.own_price.proofs.held.Held.take.Goals as goal

pub bundles-requires-clause-few : goal.bundles-requires-clause-few
bundles-requires-clause-few g c =
    let long : length c.in_ok-students.students.items ≡ c.students.result =
    all_count c.in_ok-students.students.items c.students.result c.in_ok-students.ensures in
    let few = c.students.ensures.crowd.few in
    let count = c.students.ensures.value in
    rw c.deref.ensures.value (omega (arith, long, few, count))

pub bundles-requires-clause-range : goal.bundles-requires-clause-range
bundles-requires-clause-range g c =
    rw c.deref.ensures.value
    (all_range c.in_ok-students.students.items c.students.result (length (g.D.Demands.crowd c.args.demands.now).students) c.in_ok-students.ensures
    (sym c.students.ensures.value))

pub count_bundles-requires-clause-few : goal.count_bundles-requires-clause-few
count_bundles-requires-clause-few g c =
    let told =
    subst
    (λ ss. map sections_of c.in_ok-bundles.bundles.items
    ≡ map (λ student. demand_of (g.D.Demands.crowd c.args.demands.now) (price_in c.args.prices.now) student.0) ss)
    c.deref.ensures.value c.in_ok-bundles.ensures.value in
    let few =
    all_few (g.D.Demands.crowd c.args.demands.now) (price_in c.args.prices.now) c.in_ok-students.students.items c.in_ok-bundles.bundles.items
    c.students.result c.students.ensures.crowd c.students.ensures.value c.in_ok-students.ensures told in
    rw c.deref-2.ensures.value (omega (arith, few))

pub count_bundles-requires-clause-within : goal.count_bundles-requires-clause-within
count_bundles-requires-clause-within g c =
    let told =
    subst
    (λ ss. map sections_of c.in_ok-bundles.bundles.items
    ≡ map (λ student. demand_of (g.D.Demands.crowd c.args.demands.now) (price_in c.args.prices.now) student.0) ss)
    c.deref.ensures.value c.in_ok-bundles.ensures.value in
    rw c.deref-2.ensures.value
    (others_within (g.D.Demands.crowd c.args.demands.now) (price_in c.args.prices.now) c.in_ok-students.students.items c.in_ok-bundles.bundles.items _ told
    c.requires.same)

pub invariant_of-result : goal.invariant_of-result
invariant_of-result g c =
    let told =
    subst
    (λ ss. map sections_of c.in_ok-bundles.bundles.items
    ≡ map (λ student. demand_of (g.D.Demands.crowd c.args.demands.now) (price_in c.args.prices.now) student.0) ss)
    c.deref.ensures.value c.in_ok-bundles.ensures.value in
    let copied : c.in_ok-prices.prices.items ≡ c.args.prices.now = search rules in
    let are = subst (λ bs. AreCounts (length c.args.prices.now) (map sections_of bs) c.in_ok-counts.counts.items) c.deref-2.ensures.value c.in_ok-counts.ensures in
    subst (λ ps. IsTally (length ps) c.in_ok-bundles.bundles.items c.in_ok-counts.counts.items) (sym copied) (record {
      few =
          all_few (g.D.Demands.crowd c.args.demands.now) (price_in c.args.prices.now) c.in_ok-students.students.items c.in_ok-bundles.bundles.items
          c.students.result c.students.ensures.crowd c.students.ensures.value c.in_ok-students.ensures told;
      within =
          others_within (g.D.Demands.crowd c.args.demands.now) (price_in c.args.prices.now) c.in_ok-students.students.items c.in_ok-bundles.bundles.items
          (length c.args.prices.now) told c.requires.same;
      counted = are;
    })

pub returns-clause-bundles : goal.returns-clause-bundles
returns-clause-bundles g c =
    let told =
    subst
    (λ ss. map sections_of c.in_ok-bundles.bundles.items
    ≡ map (λ student. demand_of (g.D.Demands.crowd c.args.demands.now) (price_in c.args.prices.now) student.0) ss)
    c.deref.ensures.value c.in_ok-bundles.ensures.value in
    let copied : c.in_ok-prices.prices.items ≡ c.args.prices.now = search rules in
    subst (λ ps. Holds (g.D.Demands.crowd c.args.demands.now) (record { prices = ps; bundles = map sections_of c.in_ok-bundles.bundles.items })) (sym copied) (record {
      prices = c.requires;
      bundles =
          all_asked (g.D.Demands.crowd c.args.demands.now) (price_in c.args.prices.now) c.in_ok-students.students.items c.in_ok-bundles.bundles.items
          c.students.result c.students.ensures.value c.in_ok-students.ensures told;
    })
