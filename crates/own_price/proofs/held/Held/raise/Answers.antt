use Rattle.std.proofs.Common.{◌≡◌, ◌≤◌, ◌<◌, ◌∙◌, All, arith, length, map, ap, subst, sym, slice_set}
use Rattle.bundle_rules.specs.Bundles.{sections_of}
use Rattle.bundle_rules.specs.Demand.{price_in}
use Rattle.demand_api.specs.Crowds.{demand_of}
use Rattle.own_price.specs.Holding.{Holds}
use Rattle.own_price.specs.Exchanges.{exchanged, AreHolders}
use Rattle.demand_api.proofs.Takers.{lent_back}
use Rattle.own_price.proofs.Exchanging.{exchanged_length}
use Rattle.own_price.proofs.Raising.{others_length, others_within, raised_holds, put_back, held_same}
use Rattle.own_price.proofs.held.Held.raise.Goals as goal
use Rattle.demand_api.proofs.Counts.{length-demands}

pub bundles-requires-clause-range : goal.bundles-requires-clause-range
bundles-requires-clause-range g c =
    let crowd = g.D.Demands.crowd c.args.demands.now in
    let held = subst (λ held. Holds crowd held) (sym c.self.view_is) c.requires.held in
    let are = subst (λ held. AreHolders c.args.section.0 held.bundles c.in_ok-students.students.items) (sym c.self.view_is) c.in_ok-students.ensures in
    rw c.deref-2.ensures.value
    (subst (λ n. All (λ student. student.0 < n) c.in_ok-students.students.items)
    (ap length held.bundles ∙ length-demands crowd (price_in c.self.inside.prices.items)) are.range)

pub exchange_all-requires-clause-same : goal.exchange_all-requires-clause-same
exchange_all-requires-clause-same g c =
    let crowd = g.D.Demands.crowd c.args.demands.now in
    let told =
    subst (λ ss. map sections_of c.in-Ok.bundles.items ≡ map (λ student. demand_of crowd (price_in c.deref.result.now) student.0) ss)
    c.deref-2.ensures.value c.in-Ok.ensures.value in
    rw (c.deref-in-Ok-2.ensures.value, c.deref-in-Ok.ensures.value)
    (others_length crowd (price_in c.deref.result.now) c.in_ok-students.students.items c.in-Ok.bundles.items told)

pub exchange_all-requires-clause-within : goal.exchange_all-requires-clause-within
exchange_all-requires-clause-within g c =
    let crowd = g.D.Demands.crowd c.args.demands.now in
    let held = subst (λ held. Holds crowd held) (sym c.self.view_is) c.requires.held in
    let told =
    subst (λ ss. map sections_of c.in-Ok.bundles.items ≡ map (λ student. demand_of crowd (price_in c.deref.result.now) student.0) ss)
    c.deref-2.ensures.value c.in-Ok.ensures.value in
    rw (c.deref-in-Ok-2.ensures.value, c.deref_mut-in-Ok.ensures.value)
    (others_within crowd (price_in c.deref.result.now) c.in_ok-students.students.items c.in-Ok.bundles.items (length c.self.inside.counts.items) told
    (c.self.invariant.counted.len ∙ held.prices.same))

pub returns-in-Ok-clause-bundles : goal.returns-in-Ok-clause-bundles
returns-in-Ok-clause-bundles g c =
    let crowd = g.D.Demands.crowd c.args.demands.now in
    let prices = c.self.inside.prices.items in
    let students = c.in_ok-students.students.items in
    let others = c.in-Ok.bundles.items in
    let held = subst (λ held. Holds crowd held) (sym c.self.view_is) c.requires.held in
    let up : price_in prices c.args.section.0 ≤ c.args.price.0 =
    subst (λ held. price_in held.prices c.args.section.0 ≤ c.args.price.0) (sym c.self.view_is) c.requires.up in
    let are = subst (λ held. AreHolders c.args.section.0 held.bundles students) (sym c.self.view_is) c.in_ok-students.ensures in
    let asked =
    subst (λ ss. map sections_of others ≡ map (λ student. demand_of crowd (price_in c.deref.result.now) student.0) ss) c.deref-2.ensures.value
    c.in-Ok.ensures.value in
    let priced = subst (λ ps. map sections_of others ≡ map (λ student. demand_of crowd (price_in ps) student.0) students) c.deref.ensures.value asked in
    let told =
    subst (λ place. map sections_of others ≡ map (λ student. demand_of crowd (price_in (slice_set prices place c.args.price)) student.0) students)
    c.from-place.ensures priced in
    let section : c.args.section.0 < (g.D.Demands.crowd c.args.demands.now).sections =
    omega (arith, c.requires.section, c.requires.held.prices.same) in
    let new =
    raised_holds crowd prices c.self.inside.bundles.items others students c.args.section.0 c.args.price held.prices held.bundles section up
    c.requires.capped are told in
    let exchange : c.exchange_all.new.bundles ≡ exchanged c.self.inside.bundles.items students others =
    rw (c.deref_mut.ensures.value, c.deref-in-Ok.ensures.value, c.deref-in-Ok-2.ensures.value) at c.exchange_all.ensures.bundles in
    let whole : c.self.inside.bundles.len ≡ length c.exchange_all.new.bundles =
    c.self.inside.bundles.ok.0 ∙ sym (exchanged_length c.self.inside.bundles.items students others) ∙ sym (ap length exchange) in
    subst (λ bs. Holds crowd (record { prices = slice_set prices c.from-place.result c.args.price; bundles = map sections_of bs }))
    (sym (lent_back c.self.inside.bundles.len c.exchange_all.new.bundles c.self.inside.bundles.items whole))
    (subst (λ place. Holds crowd (record { prices = slice_set prices place c.args.price; bundles = map sections_of c.exchange_all.new.bundles })) (sym c.from-place.ensures)
    (subst (λ bs. Holds crowd (record { prices = slice_set prices c.args.section.0 c.args.price; bundles = map sections_of bs })) (sym exchange) new))

pub returns-clause-unchanged : goal.returns-clause-unchanged
returns-clause-unchanged g c =
    let prices = c.self.inside.prices.items in
    let place = c.from-place.result in
    let back : slice_set (slice_set prices place c.args.price) place c.index-before.result.now ≡ prices =
    ap (slice_set (slice_set prices place c.args.price) place) c.index-before.ensures ∙ put_back prices place c.args.price c.index-before.result.now in
    held_same (slice_set (slice_set prices place c.args.price) place c.index-before.result.now) prices (map sections_of c.self.inside.bundles.items) back
    ∙ c.self.view_is
