use Rattle.std.proofs.Common.{◌≡◌, ◌∙◌, refl, sym, ap, subst, rules, slice_set}
use Rattle.std.specs.Prelude.{slice_index}
use Rattle.demand_api.specs.Crowds.{CrowdData}
use Rattle.own_price.specs.Holding.{Holds}
use Rattle.oversubscription_stage.specs.Rounds.{IsRound, IsRoundAt, IsSettled}
use Rattle.oversubscription_stage.proofs.Eliminations.{IsUnderWay, most_held, under_way_begins, under_way_more, round_left_falls, settled, within_held}
use Rattle.oversubscription_stage.proofs.Raises.{RoundFound, round_found}
use Rattle.oversubscription_stage.proofs.settling.settle.Given.{Over}
use Rattle.oversubscription_stage.proofs.settling.settle.Goals as goal
use Rattle.oversubscription_stage.proofs.settling.settle.Goals.{After-index}

pub loop-section-init : goal.loop-section-init
loop-section-init g c = (
  refl,
  subst (λ crowd. IsUnderWay crowd c.args.seats.now c.args.prices.now c.in_ok-held.held 0) (sym c.take.ensures.crowd)
      (under_way_begins (g.D.Demands.crowd c.args.demands.now) c.args.seats.now c.args.prices.now c.in_ok-held.held c.in_ok-held.ensures.known
      c.in_ok-held.ensures.prices c.in_ok-held.ensures.bundles),
)

-- what the least price of the section that is most over makes of the prices
found : (g : Over) (c : After-index g)
    → RoundFound (g.D.Demands.crowd c.loop-section.demands) c.args.seats.now c.loop-section.held c.in-Some.section c.index.result.now
found g c =
    let crowd = g.D.Demands.crowd c.loop-section.demands in
    let way =
    subst (λ crowd. IsUnderWay crowd c.args.seats.now c.args.prices.now c.loop-section.held c.loop-section.rounds) (sym c.loop-section.invariant.0)
    c.loop-section.invariant.1 in
    let seats = c.requires.seats ∙ ap (λ (crowd : CrowdData). crowd.sections) (sym (c.loop-section.invariant.0 ∙ c.take.ensures.crowd)) in
    let most = most_held crowd c.args.seats.now c.loop-section.held c.in-Some.section.0 way.holds seats c.in-Some.ensures.some in
    let room : c.from-room.result ≡ slice_index c.args.seats.now c.in-Some.section.0 = search rules in
    round_found crowd c.args.seats.now c.loop-section.held c.in-Some.section c.prices.result.now c.in_ok-least.least.items c.count.result
    c.from-room.result c.index.result.now way.holds most c.prices.ensures c.count.ensures.value room c.index.ensures c.in_ok-least.ensures.value

pub raise-requires-clause-up : goal.raise-requires-clause-up
raise-requires-clause-up g c = λ lifetimes outlives. (found g (goal.at.raise-requires-clause-up g c).After-index).up

pub raise-requires-clause-capped : goal.raise-requires-clause-capped
raise-requires-clause-capped g c =
    rw c.least_prices.ensures.crowd (λ lifetimes outlives. (found g (goal.at.raise-requires-clause-capped g c).After-index).capped)

pub loop-section-smaller : goal.loop-section-smaller
loop-section-smaller g c =
    let crowd = g.D.Demands.crowd c.loop-section.demands in
    let way =
    subst (λ crowd. IsUnderWay crowd c.args.seats.now c.args.prices.now c.loop-section.held c.loop-section.rounds) (sym c.loop-section.invariant.0)
    c.loop-section.invariant.1 in
    let raised : c.raise.new.self.prices ≡ slice_set c.loop-section.held.prices c.in-Some.section.0 c.index.result.now = search rules in
    let round : IsRound (g.D.Demands.crowd c.loop-section.demands) c.args.seats.now c.loop-section.held.prices c.raise.new.self.prices = (
      c.in-Some.section.0,
      c.index.result.now,
      subst (λ after. IsRoundAt crowd c.args.seats.now c.loop-section.held.prices after c.in-Some.section.0 c.index.result.now) (sym raised)
          (found g (goal.at.loop-section-smaller g c).After-index).round,
    ) in
    rw (c.raise.ensures.crowd, c.least_prices.ensures.crowd)
    (round_left_falls crowd c.args.seats.now c.loop-section.held.prices c.raise.new.self.prices way.holds.prices round)

pub loop-section-preserved : goal.loop-section-preserved
loop-section-preserved g c =
    let crowd = g.D.Demands.crowd c.loop-section.demands in
    let raised : c.raise.new.self.prices ≡ slice_set c.loop-section.held.prices c.in-Some.section.0 c.index.result.now = search rules in
    let round : IsRound (g.D.Demands.crowd c.loop-section.demands) c.args.seats.now c.loop-section.held.prices c.raise.new.self.prices = (
      c.in-Some.section.0,
      c.index.result.now,
      subst (λ after. IsRoundAt crowd c.args.seats.now c.loop-section.held.prices after c.in-Some.section.0 c.index.result.now) (sym raised)
          (found g (goal.at.loop-section-preserved g c).After-index).round,
    ) in
    let holds = subst (λ crowd. Holds crowd c.raise.new.self) (c.least_prices.ensures.crowd ∙ c.loop-section.invariant.0) c.in_ok-raise.ensures.bundles in (
      c.raise.ensures.crowd ∙ c.least_prices.ensures.crowd ∙ c.loop-section.invariant.0,
      under_way_more (g.D.Demands.crowd c.take.new.demands) c.args.seats.now c.args.prices.now c.loop-section.held c.raise.new.self c.loop-section.rounds
          c.loop-section.invariant.1
          (subst (λ crowd. IsRound crowd c.args.seats.now c.loop-section.held.prices c.raise.new.self.prices) c.loop-section.invariant.0 round) holds,
    )

pub returns-clause-value : goal.returns-clause-value
returns-clause-value g c =
    let crowd = g.D.Demands.crowd c.args.demands.now in
    let way =
    subst (λ k. IsUnderWay k c.args.seats.now c.args.prices.now c.loop-section.held c.loop-section.rounds) c.take.ensures.crowd c.loop-section.invariant.1 in
    let within = within_held crowd c.args.seats.now c.loop-section.held way.holds c.requires.seats c.in_default.ensures.none in
    let copied : c.in_ok-to_vec.field-0.items ≡ c.loop-section.held.prices = search rules in
    subst (λ prices. IsSettled crowd c.args.seats.now c.args.prices.now prices c.loop-section.rounds) (sym copied)
    (settled crowd c.args.seats.now c.args.prices.now c.loop-section.held c.loop-section.rounds way within)
