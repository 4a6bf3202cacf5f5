use Rattle.std.proofs.Common.{rules, ◌≡◌, ◌<◌, ◌≤◌, ◌+◌, ◌∙◌, ℕ, List, [], Vec, Global, length, slice_index_or, ap, sym, subst, arith}
use Rattle.std.specs.Arc.{arc_value}
use Rattle.std.specs.Prelude.{IfSome}
use Rattle.std.proofs.lemmas.List.{get_or-map, length-map}
use Rattle.market_units.specs.declared.units.Tokens.{Tokens}
use Rattle.bundle_rules.specs.Demand.{price_in}
use Rattle.demand_api.specs.Crowds.{CrowdData, counts}
use Rattle.demand_api.specs.Views.{data_of}
use Rattle.demand_api.proofs.Takers.{listed_all, listed_more}
use Rattle.demand_workers.specs.Rounds.{prices_of}
use Rattle.demand_workers.specs.Views.{crowd_of}
use Rattle.demand_workers.proofs.pooled_demands.PooledDemandsAnyGateDemands.counts.Goals as goal

pub loop-version-preserved : goal.loop-version-preserved
loop-version-preserved g c =
    let version : ℕ = c.loop-version.version in
    let inquiries = c.in_ok-survey.field-0.survey.found.inquiries in
    let crowd = data_of (arc_value c.args.self.now.crowd) in
    let batch : List (Vec Tokens Global) = c.args.batch.now in
    let other = (arc_value inquiries.remembered).prices in
    let low : c.loop-version.version < length c.args.batch.now = search rules in
    let all = length-map c.args.batch.now (λ (w : Vec Tokens Global). w.items) in
    record {
      done =
          listed_more (λ (found : Vec ℕ Global). found.items)
          (λ (prices : Vec Tokens Global). counts (data_of (arc_value c.args.self.now.crowd)) (price_in prices.items)) c.args.batch.now c.loop-version.version
          other c.loop-version.found.items c.push.new.self.items
          c.in_ok-counts.counts low c.loop-version.invariant.done (search rules)
          (c.in_ok-counts.ensures
          ∙ ap (λ (w : CrowdData). counts w (price_in (slice_index_or (prices_of (arc_value inquiries.round).versions.items) (c.in_ok-survey.field-0.done + version) [])))
          c.in_ok-survey.ensures.crowd
          ∙ ap (λ (p : List Tokens). counts crowd (price_in p)) (c.in_ok-survey.ensures.next.same version (omega (arith, all, low)))
          ∙ ap (λ (p : List Tokens). counts crowd (price_in p))
          (get_or-map (λ (w : Vec Tokens Global). w.items) batch version other [] low));
    }

pub returns-clause-value : goal.returns-clause-value
returns-clause-value g c =
    let past : length c.args.batch.now ≤ c.loop-version.version = search rules in
    listed_all (λ (found : Vec ℕ Global). found.items)
    (λ (prices : Vec Tokens Global). counts (data_of (arc_value c.args.self.now.crowd)) (price_in prices.items)) c.args.batch.now c.loop-version.version
    c.loop-version.found.items past c.loop-version.invariant.done

pub invariant_of-self-2 : goal.invariant_of-self-2
invariant_of-self-2 g c =
    record {
      same = c.surveyed.ensures.same;
      surveyed =
          subst (λ o. IfSome o (λ ahead. crowd_of (arc_value ahead.survey.found.inquiries.remembered) ≡ data_of (arc_value c.args.self.now.crowd)))
          (sym c.take-earlier.ensures.after) tt;
      noted = c.args.self.now.noted;
    }
