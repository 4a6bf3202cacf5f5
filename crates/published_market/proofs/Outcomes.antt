-- What the stages of a crowd make of a publication.
use Rattle.std.proofs.Common.{ℕ, ◌≡◌, ◌∙◌, List, map, length, ap, sym, subst}
use Rattle.std.specs.List.{AllZip, zip}
use Rattle.market_units.specs.declared.units.Tokens.{Tokens}
use Rattle.bundle_rules.specs.Demand.{price_in}
use Rattle.bundle_rules.specs.Places.{places_from}
use Rattle.demand_api.specs.Crowds.{CrowdData, Student, demands, holders}
use Rattle.tabu_search.specs.Search.{IsFound}
use Rattle.oversubscription_stage.specs.Rounds.{IsSettled}
use Rattle.aftermarket_stage.specs.Passes.{IsAftermarket}
use Rattle.aftermarket_stage.specs.Turns.{after_turns}
use Rattle.market_settings.specs.declared.reader.Settings.{Settings}
use Rattle.market_certificate.specs.Publications.{Proved, Publication}
use Rattle.published_parts.specs.Holdings.{demanded, held_after, tokens, used_of}
use Rattle.published_parts.specs.Offers.{IsProvedDemand}
use Rattle.published_market.specs.Publishing.{IsOutcome, terms_at}
use Rattle.published_market.specs.Stages.{AreStages, StageData}
use Rattle.published_market.specs.Turns.{IsPublishedTurn}
use Rattle.published_market.proofs.Sentences.{demands_published}
use Rattle.published_market.proofs.Turning.{same_held}

-- the publication tells these stages
pub record Tells (crowd : CrowdData) (seats : List ℕ) (settings : Settings) (stages : StageData) (p : Publication) : Type 0 where
  pub budgets : p.budgets ≡ map (λ (student : Student). student.budget) crowd.students
  pub start : tokens p.start ≡ stages.start
  pub error : p.error ≡ stages.error
  pub prices : tokens p.prices ≡ stages.prices
  pub bundles : AllZip (IsProvedDemand crowd.sections (price_in stages.prices)) crowd.students p.bundles
  pub turns : AllZip (IsPublishedTurn crowd stages.prices settings.raise) stages.turns p.turns
  pub allocation : p.allocation ≡ stages.held
  pub used : p.used ≡ zip stages.used seats

pub demanded_crowd : (crowd : CrowdData) (price : ℕ → ℕ) (bundles : List Proved) → AllZip (IsProvedDemand crowd.sections price) crowd.students bundles
    → map (λ (proved : Proved). proved.bundle) bundles ≡ demands crowd price
unfolding demands
demanded_crowd crowd price bundles are = demands_published crowd.sections price crowd.students bundles are

-- so it is their outcome
pub outcome_told : (crowd : CrowdData) (seats : List ℕ) (settings : Settings) (stages : StageData) (p : Publication) → length seats ≡ crowd.sections
    → AreStages crowd seats settings stages → Tells crowd seats settings stages p → IsOutcome crowd seats settings stages.lengths p
outcome_told crowd seats settings stages p same are tells =
    let from : demanded p ≡ stages.bundles = demanded_crowd crowd (price_in stages.prices) p.bundles tells.bundles ∙ sym are.bundles in
    let prices : stages.prices ≡ tokens p.prices = sym tells.prices in
    let found : IsFound crowd seats settings (tokens p.start) p.error stages.lengths.turns =
    subst (λ e. IsFound crowd seats settings (tokens p.start) e stages.lengths.turns) (sym tells.error)
    (subst (λ (start : List Tokens). IsFound crowd seats settings start stages.error stages.lengths.turns) (sym tells.start) are.found) in
    let settled : IsSettled crowd seats (tokens p.start) (tokens p.prices) stages.lengths.rounds =
    subst (λ (last : List Tokens). IsSettled crowd seats (tokens p.start) last stages.lengths.rounds) prices
    (subst (λ (start : List Tokens). IsSettled crowd seats start stages.prices stages.lengths.rounds) (sym tells.start) are.settled) in
    let bundles : AllZip (IsProvedDemand crowd.sections (price_in (tokens p.prices))) crowd.students p.bundles =
    subst (λ (last : List Tokens). AllZip (IsProvedDemand crowd.sections (price_in last)) crowd.students p.bundles) prices tells.bundles in
    let made : IsAftermarket (terms_at crowd seats (tokens p.prices) settings.raise) (demanded p) stages.turns stages.lengths.passes =
    subst (λ held. IsAftermarket (terms_at crowd seats (tokens p.prices) settings.raise) held stages.turns stages.lengths.passes) (sym from)
    (subst (λ (last : List Tokens). IsAftermarket (terms_at crowd seats last settings.raise) stages.bundles stages.turns stages.lengths.passes) prices
    are.made) in
    let published : AllZip (IsPublishedTurn crowd (tokens p.prices) settings.raise) stages.turns p.turns =
    subst (λ (last : List Tokens). AllZip (IsPublishedTurn crowd last settings.raise) stages.turns p.turns) prices tells.turns in
    let allocation : p.allocation ≡ held_after (demanded p) p.turns =
    tells.allocation ∙ are.held ∙ ap (λ held. after_turns held stages.turns) (sym from)
    ∙ sym (same_held crowd stages.prices settings.raise (demanded p) stages.turns p.turns tells.turns) in
    let used : p.used ≡ used_of seats p.allocation =
    tells.used ∙ ap (λ counts. zip counts seats) are.used
    ∙ ap (λ (held : List (List ℕ)). zip (map (λ s. holders s held) (places_from 0 crowd.sections)) seats) (sym tells.allocation)
    ∙ ap (λ n. zip (map (λ s. holders s p.allocation) (places_from 0 n)) seats) (sym same) in
    record {
      budgets = tells.budgets;
      start = found;
      prices = settled;
      bundles = bundles;
      turns = record { turns = stages.turns; made = made; published = published };
      allocation = allocation;
      used = used;
    }
