-- What the stages make is a publication in the ranges of the text.
use Rattle.std.proofs.Common.{ℕ, ◌≡◌, ◌<◌, ◌≤◌, ◌^◌, ◌∙◌, List, map, length, ap, sym, subst}
use Rattle.std.specs.Prelude.{All}
use Rattle.std.specs.List.{zip}
use Rattle.std.proofs.lemmas.List.{length-map}
use Rattle.std.proofs.lemmas.List.Elements.{All-map}
use Rattle.std.proofs.lemmas.Slice.Zip.{AllZip-long}
use Rattle.market_units.specs.declared.units.Tokens.{Tokens}
use Rattle.bundle_rules.specs.Demand.{price_in}
use Rattle.bundle_rules.specs.Places.{places_from}
use Rattle.demand_api.specs.Crowds.{CrowdData, IsCrowd, Student, holders}
use Rattle.aftermarket_stage.specs.Turns.{IsTurn as IsTurnOf}
use Rattle.market_settings.specs.declared.reader.Settings.{Settings}
use Rattle.market_certificate.specs.Publications.{AreFor, IsBundleOf, IsProved, IsPublication, IsSession, IsTurn, IsUsed, Proved, Publication}
use Rattle.market_certificate.specs.Tables.{Tables}
use Rattle.published_parts.specs.Holdings.{demanded, held_after, tokens}
use Rattle.published_parts.specs.Offers.{IsProvedDemand}
use Rattle.published_market.specs.Making.{HasForm, HasTurnForm}
use Rattle.published_market.specs.Publishing.{terms_at}
use Rattle.published_market.specs.Stages.{AreStages, StageData}
use Rattle.published_market.proofs.Outcomes.{Tells, outcome_told}
use Rattle.published_market.proofs.Prices.{amounts_of_tokens}
use Rattle.published_market.proofs.Ranges.{amounts_in_range, bundles_in_range, held_all, made_from, prices_in_range, turns_in_range, used_in_range}
use Rattle.published_parts.proofs.HeldAfter.{length-held_after}

-- what the code shows beside the stages
pub record AreForms (seats : List ℕ) (p : Publication) : Type 0 where
  pub order : All IsSession p.order
  pub error : p.error < 2 ^ 64
  pub bundles : All (λ (proved : Proved). HasForm proved.bundle proved.tree) p.bundles
  pub turns : All HasTurnForm p.turns
  pub low : All (λ count. count ≤ 9999) seats

budgets_for : (crowd : CrowdData) (students : List (List ℕ)) (budgets : List ℕ) → IsCrowd crowd → length crowd.students ≡ length students
    → budgets ≡ map (λ (student : Student). student.budget) crowd.students → AreFor students (λ budget. budget ≤ 1000000) budgets
budgets_for crowd students budgets known count same = subst (AreFor students (λ budget. budget ≤ 1000000)) (sym same) (record {
  count = length-map crowd.students (λ (student : Student). student.budget) ∙ count;
  each = All-map (λ budget. budget ≤ 1000000) (λ (student : Student). student.budget) crowd.students known.budgets;
})

prices_for : (crowd : CrowdData) (sections : List (List ℕ)) (amounts : List ℕ) (prices : List Tokens) → crowd.sections ≡ length sections
    → tokens amounts ≡ prices → AreFor sections (λ price. price ≤ 1000001) (map (λ (price : Tokens). price.0) prices)
    → AreFor sections (λ price. price ≤ 1000001) amounts
prices_for crowd sections amounts prices same told are =
    subst (AreFor sections (λ price. price ≤ 1000001)) (ap (map (λ (price : Tokens). price.0)) (sym told) ∙ amounts_of_tokens amounts) are

pub publication_in_range : (crowd : CrowdData) (seats : List ℕ) (settings : Settings) (stages : StageData) (p : Publication) (tables : Tables) → IsCrowd crowd
    → length seats ≡ crowd.sections → length crowd.students ≡ length tables.students
    → crowd.sections ≡ length tables.sections → AreStages crowd seats settings stages → Tells crowd seats settings stages p → AreForms seats p
    → IsPublication tables p
publication_in_range crowd seats settings stages p tables known same students sections are tells forms =
    let bundles : All (IsProved tables.sections) p.bundles =
    bundles_in_range crowd.sections tables.sections (price_in stages.prices) crowd.students p.bundles sections tells.bundles forms.bundles in
    let count : length p.bundles ≡ length crowd.students =
    AllZip-long (IsProvedDemand crowd.sections (price_in stages.prices)) crowd.students p.bundles tells.bundles in
    let turns : All (IsTurn tables.students tables.sections) p.turns =
    turns_in_range crowd stages.prices settings.raise tables.students tables.sections stages.turns p.turns known students sections
    (made_from (IsTurnOf (terms_at crowd seats stages.prices settings.raise)) crowd stages.bundles stages.turns stages.lengths.passes are.made) tells.turns
    forms.turns in
    let outcome = outcome_told crowd seats settings stages p same are tells in
    let demanded_are : All (IsBundleOf tables.sections) (demanded p) =
    All-map (IsBundleOf tables.sections) (λ (proved : Proved). proved.bundle) p.bundles (λ k d inside. (bundles k d inside).bundle) in
    let held : All (IsBundleOf tables.sections) (held_after (demanded p) p.turns) =
    held_all (IsBundleOf tables.sections) (demanded p) p.turns demanded_are (λ k d inside. (turns k d inside).bundle) in
    let used : AreFor tables.sections IsUsed (zip (map (λ s. holders s stages.held) (places_from 0 crowd.sections)) seats) =
    used_in_range crowd.sections tables.sections seats stages.held sections same forms.low are.within in
    record {
      order = forms.order;
      budgets = budgets_for crowd tables.students p.budgets known students tells.budgets;
      start =
          prices_for crowd tables.sections p.start stages.start sections tells.start
          (amounts_in_range crowd.sections tables.sections stages.start sections (prices_in_range crowd stages.start known are.start_are));
      error = forms.error;
      prices =
          prices_for crowd tables.sections p.prices stages.prices sections tells.prices
          (amounts_in_range crowd.sections tables.sections stages.prices sections (prices_in_range crowd stages.prices known are.prices_are));
      bundles = record { count = count ∙ students; each = bundles };
      turns = turns;
      allocation = record {
        count =
            ap (λ (all : List (List ℕ)). length all) outcome.allocation ∙ length-held_after (demanded p) p.turns
            ∙ length-map p.bundles (λ (proved : Proved). proved.bundle) ∙ count ∙ students;
        each = subst (All (IsBundleOf tables.sections)) (sym outcome.allocation) held;
      };
      used = subst (AreFor tables.sections IsUsed) (sym (tells.used ∙ ap (λ counts. zip counts seats) are.used)) used;
    }
