use Rattle.std.proofs.Common.{◌≡◌, ◌∙◌, true, sym}
use Rattle.std.specs.Prelude.{nat_lt}
use Rattle.std.proofs.lemmas.Bool.{lt-ltb}
use Rattle.bundle_rules.specs.Bundles.{sections_of}
use Rattle.bundle_rules.specs.Demand.{price_in}
use Rattle.bundle_rules.specs.Given.{SomeHas}
use Rattle.bundle_rules.specs.Menus.{wishes_of}
use Rattle.explain_desk.specs.Explanations.{IsProvedWith, offer_of_all}
use Rattle.explain_desk.specs.Reasons.{tells_best}
use Rattle.explain_desk.proofs.Leaving.{some_has}
use Rattle.explain_desk.proofs.Offering.{seen_told, some_told}
use Rattle.explain_desk.proofs.explaining.explain.Goals as goal

pub returns : goal.returns
returns c =
    let tells : tells_best c.reason_of-reason.result ≡ true = sym c.tells_best.ensures ∙ c.if-not-tells_best.false in
    let price = price_in c.args.prices.now in
    let some : SomeHas (wishes_of c.args.menu.now) price c.args.budget.0 (λ s. nat_lt s c.args.sections) c.args.section.0 =
    some_has c.args.menu.now price c.args.budget.0 (λ s. nat_lt s c.args.sections) (sections_of c.args.bundle.now) c.args.section.0 c.reason_of-reason.result (lt-ltb c.args.section.0 c.args.sections c.requires.section) c.reason_of-reason.ensures tells in record {
      is_reason = c.reason_of-reason.ensures;
      is_best =
          seen_told (IsProvedWith (offer_of_all c.args.menu.now c.args.prices.now c.args.budget.0 c.args.sections) c.args.section.0) c.in_ok-best.best
          c.in_ok-best.ensures.some;
      told =
          some_told (SomeHas (wishes_of c.args.menu.now) price c.args.budget.0 (λ s. nat_lt s c.args.sections) c.args.section.0) c.in_ok-best.best
          c.in_ok-best.ensures.none some
          ∙ sym tells;
    }
