use Rattle.std.proofs.Common.{ℕ, List, subst}
use Rattle.std.specs.Prelude.{IfSome, Option, None, Some}
use Rattle.bundle_rules.specs.Bundles.{sections_of}
use Rattle.bundle_rules.specs.declared.bundle.Bundle.{Bundle}
use Rattle.bundle_rules.specs.Demand.{price_in}
use Rattle.bundle_rules.specs.Menus.{wishes_of}
use Rattle.bundle_rules.proofs.Choices.{priced}
use Rattle.demand_oracle.specs.Bests.{IsAmong, IsFirstWithin}
use Rattle.demand_oracle.specs.BestViews.{bundles_of}
use Rattle.demand_oracle.proofs.StillFirst.{first_within_is_best}
use Rattle.demand_oracle.proofs.best.Best.first_within.Goals as goal

pub first_of-requires : goal.first_of-requires
first_of-requires c bundle among s is =
    priced c.args.menu.now c.args.prices.now bundle c.requires.prices
    (c.requires.rated bundle (subst (IsAmong bundle) c.as_slice.ensures among)) s is

-- what holds of what is told holds of it in another way
told : (P Q : List ℕ → Type 0) (found : Option Bundle) → ((b : List ℕ) → P b → Q b) → IfSome found (λ b. P (sections_of b))
    → IfSome found (λ b. Q (sections_of b))
told P Q None f is = is
told P Q (Some b) f is = f (sections_of b) is

pub returns-clause-first : goal.returns-clause-first
returns-clause-first c =
    told _ (λ b. IsFirstWithin (price_in c.args.prices.now) c.args.budget.0 (bundles_of c.args.self.now) b) c.first_of.result
    (λ b within. subst (λ bs. IsFirstWithin (price_in c.args.prices.now) c.args.budget.0 bs b) c.as_slice.ensures within) c.first_of.ensures

pub returns-clause-best : goal.returns-clause-best
returns-clause-best c price allowed best no_lower =
    told _ _ c.first_of.result
    (λ b within. first_within_is_best (wishes_of c.args.menu.now) price (price_in c.args.prices.now) c.args.budget.0 allowed _ b best no_lower
    (subst (λ bs. IsFirstWithin (price_in c.args.prices.now) c.args.budget.0 bs b) c.as_slice.ensures within)) c.first_of.ensures
