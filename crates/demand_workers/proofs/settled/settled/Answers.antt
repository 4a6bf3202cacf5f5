use Rattle.std.proofs.Common.{rules, ◌≡◌, ◌<◌, ◌≤◌, ◌∙◌, ℕ, List, length, slice_set, ap, sym, subst}
use Rattle.std.specs.Arc.{arc_value}
use Rattle.std.specs.Prelude.{IfSome, IsTrue}
use Rattle.market_units.specs.declared.units.Tokens.{Tokens}
use Rattle.bundle_rules.specs.Bundles.{sections_of}
use Rattle.bundle_rules.specs.Demand.{price_in}
use Rattle.demand_api.specs.Asking.{ArePricesFor}
use Rattle.demand_api.specs.Crowds.{demand_of}
use Rattle.demand_workers.specs.declared.leaving.WalkEnd.{WalkEnd}
use Rattle.demand_workers.specs.declared.remembered.Remembered.{Remembered}
use Rattle.demand_workers.specs.Notes.{AreNoted}
use Rattle.demand_workers.specs.Views.{crowd_of}
use Rattle.demand_workers.proofs.HoldersLeave.{raised_prices}
use Rattle.demand_workers.proofs.Raising.{none_cheaper}
use Rattle.demand_workers.proofs.settled.settled.Goals as goal

-- the section of a walk has a remembered price
there : (walk : WalkEnd) → walk.section.0 < length (arc_value walk.notes.now.remembered).prices.items
there walk = subst (λ n. walk.section.0 < n) (sym (arc_value walk.notes.now.remembered).priced.same) walk.within

-- the raised prices are prices for the crowd
priced : (walk : WalkEnd) (prices : List Tokens) → prices ≡ slice_set (arc_value walk.notes.now.remembered).prices.items walk.section.0 walk.least
    → ArePricesFor (crowd_of (arc_value walk.notes.now.remembered)) prices
priced walk prices raised =
    subst (ArePricesFor (crowd_of (arc_value walk.notes.now.remembered))) (sym raised)
    (raised_prices (crowd_of (arc_value walk.notes.now.remembered)) (arc_value walk.notes.now.remembered).prices.items walk.section.0 walk.least.0
    (arc_value walk.notes.now.remembered).priced walk.high)

pub invariant_of-question : goal.invariant_of-question
invariant_of-question c = record {
  priced =
      subst (λ (r : Remembered). ArePricesFor (crowd_of r) c.args.prices.now) (sym c.deref-remembered.ensures)
      (priced c.args.walk.now c.args.prices.now c.requires.raised);
  listed =
      subst (λ (r : Remembered). c.args.student.0 < length (arc_value r.crowd).menus.items) (sym c.deref-remembered.ensures) c.requires.student;
}

pub nowhere-requires : goal.nowhere-requires
nowhere-requires c =
    let walk = c.args.walk.now in
    subst (λ (l : List Tokens). (s : ℕ) → price_in l s ≤ price_in c.args.prices.now s)
    (sym (c.deref.ensures.value ∙ ap (λ (r : Remembered). r.prices.items) c.deref-remembered.ensures))
    (none_cheaper (arc_value walk.notes.now.remembered).prices.items c.args.prices.now walk.section.0 walk.least (there walk) walk.low c.requires.raised)

pub returns-then-stays : goal.returns-then-stays
returns-then-stays c =
    let holds : IsTrue c.stays.result = search rules in
    c.earlier.ensures ∙ c.stays.ensures holds
    ∙ ap (λ (r : Remembered). demand_of (crowd_of r) (price_in c.args.prices.now) c.args.student.0) c.deref-remembered.ensures

pub told-requires : goal.told-requires
told-requires c =
    subst (λ (r : Remembered). AreNoted (crowd_of r) c.args.walk.now.notes.now.list.items) (sym c.deref-remembered.ensures)
    c.args.walk.now.notes.now.noted

pub returns : goal.returns
returns c =
    subst (λ (r : Remembered). IfSome c.told.result (λ b. sections_of b ≡ demand_of (crowd_of r) (price_in c.args.prices.now) c.args.student.0))
    c.deref-remembered.ensures c.told.ensures
