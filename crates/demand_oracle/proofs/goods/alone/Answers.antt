use Rattle.std.proofs.Common.{◌++◌, ◌∷◌, [], sym, subst, arith, rules}
use Rattle.bundle_rules.specs.Demand.{price_in}
use Rattle.bundle_rules.specs.Menus.{section_at}
use Rattle.bundle_bounds.specs.Laws.{IsTakable}
use Rattle.bundle_bounds.specs.Views.{data_of}
use Rattle.demand_oracle.specs.OpenWords.{IsAlone}
use Rattle.demand_oracle.proofs.Rows.{word_more}
use Rattle.demand_oracle.proofs.goods.alone.Goals as goal

pub invariant_of-step : goal.invariant_of-step
invariant_of-step c = record {
  summed_is = c.root-root.ensures.summed c.args.offer.now.menu.now (price_in c.args.offer.now.prices.now);
  undecided = omega (arith, c.root-root.ensures.place);
  on_menu = search rules;
}

pub loop-place-preserved : goal.loop-place-preserved
loop-place-preserved c =
    let offer = data_of c.args.offer.now in
    let own =
    subst (λ chosen. IsTakable offer (chosen ++ section_at c.args.offer.now.menu.now.places c.loop-place.place ∷ [])) c.root-root.ensures.chosen in
    let back =
    subst (λ chosen. IsTakable offer (chosen ++ section_at c.args.offer.now.menu.now.places c.loop-place.place ∷ [])) (sym c.root-root.ensures.chosen) in
    word_more (IsAlone offer) c.loop-place.word c.loop-place.place c.with_bit-word.result c.may_take-is_takable.result c.loop-place.invariant
    c.with_bit-word.ensures (λ is. own (c.may_take-is_takable.ensures.takable.0 is), λ may. c.may_take-is_takable.ensures.takable.1 (back may))
