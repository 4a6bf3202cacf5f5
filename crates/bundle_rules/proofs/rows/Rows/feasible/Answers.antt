use Rattle.std.proofs.Common.{◌<◌, ◌∙◌, All, sym, subst, true≢false}
use Rattle.bundle_rules.specs.Apart.{MayTake}
use Rattle.bundle_rules.specs.Bundles.{sections_of}
use Rattle.bundle_rules.proofs.Bundled.{sections_of-IsBundle}
use Rattle.bundle_rules.proofs.Feasibility.{feasible_from, feasible_to}
use Rattle.bundle_rules.proofs.rows.Rows.feasible.Goals as goal

pub invariant_of-may_take : goal.invariant_of-may_take
invariant_of-may_take c = record {
  on_menu =
      subst (λ count. All (λ place. place < count) c.as_slice-places.result.now) c.len.ensures.value (c.are_below.ensures.0 c.if-not-are_below.false);
  few = c.as_slice-places.ensures.few;
}

pub returns-then-not-are_below : goal.returns-then-not-are_below
returns-then-not-are_below c =
    let places = c.as_slice-places.ensures.value ∙ c.of-places.ensures in (
      (λ yes'. absurd (true≢false (sym yes'))),
      (λ is. let may = subst (MayTake c.args.self.now) (sym places) (feasible_to c.args.self.now (sections_of c.args.bundle.now) is) in
          absurd
          (true≢false
          (sym (c.are_below.ensures.1 (subst (λ count. All (λ place. place < count) c.as_slice-places.result.now) (sym c.len.ensures.value) may.on_menu))
          ∙ c.if-not-are_below.true))),
    )

pub returns : goal.returns
returns c =
    let places = c.as_slice-places.ensures.value ∙ c.of-places.ensures in (
      (λ yes'. feasible_from c.args.self.now (sections_of c.args.bundle.now) c.len.ensures.menu (sections_of-IsBundle c.args.bundle.now).ascending
          (subst (MayTake c.args.self.now) places (c.may_take.ensures.0 yes'))),
      (λ is. c.may_take.ensures.1 (subst (MayTake c.args.self.now) (sym places) (feasible_to c.args.self.now (sections_of c.args.bundle.now) is))),
    )
