use Rattle.std.proofs.Common.{subst, sym}
use Rattle.bundle_bounds.specs.Views.{data_of}
use Rattle.bundle_bounds.specs.Laws.{IsTakable}
use Rattle.demand_oracle.proofs.reach.followed.Goals as goal

pub returns-then-not-is_wanted-clause-champion : goal.returns-then-not-is_wanted-clause-champion
returns-then-not-is_wanted-clause-champion c = record { takable = c.requires; sums = c.args.step.now.summed_is }

pub may_take-requires : goal.may_take-requires
may_take-requires c = record { takable = c.requires; decided = c.args.step.now.summed_is.decided }

pub returns-then-not-may_take-clause-champion : goal.returns-then-not-may_take-clause-champion
returns-then-not-may_take-clause-champion c = record { takable = c.requires; sums = c.args.step.now.summed_is }

pub returns-clause-champion : goal.returns-clause-champion
returns-clause-champion c = record {
  takable =
      subst (IsTakable (data_of c.args.step.now.offer.now)) (sym c.with_place.ensures.chosen) (c.may_take.ensures.takable.0 c.if-not-may_take.false);
  sums = c.with_place.ensures.summed;
}
