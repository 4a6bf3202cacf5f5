use Rattle.bundle_rules.specs.Bundles.{sections_of}
use Rattle.explain_desk.proofs.Offering.{all_offered}
use Rattle.explain_desk.proofs.checking.check_forced.Goals as goal

pub check_forced-requires-clause-champion : goal.check_forced-requires-clause-champion
check_forced-requires-clause-champion c = record {
  feasible = c.requires.feasible;
  affordable = c.requires.affordable;
  within =
      all_offered c.args.menu.now c.args.sections (sections_of c.args.champion.now) c.full-all.result c.full-all.ensures c.requires.offer.within
      c.requires.feasible.rated;
}
