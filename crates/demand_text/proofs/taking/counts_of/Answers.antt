use Rattle.std.proofs.Common.{◌≤◌}
use Rattle.std.proofs.lemmas.List.Elements.{All-push}
use Rattle.demand_text.proofs.TakenFacts.{counts_more}
use Rattle.demand_text.proofs.taking.counts_of.Goals as goal

pub sections-preserved : goal.sections-preserved
sections-preserved c = record {
  each =
      counts_more c.args.held.now.bundles c.sections.section c.count.result c.sections.counts.items c.push.new.self.items c.sections.invariant.each
      c.in_ok-push.ensures.items c.count.ensures.value;
  few = rw c.in_ok-push.ensures.items (All-push (λ count. count ≤ 2000) c.sections.counts.items c.count.result c.sections.invariant.few c.count.ensures.few);
}
