use Rattle.std.proofs.Common.{arith}
use Rattle.market_certificate.proofs.NamesOf.{sections_more}
use Rattle.market_certificate.proofs.tables.section_names.Goals as goal

pub loop-section-preserved : goal.loop-section-preserved
loop-section-preserved c =
    sections_more c.args.catalog.now.sections c.loop-section.names.items c.push.new.self.items c.loop-section.section c.name.result (omega arith)
    c.loop-section.invariant c.name.ensures c.in_ok-push.ensures.items
