use Rattle.std.proofs.Common.{get_or, arith}
use Rattle.market_units.specs.Name.{name_bytes}
use Rattle.demand_text.proofs.LineTexts.{count_at, count_more}
use Rattle.demand_text.proofs.text.put_counts.Goals as goal

pub sections-preserved : goal.sections-preserved
sections-preserved c =
    count_more c.args.catalog.now.sections c.args.counts.now c.sections.section (name_bytes c.name-name.result) (get_or c.args.counts.now c.from.result 0)
    c.args.text.now.items c.sections.text.items c.put_count.new.text.items
    c.requires (omega arith) c.name-name.ensures (count_at c.args.counts.now c.sections.section c.from.result (omega arith) c.from.ensures) c.sections.invariant
    c.in_ok-put_count.ensures
