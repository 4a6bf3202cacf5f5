use Rattle.std.proofs.Common.{rules}
use Rattle.demand_oracle.proofs.Words.{leads_where_none}
use Rattle.demand_oracle.proofs.names.Names.stand_first.Goals as goal

pub returns : goal.returns
returns c =
    let same = leads_where_none c.args.self.now.before c.args.chosen.now c.args.word c.args.own (search rules) (search rules) c.requires.own in (
      λ yes_. same.0 (c.one_leads.ensures.0 yes_),
      λ leads. c.one_leads.ensures.1 (same.1 leads),
    )
