use Rattle.std.proofs.Common.{rules, ◌∙◌}
use Rattle.std.specs.Prelude.{IsTrue}
use Rattle.demand_workers.proofs.question.Question.kept.Goals as goal

pub returns : goal.returns
returns c =
    let holds : IsTrue c.stays.result = search rules in
    c.earlier.ensures ∙ c.stays.ensures holds
