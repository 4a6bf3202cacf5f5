use Rattle.std.proofs.Common.{◌≡◌, subst}
use Rattle.std.specs.Prelude.{IfSome}
use Rattle.bundle_rules.specs.declared.bundle.Bundle.{Bundle}
use Rattle.bundle_rules.specs.Bundles.{sections_of}
use Rattle.task_board.specs.declared.data.AnswersData.{AnswersData}
use Rattle.price_board.specs.declared.terms.Terms.{Terms}
use Rattle.price_board.specs.Asked.{task_at}
use Rattle.price_board.specs.Terms.{demand_at}
use Rattle.price_board.proofs.Numbering.{right_answer}
use Rattle.price_board.proofs.answers.Answers.answer.Goals as goal

pub returns-clause-right : goal.returns-clause-right
returns-clause-right c =
    subst
    (λ (a : AnswersData Terms Bundle). IfSome c.answer.result (λ bundle. sections_of bundle ≡ demand_at a.terms (task_at a.terms c.args.number)))
    c.self.view_is (right_answer c.self.inside.answers.terms c.args.number c.answer.result c.answer.ensures.right)
