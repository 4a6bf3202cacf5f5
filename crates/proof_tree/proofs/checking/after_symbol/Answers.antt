use Rattle.std.proofs.Common.{sym, ◌∙◌}
use Rattle.std.proofs.lemmas.Bool.{true≢false}
use Rattle.proof_tree.proofs.Following.{other_stuck}
use Rattle.proof_tree.proofs.checking.after_symbol.Goals as goal

pub returns-then-is_canonical-clause-stuck : goal.returns-then-is_canonical-clause-stuck
returns-then-is_canonical-clause-stuck c =
    other_stuck c.in-Some.read c.args.sign c.args.rest.now c.in-Some.later.now c.in-Some.ensures.some
    (λ same. true≢false (sym (c.is_same.ensures.1 same) ∙ c.if-is_same.false))
