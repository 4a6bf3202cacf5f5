use Rattle.std.proofs.Common.{rules, ◌≡◌, ◌≤◌, ◌+◌, ◌-◌, length, ap, arith}
use Rattle.proof_tree.proofs.Stepping.{next_waits}
use Rattle.proof_tree.proofs.walk.Walk.take.Goals as goal

pub returns-clause-some : goal.returns-clause-some
returns-clause-some c =
    let whole : length c.args.self.now.waiting ≡ 9 = search rules in
    let few : c.args.self.now.count ≤ 9 = c.requires in
    rw (← c.index-self-self.is)
    (next_waits c.args.self.now.waiting c.args.self.now.count c.index-self-self.result (omega arith) (omega arith) c.index-self-self.is)

pub returns-clause-one : goal.returns-clause-one
returns-clause-one c =
    let one_more : c.args.self.now.count ≡ (c.args.self.now.count - 1) + 1 = omega arith in
    ap (λ count. record c.args.self.now { count = count }) one_more
