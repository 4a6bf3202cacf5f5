use Rattle.std.proofs.Common.{◌<◌, ◌≤◌, ◌+◌, ◌^◌, arith, rules, subst}
use Rattle.std.proofs.lemmas.Nat.{leading_top}
use Rattle.demand_workers.proofs.Allowing.{digits_least}
use Rattle.demand_workers.proofs.allowance.digits_of.Goals as goal

pub returns-clause-least : goal.returns-clause-least
returns-clause-least c digits fits =
    let small : c.args.number < 2 ^ 32 = search rules in
    let first = leading_top 32 c.args.number c.requires small in
    let least : first.0 + 1 ≤ digits = digits_least first.0 c.args.number digits first.2 fits in
    let sum = first.1 in
    omega (arith, least, sum)

pub returns-clause-enough : goal.returns-clause-enough
returns-clause-enough c =
    let small : c.args.number < 2 ^ 32 = search rules in
    let first = leading_top 32 c.args.number c.requires small in
    let sum = first.1 in
    subst (λ n. c.args.number < 2 ^ n) (omega (arith, sum)) first.3
