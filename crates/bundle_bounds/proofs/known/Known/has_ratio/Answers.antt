use Rattle.std.proofs.Common.{◌*◌, ◌≤◌, arith}
use Rattle.std.proofs.lemmas.Bool.Decides.{nat_tests}
use Rattle.bundle_bounds.proofs.Knowing.{known_above}
use Rattle.bundle_bounds.proofs.known.Known.has_ratio.Goals as goal

pub returns : goal.returns
returns c = λ is some base limit rest resource all known.
    known_above base limit rest resource all c.args.self.now c.args.worth c.args.taken known some c.requires.worth
    (let above : c.args.self.now.high * c.args.taken ≤ c.args.worth = grind (arith, nat_tests) in above)
