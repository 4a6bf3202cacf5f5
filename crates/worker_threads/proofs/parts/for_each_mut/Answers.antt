use Rattle.std.proofs.Common.{◌+◌, refl, subst, arith}
use lib.ListN.{get_or}
use Rattle.std.specs.Fork.{ChangesAt}
use Rattle.worker_threads.proofs.parts.for_each_mut.Goals as goal

pub returns : goal.returns
returns g c i d l =
    let xs = c.args.s.now in let ys = c.parts_from.new.s in
    (refl, subst (λ k. ChangesAt g.F.Fn c.args.f.now k (get_or xs i d) (get_or ys i d)) {x = 0 + i} (omega arith) (c.parts_from.ensures.each i d l))
