use Rattle.std.proofs.Common.{◌≡◌, map}
use Rattle.price_neighbours.specs.Distinct.{once, same_prices}
use Rattle.price_neighbours.proofs.Distinctness.{amounts, vectors_of, keys_of}
use Rattle.price_neighbours.proofs.distinct.once.Given as goal

abbrev pub invariant-loop-vector : goal.invariant-loop-vector
invariant-loop-vector l = (vectors_of l.kept.items ≡ once same_prices (vectors_of l.yielded)) × (keys_of l.seen.keys ≡ map amounts (vectors_of l.kept.items))
