use Rattle.std.proofs.lemmas.Fmt.{decimal_injective}
use Rattle.market_units.proofs.laws.one_number_a_spelling.Goals as goal

pub returns : goal.returns
returns c = decimal_injective
