use Rattle.market_units.specs.EqualNames.{same_name}
use Rattle.market_units.proofs.laws.equal_bytes_equal_names.Goals as goal

pub returns : goal.returns
returns c = same_name
