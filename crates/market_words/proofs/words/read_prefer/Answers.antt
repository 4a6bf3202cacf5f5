use Rattle.std.proofs.Common.{rules, map}
use Rattle.std.specs.String.{string_bytes}
use Rattle.market_words.proofs.Calls.{prefer_call}
use Rattle.market_words.proofs.words.read_prefer.Goals as goal

pub returns-clause-form : goal.returns-clause-form
returns-clause-form c = prefer_call (map string_bytes c.args.more.now) c.call_of.result c.call_of.ensures (search rules)
