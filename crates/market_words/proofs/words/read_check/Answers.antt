use Rattle.std.proofs.Common.{rules, map}
use Rattle.std.specs.String.{string_bytes}
use Rattle.market_words.proofs.Calls.{check_call}
use Rattle.market_words.proofs.words.read_check.Goals as goal

pub returns-clause-form : goal.returns-clause-form
returns-clause-form c = check_call (map string_bytes c.args.more.now) c.call_of.result c.call_of.ensures (search rules)
