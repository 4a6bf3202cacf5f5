use Rattle.std.proofs.Common.{arith}
use Rattle.market_words.proofs.WordLists.{verb_first}
use Rattle.market_words.proofs.words.read_words.Goals as goal

pub returns-clause-form : goal.returns-clause-form
returns-clause-form c = rw (verb_first c.args.words.now c.verb-item.result (omega arith) c.verb-item.is) (rw c.as_str.ensures.value at c.read_form.ensures.form)

pub returns-clause-none : goal.returns-clause-none
returns-clause-none c = rw (verb_first c.args.words.now c.verb-item.result (omega arith) c.verb-item.is) (rw c.as_str.ensures.value at c.read_form.ensures.none)
