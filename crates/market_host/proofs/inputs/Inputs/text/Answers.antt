use Rattle.std.proofs.Common.{ap}
use Rattle.market_words.specs.Kinds.{limit_of}
use Rattle.market_host.proofs.Cursor.{takes_text}
use Rattle.market_host.proofs.inputs.Inputs.text.Goals as goal

pub returns-clause-taken : goal.returns-clause-taken
returns-clause-taken g c = λ form names texts start of front q has.
    takes_text g.H.Shelf form names texts start c.bytes.new.shelf c.bytes.new.self c.bytes.result of front
    (c.bytes.ensures.reads form names texts start (ap limit_of of) has)
