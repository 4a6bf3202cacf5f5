use Rattle.std.proofs.Common.{◌∙◌, ap}
use Rattle.std.proofs.lemmas.Result.{err_from_is_err_and}
use Rattle.market_words.specs.Kinds.{limit_of}
use Rattle.market_host.proofs.Cursor.{takes_next}
use Rattle.market_host.proofs.inputs.Inputs.next.Goals as goal

pub returns-in_err-bytes-clause-taken : goal.returns-in_err-bytes-clause-taken
returns-in_err-bytes-clause-taken g c =
    let p = err_from_is_err_and c.from_residual.result c.from_residual.ensures.1 in
    rw (p.1, p.2) (λ form names texts start of front q has.
    c.in_err-bytes.ensures.reads form names texts start (ap limit_of of ∙ g.met.I.Input.within) has)

pub returns-clause-taken : goal.returns-clause-taken
returns-clause-taken g c = λ form names texts start of front q has.
    let bytes = c.in_ok-bytes.bytes.items in
    let next = c.in_ok-bytes.ensures.reads form names texts start (ap limit_of of ∙ g.met.I.Input.within) has in
    takes_next g.H.Shelf form names texts start c.bytes.new.shelf c.bytes.new.self bytes next g.I.Input.kind g.I.Input.is_said_by (g.I.Input.is_faulty bytes)
    c.read_from.result of front (g.met.I.Input.grammar texts bytes) (g.met.I.Input.faults texts bytes) (rw c.deref.ensures.value at c.read_from.ensures.said)
    (rw c.deref.ensures.value at c.read_from.ensures.refused)
