use Rattle.std.proofs.Common.{ap, length}
use Rattle.std.proofs.lemmas.Result.{err_from_is_err_and}
use Rattle.market_words.specs.Kinds.{limit_of}
use Rattle.market_host.proofs.Cursor.{items_few, takes_stream}
use Rattle.market_host.proofs.SessionsRead.{is_session}
use Rattle.market_host.proofs.inputs.Inputs.stream.Goals as goal

pub returns-in_err-bytes-clause-taken : goal.returns-in_err-bytes-clause-taken
returns-in_err-bytes-clause-taken g c =
    let p = err_from_is_err_and c.from_residual.result c.from_residual.ensures.1 in
    rw (p.1, p.2) (λ form names texts start from left has.
    c.in_err-bytes.ensures.reads form names texts start (ap limit_of (is_session form (length texts) from)) has)

pub returns-clause-taken : goal.returns-clause-taken
returns-clause-taken g c = λ form names texts start from left has.
    let bytes = c.in_ok-bytes.bytes.items in
    takes_stream g.H.Shelf form names texts start c.bytes.new.shelf c.bytes.new.self bytes
    (c.in_ok-bytes.ensures.reads form names texts start (ap limit_of (is_session form (length texts) from)) has) g.S.StreamItem.is_item_of c.args.room
    c.items_in.result from left (rw c.deref.ensures.value at c.items_in.ensures.items) (rw c.deref.ensures.value at c.items_in.ensures.surplus)

pub returns-clause-few : goal.returns-clause-few
returns-clause-few g c =
    items_few g.S.StreamItem.is_item_of c.in_ok-bytes.bytes.items c.args.room c.items_in.result (rw c.deref.ensures.value at c.items_in.ensures.items)
