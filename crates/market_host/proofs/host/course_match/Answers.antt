use Rattle.std.proofs.Common.{rules, map, refl}
use Rattle.std.specs.String.{string_bytes}
use Rattle.market_host.specs.Endings.{bytes_of}
use Rattle.market_host.specs.Lines.{line_of, usage_line}
use Rattle.market_host.specs.Sights.{sight, writing}
use Rattle.market_host.specs.Statuses.{status_of}
use Rattle.market_host.specs.Traces.{trace}
use Rattle.market_host.specs.declared.status.Status.TheVariants.{Usage}
use Rattle.market_host.proofs.Answering.{is_answered}
use Rattle.market_host.proofs.ReadOut.{stopped_outcome}
use Rattle.market_host.proofs.TraceFacts.{none_used, stopped_used}
use Rattle.market_host.proofs.Works.{ended_apart, ended_outcome, ended_used, stopped_so, used_until}
use Rattle.market_host.proofs.host.course_match.Goals as goal

pub returns-in_default-clause-answered : goal.returns-in_default-clause-answered
returns-in_default-clause-answered g c =
    is_answered (map string_bytes c.args.words.now) (sight g.H.Shelf c.args.shelf.now c.args.shelf.now)
    (trace g.H.Shelf c.args.shelf.now c.args.shelf.now) (writing g.K.Sink c.args.sink.now c.finish.new.sink) c.finish.result Usage usage_line
    (search rules, refl) (none_used g.H.Shelf c.args.shelf.now) c.finish.ensures.status
    (rw (c.as_bytes.ensures, c.usage.ensures) at c.finish.ensures.written) c.finish.ensures.cause
    (rw (c.as_bytes.ensures, c.usage.ensures) at c.finish.ensures.front) c.finish.ensures.uncounted

pub returns-in-Ok-clause-answered : goal.returns-in-Ok-clause-answered
returns-in-Ok-clause-answered g c =
    is_answered (map string_bytes c.args.words.now) (sight g.H.Shelf c.args.shelf.now c.answer.new.shelf)
    (trace g.H.Shelf c.args.shelf.now c.answer.new.shelf) (writing g.K.Sink c.args.sink.now c.finish-in-Ok.new.sink) c.finish-in-Ok.result
    c.in-Ok.ended.status (bytes_of c.in-Ok.ended.output)
    (ended_outcome g.H.Shelf c.in-Some.call.form c.args.shelf.now c.answer.new.shelf (map string_bytes c.args.words.now) c.in-Some.call c.in-Some.ensures.form c.in-Ok.ended.status
    (bytes_of c.in-Ok.ended.output) c.in-Ok.ensures)
    (ended_used g.H.Shelf c.in-Some.call.form c.args.shelf.now c.answer.new.shelf (map string_bytes c.args.words.now) c.in-Some.call c.in-Some.ensures.form c.in-Ok.ended.status
    (bytes_of c.in-Ok.ended.output) c.in-Ok.ensures)
    c.finish-in-Ok.ensures.status
    (rw c.as_bytes-in-Ok.ensures at c.finish-in-Ok.ensures.written) c.finish-in-Ok.ensures.cause
    (rw c.as_bytes-in-Ok.ensures at c.finish-in-Ok.ensures.front) c.finish-in-Ok.ensures.uncounted

pub returns-in-Err-clause-answered : goal.returns-in-Err-clause-answered
returns-in-Err-clause-answered g c =
    let words = map string_bytes c.args.words.now in
    let seen = sight g.H.Shelf c.args.shelf.now c.answer.new.shelf in
    let begun = trace g.H.Shelf c.args.shelf.now c.answer.new.shelf in
    is_answered words seen begun (writing g.K.Sink c.args.sink.now c.finish-in-Err.new.sink) c.finish-in-Err.result
    (status_of c.in-Err.trouble) (line_of c.in-Err.trouble)
    (stopped_outcome words seen c.in-Err.trouble (line_of c.in-Err.trouble)
    (stopped_so g.H.Shelf c.in-Some.call.form c.args.shelf.now c.answer.new.shelf words c.in-Some.call c.in-Some.ensures.form c.in-Err.trouble c.in-Err.ensures))
    (stopped_used words begun c.in-Err.trouble
    (used_until g.H.Shelf c.in-Some.call.form c.args.shelf.now c.answer.new.shelf words c.in-Some.call c.in-Some.ensures.form c.in-Err.trouble c.in-Err.ensures))
    (rw c.status.ensures at c.finish-in-Err.ensures.status)
    (rw (c.as_bytes-in-Err.ensures, c.line_for.ensures) at c.finish-in-Err.ensures.written) c.finish-in-Err.ensures.cause
    (rw (c.as_bytes-in-Err.ensures, c.line_for.ensures) at c.finish-in-Err.ensures.front) c.finish-in-Err.ensures.uncounted

pub returns-in-Ok-clause-holds : goal.returns-in-Ok-clause-holds
returns-in-Ok-clause-holds g c = c.in-Ok.ensures.1.kept.holds

pub returns-in-Ok-clause-later : goal.returns-in-Ok-clause-later
returns-in-Ok-clause-later g c = c.in-Ok.ensures.1.kept.later

pub returns-in-Err-clause-holds : goal.returns-in-Err-clause-holds
returns-in-Err-clause-holds g c = c.in-Err.ensures.kept.holds

pub returns-in-Err-clause-later : goal.returns-in-Err-clause-later
returns-in-Err-clause-later g c = c.in-Err.ensures.kept.later

pub finish-requires-in-Ok : goal.finish-requires-in-Ok
finish-requires-in-Ok g c = ended_apart c.in-Some.call.form c.in-Ok.ensures.0 c.in-Ok.ended.status (bytes_of c.in-Ok.ended.output) c.in-Ok.ensures.2
