use Rattle.std.proofs.Common.{arith, map}
use Rattle.std.specs.String.{string_bytes}
use Rattle.market_edge.specs.SureShelves.{shown_by}
use Rattle.market_host.specs.Sights.{Sight}
use Rattle.market_host.proofs.SureEnds.{never_unread}
use Rattle.market_host.proofs.sure.sure_match.Goals as goal

pub returns-clause-read : goal.returns-clause-read
returns-clause-read g c = λ input is.
    let told = c.course_match.ensures.answered.written (λ other. cc) in
    let seen : Sight = record {
      held = (shown_by c.args.shelf.now).holds;
      before = λ name. 0;
      after = λ name. 0;
      begun = (shown_by c.course_match.new.shelf).is_begun;
      serves = (shown_by c.course_match.new.shelf).serves;
      left = (shown_by c.course_match.new.shelf).left;
    } in
    never_unread (map string_bytes c.args.words.now) seen c.course_match.result input told.0 told.1 (λ name rose. absurd (omega (arith, rose))) is

pub returns-clause-taken : goal.returns-clause-taken
returns-clause-taken g c = λ is. absurd (omega (arith, c.course_match.ensures.answered.sink_fault is))

pub returns-clause-complete : goal.returns-clause-complete
returns-clause-complete g c = λ can. c.course_match.ensures.answered.complete can (λ rose. absurd (omega (arith, rose)))
