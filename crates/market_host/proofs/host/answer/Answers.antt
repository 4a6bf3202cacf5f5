use Rattle.std.proofs.Common.{[]}
use Rattle.std.specs.Prelude.{Err, Ok}
use Rattle.std.proofs.lemmas.Result.{err_from_is_err_and}
use Rattle.market_words.specs.declared.words.Form.TheVariants.{Audit, Check, Demand, Explain, Hall, Make, Prefer, Quote, Run}
use Rattle.market_words.specs.Inputs.{names_in}
use Rattle.market_host.specs.declared.trouble.Trouble.TheVariants.{OutOfMemory}
use Rattle.market_host.specs.Works.{IsAnswer}
use Rattle.market_host.proofs.Taking.{memory_stops, none_taken}
use Rattle.market_host.proofs.Works.{answered_alone, answered_for, known_call}
use Rattle.market_host.proofs.host.answer.Goals as goal

pub quote-requires : goal.quote-requires
quote-requires g c = record { named = known_call c.args.call.form (Quote c.in-Quote.name c.in-Quote.credits c.in-Quote.courses) c.args.call c.in-Quote.is c.requires }

pub returns-in-Quote : goal.returns-in-Quote
returns-in-Quote g c =
    answered_for g.H.Shelf c.args.call.form (Quote c.in-Quote.name c.in-Quote.credits c.in-Quote.courses) _ c.args.shelf.now c.quote.new.shelf c.quote.result c.in-Quote.is c.quote.ensures

pub check-requires : goal.check-requires
check-requires g c = record { named = known_call c.args.call.form Check c.args.call c.in-Check.is c.requires }

pub returns-in-Check : goal.returns-in-Check
returns-in-Check g c =
    answered_for g.H.Shelf c.args.call.form Check _ c.args.shelf.now c.check.new.shelf c.check.result c.in-Check.is c.check.ensures

pub explain-requires : goal.explain-requires
explain-requires g c = record { named = known_call c.args.call.form (Explain c.in-Explain.student c.in-Explain.section) c.args.call c.in-Explain.is c.requires }

pub returns-in-Explain : goal.returns-in-Explain
returns-in-Explain g c =
    answered_for g.H.Shelf c.args.call.form (Explain c.in-Explain.student c.in-Explain.section) _ c.args.shelf.now c.explain.new.shelf c.explain.result c.in-Explain.is c.explain.ensures

pub hall-requires-clause-named : goal.hall-requires-clause-named
hall-requires-clause-named g c κs within = known_call c.args.call.form Hall c.args.call c.in-Hall.is c.requires

pub returns-in-Hall : goal.returns-in-Hall
returns-in-Hall g c =
    answered_for g.H.Shelf c.args.call.form Hall _ c.args.shelf.now c.hall.new.shelf c.hall.result c.in-Hall.is c.hall.ensures

pub audit-requires-clause-named : goal.audit-requires-clause-named
audit-requires-clause-named g c κs within = known_call c.args.call.form (Audit c.in-Audit.workers) c.args.call c.in-Audit.is c.requires

pub returns-in-Audit : goal.returns-in-Audit
returns-in-Audit g c =
    answered_for g.H.Shelf c.args.call.form (Audit c.in-Audit.workers) _ c.args.shelf.now c.audit.new.shelf c.audit.result c.in-Audit.is c.audit.ensures

pub prefer-requires-clause-named : goal.prefer-requires-clause-named
prefer-requires-clause-named g c κs within = known_call c.args.call.form Prefer c.args.call c.in-Prefer.is c.requires

pub returns-in-Prefer : goal.returns-in-Prefer
returns-in-Prefer g c =
    answered_for g.H.Shelf c.args.call.form Prefer _ c.args.shelf.now c.prefer.new.shelf c.prefer.result c.in-Prefer.is c.prefer.ensures

pub demand-requires-clause-named : goal.demand-requires-clause-named
demand-requires-clause-named g c κs within = known_call c.args.call.form (Demand c.in-Demand.workers) c.args.call c.in-Demand.is c.requires

pub returns-in-Demand : goal.returns-in-Demand
returns-in-Demand g c =
    answered_for g.H.Shelf c.args.call.form (Demand c.in-Demand.workers) _ c.args.shelf.now c.demand.new.shelf c.demand.result c.in-Demand.is c.demand.ensures

pub run-requires-clause-named : goal.run-requires-clause-named
run-requires-clause-named g c κs within = known_call c.args.call.form (Run c.in-Run.workers) c.args.call c.in-Run.is c.requires

pub returns-in-Run : goal.returns-in-Run
returns-in-Run g c =
    answered_for g.H.Shelf c.args.call.form (Run c.in-Run.workers) _ c.args.shelf.now c.run.new.shelf c.run.result c.in-Run.is c.run.ensures

pub returns-in_err-make-in-Make : goal.returns-in_err-make-in-Make
returns-in_err-make-in-Make g c =
    let p = err_from_is_err_and c.from_residual.result c.from_residual.ensures.1 in
    let form = Make c.in-Make.workers c.in-Make.seed c.in-Make.students c.in-Make.sections c.in-Make.accept in
    let known = known_call c.args.call.form form c.args.call c.in-Make.is c.requires in
    rw (p.1, p.2) (answered_alone g.H.Shelf c.args.call.form form (names_in c.args.call) c.args.shelf.now c.args.shelf.now (Err OutOfMemory) c.in-Make.is
    known.1.named (memory_stops g.H.Shelf form [] [] c.args.shelf.now c.args.shelf.now (none_taken g.H.Shelf form c.args.shelf.now)))

pub returns-in_ok-make-in-Make : goal.returns-in_ok-make-in-Make
returns-in_ok-make-in-Make g c =
    let form = Make c.in-Make.workers c.in-Make.seed c.in-Make.students c.in-Make.sections c.in-Make.accept in
    let known = known_call c.args.call.form form c.args.call c.in-Make.is c.requires in
    let ended = c.in_ok-make-in-Make.field-0 in
    let answer : IsAnswer g.H.Shelf form [] c.args.shelf.now c.args.shelf.now (Ok ended) =
    ([], none_taken g.H.Shelf form c.args.shelf.now, c.in_ok-make-in-Make.ensures) in
    answered_alone g.H.Shelf c.args.call.form form (names_in c.args.call) c.args.shelf.now c.args.shelf.now (Ok ended) c.in-Make.is known.1.named answer
