use Rattle.std.proofs.Common.{map}
use Rattle.std.specs.Arc.{arc_value}
use Rattle.certificate_checker.proofs.Composing.{ok_then}
use Rattle.fairness_audit.specs.Views.{row_of}
use Rattle.fairness_audit.proofs.Joining.{among_tables, is_audited}
use Rattle.fairness_audit.proofs.published.audit_accepted.Goals as goal

pub put_rows-requires-clause-settled : goal.put_rows-requires-clause-settled
put_rows-requires-clause-settled g c =
    rw c.deref.ensures.value
    (among_tables c.args.market.now.catalog.now c.args.market.now.roll.now c.args.accepted.publication c.args.accepted.crowd (arc_value c.in_ok-crowd.crowd)
    c.in_ok-crowd.ensures.ok c.requires.checked (map row_of c.in_ok-first.first.items) c.in_ok-first.ensures.among)

pub put_rows-requires-clause-last : goal.put_rows-requires-clause-last
put_rows-requires-clause-last g c =
    rw c.deref-2.ensures.value
    (among_tables c.args.market.now.catalog.now c.args.market.now.roll.now c.args.accepted.publication c.args.accepted.crowd (arc_value c.in_ok-crowd.crowd)
    c.in_ok-crowd.ensures.ok c.requires.checked (map row_of c.in_ok-last.last.items) c.in_ok-last.ensures.among)

pub returns : goal.returns
returns g c =
    ok_then c.put_rows.result (λ text written.
    is_audited c.args.market.now.catalog.now c.args.market.now.roll.now c.args.accepted.publication c.args.accepted.crowd (arc_value c.in_ok-crowd.crowd) c.in_ok-crowd.ensures.ok
    c.requires.checked c.in_ok-settled.settled.items
    (map row_of c.in_ok-first.first.items) (map row_of c.in_ok-last.last.items) text.items c.in_ok-settled.ensures c.in_ok-first.ensures.rows
    c.in_ok-last.ensures.rows
    (rw (c.deref.ensures.value, c.deref-2.ensures.value) at written)) c.put_rows.ensures
