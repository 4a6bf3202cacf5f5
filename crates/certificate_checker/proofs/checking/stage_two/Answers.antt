use Rattle.std.proofs.Common.{◌∙◌, subst, arith}
use Rattle.held_seats.specs.Floors.{IsFloor}
use Rattle.certificate_checker.proofs.Composing.{ok_both}
use Rattle.certificate_checker.proofs.Turning.{stage_two_few, stage_two_fits, stage_two_held}
use Rattle.certificate_checker.proofs.checking.stage_two.Goals as goal

pub open-requires-clause-few : goal.open-requires-clause-few
open-requires-clause-few c =
    stage_two_few c.args.printed.now.terms.now c.args.printed.now.publication.now c.students.proved-index c.students.bundles.items c.deref-2.result.now c.args.printed.now.can
    c.deref-2.ensures.value c.students.invariant (omega arith)

pub open-requires-clause-below : goal.open-requires-clause-below
open-requires-clause-below c =
    stage_two_fits c.args.printed.now.terms.now c.args.printed.now.publication.now c.students.proved-index c.students.bundles.items c.deref-2.result.now c.deref.result.now c.args.printed.now.can
    c.deref.ensures.value c.deref-2.ensures.value c.students.invariant (omega arith)

pub returns : goal.returns
returns c =
    ok_both c.open.result
    (λ floor held is. record {
      is_floor = subst (λ seats. IsFloor seats floor) c.deref.ensures.value is;
      held =
          held
          ∙ stage_two_held c.args.printed.now.publication.now c.students.proved-index c.students.bundles.items c.deref-2.result.now c.deref-2.ensures.value
          c.students.invariant (omega arith);
    })
    c.open.ensures.held c.open.ensures.floor
