use Rattle.std.proofs.Common.{◌∙◌, sym}
use Rattle.std.proofs.lemmas.List.{length-map}
use Rattle.market_certificate.specs.Views.{publication_of}
use Rattle.certificate_checker.proofs.Composing.{allocation_is}
use Rattle.certificate_checker.proofs.Reading.{HasLengths, lengths}
use Rattle.certificate_checker.proofs.Turning.{after_length}
use Rattle.bundle_rules.specs.Bundles.{sections_of}
use Rattle.certificate_checker.proofs.checking.check_printed.Goals as goal

pub check_used-requires-clause-floor : goal.check_used-requires-clause-floor
check_used-requires-clause-floor c =
    let terms = c.args.printed.now.terms.now in
    let p = publication_of c.args.printed.now.publication.now in
    let long : HasLengths terms c.args.printed.now.publication.now = lengths terms c.args.printed.now.publication.now c.args.printed.now.can in
    record {
      is_floor = c.in_ok-check_turns.ensures.floor.is_floor;
      held =
          c.in_ok-check_turns.ensures.floor.held
          ∙ sym
          (allocation_is p _ (length-map c.args.printed.now.publication.now.allocation.items sections_of ∙ long.allocation ∙ sym long.students)
          (after_length terms c.args.printed.now.publication.now p.turns c.args.printed.now.can ∙ sym long.students) c.in_ok-check_allocation.ensures.0.1);
    }
