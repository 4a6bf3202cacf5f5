use Rattle.std.proofs.Common.{◌<◌, length, below_more, arith}
use Rattle.demand_api.specs.Views.{data_of}
use Rattle.market_certificate.specs.Views.{publication_of}
use Rattle.certificate_checker.specs.Findings.{HoldsToBundles, IsFirstIn}
use Rattle.certificate_checker.specs.Views.{terms_of}
use Rattle.certificate_checker.proofs.Bundling.{first_bundle}
use Rattle.certificate_checker.proofs.Composing.{answered_wrong}
use Rattle.certificate_checker.proofs.Reading.{HasLengths, fewer, lengths}
use Rattle.certificate_checker.proofs.bundles.check_bundles.Goals as goal

pub check_bundle-requires-clause-student : goal.check_bundle-requires-clause-student
check_bundle-requires-clause-student c =
    let terms = c.args.printed.now.terms.now in
    let long : HasLengths terms c.args.printed.now.publication.now = lengths terms c.args.printed.now.publication.now c.args.printed.now.can in
    omega arith

pub returns-in_err-check_bundle : goal.returns-in_err-check_bundle
returns-in_err-check_bundle c =
    let terms = c.args.printed.now.terms.now in
    let long : HasLengths terms c.args.printed.now.publication.now = lengths terms c.args.printed.now.publication.now c.args.printed.now.can in
    let low : c.loop-student.student < length (data_of terms.crowd).students = omega arith in
    answered_wrong (HoldsToBundles (terms_of terms) (publication_of c.args.printed.now.publication.now))
    (IsFirstIn (terms_of terms) (publication_of c.args.printed.now.publication.now)) c.from_residual.result c.in_err-check_bundle.field-0.0
    c.from_residual.ensures.1
    (first_bundle (terms_of terms) (publication_of c.args.printed.now.publication.now) c.loop-student.student c.in_err-check_bundle.field-0.0 c.requires.before low
    c.loop-student.invariant c.in_err-check_bundle.ensures.wrong)

pub loop-student-preserved : goal.loop-student-preserved
loop-student-preserved c = below_more _ _ c.loop-student.invariant c.in_ok-check_bundle.ensures.ok

pub returns : goal.returns
returns c =
    let terms = c.args.printed.now.terms.now in
    let long : HasLengths terms c.args.printed.now.publication.now = lengths terms c.args.printed.now.publication.now c.args.printed.now.can in
    ((c.requires.before, fewer _ c.loop-student.student _ (omega arith) c.loop-student.invariant), tt)
