use Rattle.std.proofs.Common.{sym, subst}
use Rattle.proof_tree.specs.Alphabets.{AreTreeBytes}
use Rattle.market_certificate.specs.Views.{seen}
use Rattle.market_certificate.proofs.Unformed.{no_proved, proved_parts}
use Rattle.market_certificate.proofs.reading.forms.proved_in.Goals as goal

pub returns-in_err-names-clause-none : goal.returns-in_err-names-clause-none
returns-in_err-names-clause-none c =
    rw c.from_residual.ensures (λ proved is. no_proved (seen c.args.tables.now).sections c.args.bytes.now c.in_err-names.ensures.none proved)

pub returns-in_err-bundle-clause-none : goal.returns-in_err-bundle-clause-none
returns-in_err-bundle-clause-none c =
    rw c.from_residual-in_err-bundle.ensures (λ proved is e.
    let parts =
    proved_parts (seen c.args.tables.now).sections c.args.bytes.now c.in_ok-names.names.now c.in_ok-names.tree.now proved c.args.tables.now.are.sections is
    c.in_ok-names.ensures.found c.in_ok-names.ensures.first e in
    c.in_err-bundle.ensures.none proved.bundle is.bundle parts.0)

pub returns-then-not-is_tree-clause-none : goal.returns-then-not-is_tree-clause-none
returns-then-not-is_tree-clause-none c = λ proved is e.
    let parts =
    proved_parts (seen c.args.tables.now).sections c.args.bytes.now c.in_ok-names.names.now c.in_ok-names.tree.now proved c.args.tables.now.are.sections is
    c.in_ok-names.ensures.found c.in_ok-names.ensures.first e in
    let tree = c.is_tree.ensures.1 (subst AreTreeBytes (sym parts.1) is.tree) in
    absurd (cc (c.if-not-is_tree.true, tree))
