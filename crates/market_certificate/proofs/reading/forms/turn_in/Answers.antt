use Rattle.std.proofs.Common.{sym, ◌∙◌, arith}
use Rattle.market_certificate.specs.Views.{seen}
use Rattle.market_certificate.proofs.Unformed.{no_name, no_pass, pass_parts, turn_parts}
use Rattle.std.proofs.lemmas.Fmt.{decimal_injective}
use Rattle.market_certificate.proofs.reading.forms.turn_in.Goals as goal

pub returns-in_err-digits-clause-none : goal.returns-in_err-digits-clause-none
returns-in_err-digits-clause-none c =
    rw c.from_residual-in_err-digits.ensures
    (no_pass (seen c.args.tables.now) c.args.line.now c.in_ok-rest.rest.now c.in_ok-rest.ensures.some c.in_err-digits.ensures.none)

pub returns-in_err-pass-clause-none : goal.returns-in_err-pass-clause-none
returns-in_err-pass-clause-none c =
    rw c.from_residual-in_err-pass.ensures (λ has.
    let p =
    pass_parts (seen c.args.tables.now) c.args.line.now c.in_ok-rest.rest.now c.in_ok-digits.digits.now c.in_ok-digits.behind_pass.now has.0 has.1
    c.in_ok-rest.ensures.some c.in_ok-digits.ensures.found c.in_ok-digits.ensures.first has.2 in
    c.in_err-pass.ensures.none has.0.pass (omega (arith, has.1.most)) p.0)

pub returns-in_err-name-clause-none : goal.returns-in_err-name-clause-none
returns-in_err-name-clause-none c =
    rw c.from_residual-in_err-name.ensures
    (no_name (seen c.args.tables.now) c.args.line.now c.in_ok-rest.rest.now c.in_ok-digits.digits.now c.in_ok-digits.behind_pass.now
    c.in_ok-rest.ensures.some c.in_ok-digits.ensures.found c.in_ok-digits.ensures.first c.in_err-name.ensures.none)

pub returns-in_err-student-clause-none : goal.returns-in_err-student-clause-none
returns-in_err-student-clause-none c =
    rw c.from_residual-in_err-student.ensures (λ has.
    let p =
    turn_parts (seen c.args.tables.now) c.args.line.now c.in_ok-rest.rest.now c.in_ok-digits.digits.now c.in_ok-digits.behind_pass.now c.in_ok-name.name.now
    c.in_ok-name.proved.now has.0 c.args.tables.now.are has.1 c.in_ok-rest.ensures.some c.in_ok-digits.ensures.found c.in_ok-digits.ensures.first
    c.in_ok-name.ensures.found c.in_ok-name.ensures.first has.2 in
    c.in_err-student.ensures.none has.0.student has.1.student (sym p.student))

pub returns-in_err-bundle-clause-none : goal.returns-in_err-bundle-clause-none
returns-in_err-bundle-clause-none c =
    rw c.from_residual-in_err-bundle.ensures (λ has.
    let p =
    turn_parts (seen c.args.tables.now) c.args.line.now c.in_ok-rest.rest.now c.in_ok-digits.digits.now c.in_ok-digits.behind_pass.now c.in_ok-name.name.now
    c.in_ok-name.proved.now has.0 c.args.tables.now.are has.1 c.in_ok-rest.ensures.some c.in_ok-digits.ensures.found c.in_ok-digits.ensures.first
    c.in_ok-name.ensures.found c.in_ok-name.ensures.first has.2 in
    c.in_err-bundle.ensures.none (record { bundle = has.0.bundle; tree = has.0.tree }) (record { bundle = has.1.bundle; tree = has.1.tree }) p.proved)

pub returns-then-pass-eq0-clause-none : goal.returns-then-pass-eq0-clause-none
returns-then-pass-eq0-clause-none c = λ has.
    let p =
    turn_parts (seen c.args.tables.now) c.args.line.now c.in_ok-rest.rest.now c.in_ok-digits.digits.now c.in_ok-digits.behind_pass.now c.in_ok-name.name.now
    c.in_ok-name.proved.now has.0 c.args.tables.now.are has.1 c.in_ok-rest.ensures.some c.in_ok-digits.ensures.found c.in_ok-digits.ensures.first
    c.in_ok-name.ensures.found c.in_ok-name.ensures.first has.2 in
    let passes = decimal_injective c.in_ok-pass.pass has.0.pass (omega arith) has.1.most (sym c.in_ok-pass.ensures.spelled ∙ p.pass) in
    omega (arith, has.1.least, passes, c.if-pass-eq0.true)
