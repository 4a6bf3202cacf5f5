use Rattle.std.proofs.Common.{ℕ, ◌+◌, List, [], map, sym, subst, refl, arith, rules}
use Rattle.std.proofs.lemmas.List.{length-map}
use Rattle.std.proofs.lemmas.Result.{err_from_is_err_and}
use Rattle.market_units.specs.Name.{name_bytes}
use Rattle.market_certificate.specs.Due.{UsedForm}
use Rattle.market_certificate.specs.Publications.{IsUsed}
use Rattle.market_certificate.specs.Texts.{used_line}
use Rattle.market_certificate.proofs.Blocks.{all_read, none_read, read_defect, read_more}
use Rattle.market_certificate.proofs.Joins.{name_stands}
use Rattle.market_certificate.proofs.Steps.{AreRead}
use Rattle.market_certificate.proofs.reading.blocks.read_seats.Goals as goal

pub names-init : goal.names-init
names-init c =
    subst (λ (values : List (ℕ × ℕ)). AreRead used_line IsUsed [] values c.args.lines.number c.args.lines.rest.now c.args.lines.number c.args.lines.rest.now)
    (sym c.in_ok-seats.ensures.items) (none_read used_line IsUsed [] c.args.lines.number c.args.lines.rest.now)

pub returns-in_err-used-clause-defect : goal.returns-in_err-used-clause-defect
returns-in_err-used-clause-defect c =
    let p = err_from_is_err_and c.from_residual-in_err-used.result c.from_residual-in_err-used.ensures.1 in
    let at = name_stands c.args.names.now c.args.names.now c.names.name-index _ c.name-item.result refl (omega arith) c.name-item.is in
    rw (p.1, p.2) (λ tables more. read_defect tables UsedForm used_line IsUsed (λ name value is. (value, is, refl)) (map name_bytes c.args.names.now) c.names.seats.items c.names.name-index (name_bytes c.name-item.result) c.args.lines.number c.args.lines.rest.now c.names.left.number c.names.left.rest.now
    c.in_err-used.field-0.0 c.names.invariant at.0 at.1 (c.in_err-used.ensures.defect tables) more)

pub names-preserved : goal.names-preserved
names-preserved c =
    let at = name_stands c.args.names.now c.args.names.now c.names.name-index _ c.name-item.result refl (omega arith) c.name-item.is in
    read_more used_line IsUsed (map name_bytes c.args.names.now) c.names.seats.items c.push.new.self.items c.names.name-index (c.names.name-index + 1)
    (name_bytes c.name-item.result) c.in_ok-used.used c.args.lines.number c.args.lines.rest.now c.names.left.number c.names.left.rest.now
    c.in_ok-used.behind.number c.in_ok-used.behind.rest.now c.names.invariant at.0 at.1 c.in_ok-used.ensures.range c.in_ok-used.ensures.line
    c.in_ok-push.ensures.items refl

pub returns : goal.returns
returns c =
    let read =
    all_read used_line IsUsed (map name_bytes c.args.names.now) c.names.seats.items c.names.name-index c.args.lines.number c.args.lines.rest.now
    c.names.left.number c.names.left.rest.now (omega (arith, length-map c.args.names.now name_bytes)) c.names.invariant in
    record { range = read.range; lines = read.takes; defect = search rules }
