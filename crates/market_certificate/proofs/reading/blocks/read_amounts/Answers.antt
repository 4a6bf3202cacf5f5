use Rattle.std.proofs.Common.{ℕ, ◌≤◌, ◌+◌, List, [], map, ap, sym, subst, refl, arith, rules}
use Rattle.std.proofs.lemmas.List.{length-map}
use Rattle.std.proofs.lemmas.Result.{err_from_is_err_and}
use Rattle.market_units.specs.Name.{name_bytes}
use Rattle.market_certificate.specs.Due.{AmountForm}
use Rattle.market_certificate.specs.Texts.{amount_line, most_of}
use Rattle.market_certificate.proofs.Blocks.{all_read, none_read, read_defect, read_more}
use Rattle.market_certificate.proofs.Joins.{mapped_push, name_stands}
use Rattle.market_certificate.proofs.Steps.{AreRead}
use Rattle.market_certificate.proofs.reading.blocks.read_amounts.Goals as goal

pub names-init : goal.names-init
names-init c =
    subst
    (λ (values : List (ℕ)). AreRead (amount_line c.args.kind) (λ tokens. tokens ≤ most_of c.args.kind) [] values c.args.lines.number c.args.lines.rest.now
    c.args.lines.number c.args.lines.rest.now)
    (sym (ap (map (λ tokens. tokens.0)) c.in_ok-amounts.ensures.items))
    (none_read (amount_line c.args.kind) (λ tokens. tokens ≤ most_of c.args.kind) [] c.args.lines.number c.args.lines.rest.now)

pub returns-in_err-tokens-clause-defect : goal.returns-in_err-tokens-clause-defect
returns-in_err-tokens-clause-defect c =
    let p = err_from_is_err_and c.from_residual-in_err-tokens.result c.from_residual-in_err-tokens.ensures.1 in
    let at = name_stands c.args.names.now c.args.names.now c.names.name-index _ c.name-item.result refl (omega arith) c.name-item.is in
    rw (p.1, p.2) (λ tables more. read_defect tables (AmountForm c.args.kind) (amount_line c.args.kind) (λ tokens. tokens ≤ most_of c.args.kind) (λ name value is. (value, is, refl)) (map name_bytes c.args.names.now) (map (λ tokens. tokens.0) c.names.amounts.items) c.names.name-index (name_bytes c.name-item.result) c.args.lines.number c.args.lines.rest.now c.names.left.number c.names.left.rest.now
    c.in_err-tokens.field-0.0 c.names.invariant at.0 at.1 (c.in_err-tokens.ensures.defect tables) more)

pub names-preserved : goal.names-preserved
names-preserved c =
    let at = name_stands c.args.names.now c.args.names.now c.names.name-index _ c.name-item.result refl (omega arith) c.name-item.is in
    read_more (amount_line c.args.kind) (λ tokens. tokens ≤ most_of c.args.kind) (map name_bytes c.args.names.now)
    (map (λ tokens. tokens.0) c.names.amounts.items) (map (λ tokens. tokens.0) c.push.new.self.items) c.names.name-index (c.names.name-index + 1)
    (name_bytes c.name-item.result) c.in_ok-tokens.tokens.0 c.args.lines.number c.args.lines.rest.now c.names.left.number c.names.left.rest.now
    c.in_ok-tokens.behind.number c.in_ok-tokens.behind.rest.now c.names.invariant at.0 at.1 c.in_ok-tokens.ensures.range c.in_ok-tokens.ensures.line
    (mapped_push (λ tokens. tokens.0) c.names.amounts.items c.push.new.self.items c.in_ok-tokens.tokens c.in_ok-push.ensures.items) refl

pub returns : goal.returns
returns c =
    let read =
    all_read (amount_line c.args.kind) (λ tokens. tokens ≤ most_of c.args.kind) (map name_bytes c.args.names.now)
    (map (λ tokens. tokens.0) c.names.amounts.items) c.names.name-index c.args.lines.number c.args.lines.rest.now c.names.left.number
    c.names.left.rest.now (omega (arith, length-map c.args.names.now name_bytes)) c.names.invariant in
    record { range = read.range; lines = read.takes; defect = search rules }
