use Rattle.std.proofs.Common.{◌+◌, List, [], length, map, ap, sym, subst, refl, arith, rules}
use Rattle.std.proofs.lemmas.List.{length-map}
use Rattle.std.proofs.lemmas.Result.{err_from_is_err_and}
use Rattle.market_units.specs.Name.{name_bytes}
use Rattle.market_certificate.specs.Due.{BundleForm}
use Rattle.market_certificate.specs.Publications.{Proved, IsProved}
use Rattle.market_certificate.specs.Texts.{bundle_line}
use Rattle.market_certificate.specs.Views.{proved_of, seen}
use Rattle.market_certificate.proofs.Blocks.{all_read, none_read, read_defect, read_more}
use Rattle.market_certificate.proofs.Joins.{mapped_push, name_stands}
use Rattle.market_certificate.proofs.Steps.{AreRead}
use Rattle.market_certificate.proofs.reading.blocks.read_bundles.Goals as goal

pub names-init : goal.names-init
names-init c =
    subst
    (λ (values : List (Proved)). AreRead (bundle_line (seen c.args.tables.now).sections) (IsProved (seen c.args.tables.now).sections) [] values
    c.args.lines.number c.args.lines.rest.now c.args.lines.number c.args.lines.rest.now)
    (sym (ap (map proved_of) c.in_ok-bundles.ensures.items))
    (none_read (bundle_line (seen c.args.tables.now).sections) (IsProved (seen c.args.tables.now).sections) [] c.args.lines.number c.args.lines.rest.now)

pub returns-in_err-proved-clause-defect : goal.returns-in_err-proved-clause-defect
returns-in_err-proved-clause-defect c =
    let p = err_from_is_err_and c.from_residual-in_err-proved.result c.from_residual-in_err-proved.ensures.1 in
    let at =
    name_stands c.deref-name-items.result.now c.args.tables.now.students.items c.names.name-index _ c.name-item.result c.deref-name-items.ensures.value
    (omega arith) c.name-item.is in
    rw (p.1, p.2) (λ more. read_defect (seen c.args.tables.now) BundleForm (bundle_line (seen c.args.tables.now).sections) (IsProved (seen c.args.tables.now).sections) (λ name value is. (value, is, refl)) (map name_bytes c.args.tables.now.students.items) (map proved_of c.names.bundles.items) c.names.name-index (name_bytes c.name-item.result) c.args.lines.number c.args.lines.rest.now c.names.left.number c.names.left.rest.now
    c.in_err-proved.field-0.0 c.names.invariant at.0 at.1 c.in_err-proved.ensures.defect more)

pub names-preserved : goal.names-preserved
names-preserved c =
    let at =
    name_stands c.deref-name-items.result.now c.args.tables.now.students.items c.names.name-index _ c.name-item.result c.deref-name-items.ensures.value
    (omega arith) c.name-item.is in
    read_more (bundle_line (seen c.args.tables.now).sections) (IsProved (seen c.args.tables.now).sections) (map name_bytes c.args.tables.now.students.items)
    (map proved_of c.names.bundles.items) (map proved_of c.push.new.self.items) c.names.name-index (c.names.name-index + 1) (name_bytes c.name-item.result)
    (proved_of c.in_ok-proved.proved) c.args.lines.number c.args.lines.rest.now c.names.left.number c.names.left.rest.now
    c.in_ok-proved.behind.number c.in_ok-proved.behind.rest.now c.names.invariant at.0 at.1 c.in_ok-proved.ensures.range c.in_ok-proved.ensures.line
    (mapped_push proved_of c.names.bundles.items c.push.new.self.items c.in_ok-proved.proved c.in_ok-push.ensures.items) refl

pub returns : goal.returns
returns c =
    let read =
    all_read (bundle_line (seen c.args.tables.now).sections) (IsProved (seen c.args.tables.now).sections) (map name_bytes c.args.tables.now.students.items)
    (map proved_of c.names.bundles.items) c.names.name-index c.args.lines.number c.args.lines.rest.now c.names.left.number c.names.left.rest.now
    (omega (arith, length-map c.args.tables.now.students.items name_bytes, ap length c.deref-name-items.ensures.value)) c.names.invariant in
    record { range = read.range; lines = read.takes; defect = search rules }
