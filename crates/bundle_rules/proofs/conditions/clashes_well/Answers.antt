use Rattle.bundle_rules.specs.Existence.Places.{course_at-is}
use Rattle.bundle_rules.proofs.ClashTests.{no_clash}
use Rattle.bundle_rules.proofs.conditions.clashes_well.Goals as goal

pub returns : goal.returns
returns c =
    no_clash c.args.row.now.places.now c.args.row.now.clashes.now c.args.row.now.place c.args.other c.has_bit-clash.result c.has_bit.result _ _
    c.if-clash-has_bit.false c.if-clash.false
    c.has_bit-clash.ensures c.has_bit.ensures c.if-place-other.false (course_at-is c.args.row.now.places.now c.args.row.now.place _ c.args.row.now.on_menu)
    (course_at-is c.args.row.now.places.now c.args.other _ c.requires)
