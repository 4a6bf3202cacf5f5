use Rattle.std.proofs.Common.{◌+◌, ◌<◌, length, map, refl, arith}
use Rattle.std.proofs.lemmas.List.{length-map}
use Rattle.bundle_rules.specs.Bundles.{sections_of}
use Rattle.market_units.specs.Name.{name_bytes}
use Rattle.market_certificate.specs.Publications.{IsTurn}
use Rattle.market_certificate.specs.Texts.{turn_line}
use Rattle.market_certificate.specs.Views.{turn_of}
use Rattle.market_certificate.proofs.Joins.{below_names, each_at, mapped_at, turn_more}
use Rattle.market_certificate.proofs.writing.blocks.put_turns.Goals as goal

pub put_turn-requires-clause-student : goal.put_turn-requires-clause-student
put_turn-requires-clause-student c =
    let is =
    each_at (IsTurn (map name_bytes c.args.students.now) (map name_bytes c.args.sections.now)) turn_of c.args.turns.now c.turns.turn-index _
    c.turn-item.result c.requires (omega arith) c.turn-item.is in
    omega (arith, is.student, length-map c.args.students.now name_bytes)

pub put_turn-requires-clause-sections : goal.put_turn-requires-clause-sections
put_turn-requires-clause-sections c =
    let is =
    each_at (IsTurn (map name_bytes c.args.students.now) (map name_bytes c.args.sections.now)) turn_of c.args.turns.now c.turns.turn-index _
    c.turn-item.result c.requires (omega arith) c.turn-item.is in
    below_names c.args.sections.now (sections_of c.turn-item.result.bundle) is.bundle

pub turns-preserved : goal.turns-preserved
turns-preserved c =
    let inside : c.turns.turn-index < length c.args.turns.now = omega arith in
    turn_more (turn_line (map name_bytes c.args.students.now) (map name_bytes c.args.sections.now)) (map turn_of c.args.turns.now) c.turns.turn-index
    (c.turns.turn-index + 1) (turn_of c.turn-item.result) c.args.text.now.items c.turns.text.items
    c.put_turn.new.text.items refl (omega (arith, inside, length-map c.args.turns.now turn_of))
    (mapped_at turn_of c.args.turns.now c.turns.turn-index _ c.turn-item.result inside c.turn-item.is) c.turns.invariant c.in_ok-put_turn.ensures
