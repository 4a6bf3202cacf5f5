use Rattle.std.proofs.Common.{◌≡◌, ◌++◌, map, take}
use Rattle.market_units.specs.Name.{name_bytes}
use Rattle.market_certificate.specs.Lines.{joined}
use Rattle.market_certificate.specs.Texts.{turn_line}
use Rattle.market_certificate.specs.Views.{turn_of}
use Rattle.market_certificate.proofs.writing.blocks.put_turns.Given as goal

abbrev pub invariant-turns : goal.invariant-turns
invariant-turns l =
    l.text.items
    ≡ l.initial.text.items ++ joined (map (turn_line (map name_bytes l.students) (map name_bytes l.sections)) (take l.turn-index (map turn_of l.turns)))
