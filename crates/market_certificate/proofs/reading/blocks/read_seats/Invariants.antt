use Rattle.std.proofs.Common.{map, take}
use Rattle.market_units.specs.Name.{name_bytes}
use Rattle.market_certificate.specs.Publications.{IsUsed}
use Rattle.market_certificate.specs.Texts.{used_line}
use Rattle.market_certificate.proofs.Steps.{AreRead}
use Rattle.market_certificate.proofs.reading.blocks.read_seats.Given as goal

abbrev pub invariant-names : goal.invariant-names
invariant-names l =
    AreRead used_line IsUsed (take l.name-index (map name_bytes l.names)) l.seats.items l.fn.lines.number l.fn.lines.rest.now l.left.number l.left.rest.now
