use Rattle.std.proofs.Common.{◌≡◌, ◌++◌, length, map, take}
use Rattle.market_units.specs.Name.{name_bytes}
use Rattle.market_certificate.specs.Lines.{joined}
use Rattle.market_certificate.specs.Texts.{each_line, used_line}
use Rattle.market_certificate.proofs.writing.blocks.put_seats.Given as goal

abbrev pub invariant-names : goal.invariant-names
invariant-names l =
    l.text.items ≡ l.initial.text.items ++ joined (each_line used_line (take (length l.yielded) (map name_bytes l.names)) (take (length l.yielded) (l.seats)))
