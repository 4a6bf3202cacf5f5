use Rattle.std.proofs.Common.{◌≤◌, map, take}
use Rattle.market_units.specs.Name.{name_bytes}
use Rattle.market_certificate.specs.Texts.{amount_line, most_of}
use Rattle.market_certificate.proofs.Steps.{AreRead}
use Rattle.market_certificate.proofs.reading.blocks.read_amounts.Given as goal

abbrev pub invariant-names : goal.invariant-names
invariant-names l =
    AreRead (amount_line l.kind) (λ tokens. tokens ≤ most_of l.kind) (take l.name-index (map name_bytes l.names)) (map (λ tokens. tokens.0) l.amounts.items)
    l.fn.lines.number l.fn.lines.rest.now l.left.number l.left.rest.now
