use Rattle.std.proofs.Common.{map, take}
use Rattle.market_certificate.specs.Publications.{IsProved}
use Rattle.market_certificate.specs.Texts.{bundle_line}
use Rattle.market_certificate.specs.Views.{proved_of, seen}
use Rattle.market_certificate.proofs.Steps.{AreRead}
use Rattle.market_certificate.proofs.reading.blocks.read_bundles.Given as goal

abbrev pub invariant-names : goal.invariant-names
invariant-names l =
    AreRead (bundle_line (seen l.tables).sections) (IsProved (seen l.tables).sections) (take l.name-index ((seen l.tables).students))
    (map proved_of l.bundles.items) l.fn.lines.number l.fn.lines.rest.now l.left.number l.left.rest.now
