use Rattle.std.proofs.Common.{map, take}
use Rattle.bundle_rules.specs.Bundles.{sections_of}
use Rattle.market_certificate.specs.Publications.{IsBundleOf}
use Rattle.market_certificate.specs.Texts.{final_line}
use Rattle.market_certificate.specs.Views.{seen}
use Rattle.market_certificate.proofs.Steps.{AreRead}
use Rattle.market_certificate.proofs.reading.blocks.read_allocation.Given as goal

abbrev pub invariant-names : goal.invariant-names
invariant-names l =
    AreRead (final_line (seen l.tables).sections) (IsBundleOf (seen l.tables).sections) (take l.name-index ((seen l.tables).students))
    (map sections_of l.bundles.items) l.fn.lines.number l.fn.lines.rest.now l.left.number l.left.rest.now
