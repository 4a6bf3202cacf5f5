use Rattle.std.proofs.Common.{◌≡◌, ◌++◌, length, map, take}
use Rattle.market_units.specs.Name.{name_bytes}
use Rattle.market_certificate.specs.Lines.{joined}
use Rattle.market_certificate.specs.Texts.{bundle_line, each_line}
use Rattle.market_certificate.specs.Views.{proved_of}
use Rattle.market_certificate.proofs.writing.blocks.put_bundles.Given as goal

abbrev pub invariant-names : goal.invariant-names
invariant-names l =
    l.text.items
    ≡ l.initial.text.items
    ++ joined
    (each_line (bundle_line (map name_bytes l.sections)) (take (length l.yielded) (map name_bytes l.names))
    (take (length l.yielded) (map proved_of l.bundles)))
