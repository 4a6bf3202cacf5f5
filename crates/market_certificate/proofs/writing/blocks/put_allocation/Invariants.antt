use Rattle.std.proofs.Common.{◌≡◌, ◌++◌, length, map, take}
use Rattle.bundle_rules.specs.Bundles.{sections_of}
use Rattle.market_units.specs.Name.{name_bytes}
use Rattle.market_certificate.specs.Lines.{joined}
use Rattle.market_certificate.specs.Texts.{each_line, final_line}
use Rattle.market_certificate.proofs.writing.blocks.put_allocation.Given as goal

abbrev pub invariant-names : goal.invariant-names
invariant-names l =
    l.text.items
    ≡ l.initial.text.items
    ++ joined
    (each_line (final_line (map name_bytes l.sections)) (take (length l.yielded) (map name_bytes l.names))
    (take (length l.yielded) (map sections_of l.bundles)))
