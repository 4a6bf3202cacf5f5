use Rattle.std.proofs.Common.{◌≡◌, map, take}
use Rattle.bundle_rules.specs.Bundles.{sections_of}
use Rattle.market_certificate.specs.Publications.{Proved}
use Rattle.market_certificate.specs.Views.{proved_of}
use Rattle.fairness_audit.proofs.published.settled_bundles.Given as goal

abbrev pub invariant-students : goal.invariant-students
invariant-students l =
    map sections_of l.bundles.items ≡ map (λ (proved : Proved). proved.bundle) (map proved_of (take l.proved-index l.publication.bundles.items))
