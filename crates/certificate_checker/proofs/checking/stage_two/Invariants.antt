use Rattle.std.proofs.Common.{◌≡◌, map, take}
use Rattle.bundle_rules.specs.Bundles.{sections_of}
use Rattle.market_certificate.specs.Views.{proved_of}
use Rattle.market_certificate.specs.Publications.{Proved}
use Rattle.certificate_checker.proofs.checking.stage_two.Given as goal

abbrev pub invariant-students : goal.invariant-students
invariant-students l =
    map sections_of l.bundles.items ≡ map (λ (proved : Proved). proved.bundle) (map proved_of (take l.proved-index l.printed.publication.now.bundles.items))
