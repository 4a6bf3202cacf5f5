use Rattle.std.proofs.Common.{◌≡◌, ◌<◌, length, map}
use Rattle.std.specs.Prelude.{All}
use Rattle.bundle_rules.specs.Bundles.{sections_of}
use Rattle.market_certificate.specs.Tables.{name_at}
use Rattle.market_certificate.specs.Views.{seen}
use Rattle.market_certificate.proofs.reading.values.bundle_of_names.Given as goal

abbrev pub invariant-names : goal.invariant-names
invariant-names l =
    (goal.iterator-names).can_next l.name-iterator ×
    (goal.iterator-names).is_finite l.name-iterator ×
    (map (λ x. x.now) l.yielded ≡ map (name_at (seen l.tables).sections) (sections_of l.bundle)) ×
    All (λ section. section < length (seen l.tables).sections) (sections_of l.bundle)
