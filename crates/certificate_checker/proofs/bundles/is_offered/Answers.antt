use Rattle.std.proofs.Common.{◌≡◌, ◌<◌, true, subst, sym}
use Rattle.std.specs.FinSet as set
use Rattle.market_units.specs.Members.{has}
use Rattle.bundle_rules.specs.Bundles.{sections_of}
use Rattle.bundle_rules.proofs.Ends.{all_of_ordinals, ordinals_of_all}
use Rattle.certificate_checker.proofs.Reading.{so_of_has}
use Rattle.certificate_checker.proofs.bundles.is_offered.Goals as goal

pub all_allowed-requires : goal.all_allowed-requires
all_allowed-requires c =
    all_of_ordinals (λ s. s < 400) c.sections.result.now
    (λ s is. so_of_has (λ t. t < 400) (sections_of c.args.bundle.now) c.requires s (subst (λ xs. has xs s ≡ true) c.sections.ensures.value is))

pub returns : goal.returns
returns c = (
  (λ all s is. ordinals_of_all (λ t. set.contains c.args.allowed.now t ≡ true) c.sections.result.now (c.all_allowed.ensures.0 all) s
      (subst (λ xs. has xs s ≡ true) (sym c.sections.ensures.value) is)),
  (λ each. c.all_allowed.ensures.1
      (all_of_ordinals (λ t. set.contains c.args.allowed.now t ≡ true) c.sections.result.now
      (λ s is. each s (subst (λ xs. has xs s ≡ true) c.sections.ensures.value is)))),
)
