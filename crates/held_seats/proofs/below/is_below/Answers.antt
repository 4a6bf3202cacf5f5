use Rattle.std.proofs.Common.{◌≡◌, ◌<◌, true, subst, sym}
use Rattle.market_units.specs.Members.{has}
use Rattle.bundle_rules.proofs.Ends.{all_of_ordinals, ordinals_of_all}
use Rattle.held_seats.proofs.below.is_below.Goals as goal

pub returns : goal.returns
returns c = (
  (λ all s is. ordinals_of_all (λ t. t < c.args.sections) c.sections.result.now (c.all_below.ensures.0 all) s
      (subst (λ xs. has xs s ≡ true) (sym c.sections.ensures.value) is)),
  (λ each. c.all_below.ensures.1
      (all_of_ordinals (λ t. t < c.args.sections) c.sections.result.now (λ s is. each s (subst (λ xs. has xs s ≡ true) c.sections.ensures.value is)))),
)
