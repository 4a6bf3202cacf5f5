use Rattle.std.proofs.Common.{ℕ, ◌≡◌, ◌<◌, List, true}
use Rattle.std.proofs.lemmas.List.Elements.{All-map}
use Rattle.bundle_rules.specs.Bundles.{sections_of}
use Rattle.market_units.specs.Members.{has}
use Rattle.market_units.proofs.Images.{unmapped}
use Rattle.held_seats.proofs.below.are_below.Goals as goal

pub returns : goal.returns
returns c =
    let P : List ℕ → Type 0 = λ bundle. (s : ℕ) → has bundle s ≡ true → s < c.args.sections in (
      (λ is. All-map P sections_of c.args.bundles.now (c.each_is_below.ensures.0 is)),
      (λ below. c.each_is_below.ensures.1 (unmapped P sections_of c.args.bundles.now below)),
    )
