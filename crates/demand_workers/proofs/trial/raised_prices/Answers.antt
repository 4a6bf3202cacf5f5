use Rattle.std.proofs.Common.{ℕ, ◌≡◌, ◌<◌, ◌++◌, List, length, take, slice_set, subst}
use Rattle.std.proofs.Math.Seq.{take-append_seam}
use Rattle.std.proofs.lemmas.List.{length-set, set-append_left}
use Rattle.market_units.specs.declared.units.Tokens.{Tokens}
use Rattle.demand_workers.proofs.trial.raised_prices.Goals as goal

-- the first part, with one price written
first_part : (prices copied rest : List Tokens) (place s : ℕ) (price : Tokens) → copied ≡ prices → place ≡ s → s < length prices
    → take (length prices) (slice_set (copied ++ rest) place price) ≡ slice_set prices s price
first_part prices copied rest place s price is at low =
    rw (is, at, set-append_left prices rest s price low)
    (subst (λ n. take n (slice_set prices s price ++ rest) ≡ slice_set prices s price) (length-set prices s price)
    (take-append_seam (slice_set prices s price) rest))

pub returns : goal.returns
returns c = first_part c.args.prices.now _ _ c.from.result c.args.section.0 c.args.price c.copy_from_slice.ensures.after c.from.ensures c.requires.section
