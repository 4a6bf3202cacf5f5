use Rattle.std.proofs.Common.{sym}
use Rattle.demand_api.proofs.Tops.{best_too}
use Rattle.demand_api.proofs.laws.top_is_enough.Goals as goal

pub returns : goal.returns
returns c =
    λ wishes one other top budget allowed bundle below same. (
      best_too wishes one other top budget allowed below same bundle,
      best_too wishes other one top budget allowed below (λ s. sym (same s)) bundle,
    )
