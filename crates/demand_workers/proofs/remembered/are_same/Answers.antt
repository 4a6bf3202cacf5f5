use Rattle.std.proofs.Common.{◌≡◌, ◌==◌, Decides, ap}
use Rattle.std.proofs.lemmas.Bool.Decides.{Decides-eqb, Decides-like}
use Rattle.std.proofs.lemmas.Slice.Eq.{slice_eq-Decides}
use Rattle.market_units.specs.declared.units.Tokens.{Tokens}
use Rattle.demand_workers.proofs.remembered.are_same.Goals as goal

pub returns : goal.returns
returns c = slice_eq-Decides same _ _ _ c.eq.ensures
  where
    same : (a b : Tokens) → Decides (a.0 == b.0) (a ≡ b)
    same a b = Decides-like (a.0 == b.0) (λ e. ap (λ n. record { 0 = n }) e) (ap (λ (t : Tokens). t.0)) (Decides-eqb a.0 b.0)
