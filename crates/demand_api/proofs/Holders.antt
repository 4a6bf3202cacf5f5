-- Holders of a section, where one bundle is changed.
use Rattle.std.proofs.Common.{ℕ, zero, suc, ◌≡◌, ◌+◌, List, [], ◌∷◌, Some, arith, ap}
use Rattle.std.specs.Prelude.{slice_get, slice_set, if◌then◌else◌}
use Rattle.market_units.specs.Members.{has}
use Rattle.demand_api.specs.Crowds.{holders}

-- one more holder where the new bundle has the section, one fewer where the old one had it
pub holders_set : (s : ℕ) (held : List (List ℕ)) (i : ℕ) (before after : List ℕ) → slice_get held i ≡ Some before
    → holders s (slice_set held i after) + (if has before s then 1 else 0) ≡ holders s held + (if has after s then 1 else 0)
holders_set s [] i before after is = absurd (cc is)
holders_set s (x ∷ xs) zero before after is =
    let same : x ≡ before = cc is in
    let e = ap {B = ℕ} (λ b. if has b s then 1 else 0) same in
    omega (arith, e)
holders_set s (x ∷ xs) (suc i) before after is = omega (arith, holders_set s xs i before after is)
