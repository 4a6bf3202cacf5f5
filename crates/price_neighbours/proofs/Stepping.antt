-- Prices that make a step.
use Rattle.std.proofs.Common.{ℕ, ◌+◌, ◌≤◌, ◌≡◌, ◌++◌, ◌∷◌, [], List, map, arith, refl, sym, ap}
use Rattle.std.specs.Prelude.{ℤ, pos, negsuc, ◌+ℤ◌, ◌*ℤ◌, nat_abs}
use Rattle.std.specs.Int.{int_max, int_min}
use Rattle.std.specs.List.{range_with_len}
use Rattle.std.proofs.lemmas.Bool.Decides.{nat_tests}
use Rattle.std.proofs.lemmas.List.FromFn.{map-range_with_len_more}
use Rattle.market_units.specs.declared.units.Tokens.{Tokens}
use Rattle.clearing_error.specs.Errors.{excess}
use Rattle.price_neighbours.specs.Neighbours.{cut, stepped_price}

-- what is cut is at most the top
pub cut_capped : (top : ℕ) (z : ℤ) → cut top z ≤ top
cut_capped top (pos n) = omega arith
cut_capped top (negsuc n) = omega arith

pub stepped_capped : (top price count seats step : ℕ) → stepped_price top price count seats step ≤ top
stepped_capped top price count seats step = cut_capped top (pos price +ℤ (pos step *ℤ excess count seats))

-- a number that is clamped is cut
cut_clamped : (top : ℕ) (z : ℤ) → nat_abs (int_max (pos 0) (int_min z (pos top))) ≡ cut top z
cut_clamped top (pos n) = grind (arith, nat_tests)
cut_clamped top (negsuc n) = refl

pub clamped : (top : ℕ) (z y t r : ℤ) → r ≡ int_max (pos 0) (int_min y t) → y ≡ z → t ≡ pos top → nat_abs r ≡ cut top z
clamped top z y t r is same same_top = rw (is, same, same_top) (cut_clamped top z)

-- one price more
pub stepped_more : (f : ℕ → ℕ) (moved later : List Tokens) (price : Tokens) (n : ℕ) → moved ≡ map (λ s. record { 0 = f s }) (range_with_len 0 n) → price.0 ≡ f n
    → later ≡ moved ++ price ∷ [] → later ≡ map (λ s. record { 0 = f s }) (range_with_len 0 (n + 1))
stepped_more f moved later price n so_far is more =
    let same : price ≡ record { 0 = f n } = ap (λ k. record { 0 = k }) is in
    let next : map {B = Tokens} (λ s. record { 0 = f s }) (range_with_len 0 (n + 1))
    ≡ map (λ s. record { 0 = f s }) (range_with_len 0 n) ++ record { 0 = f n } ∷ [] =
    map-range_with_len_more (λ s. record { 0 = f s }) 0 n n (omega arith) in
    rw (more, so_far, same) (sym next)
