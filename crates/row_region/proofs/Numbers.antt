-- Numbers among others.
use Rattle.std.proofs.Common.{◌≡◌, ◌≢◌, ◌<◌, ℕ, suc, true, false, ◌==◌, List, [], ◌∷◌, length, get_or, refl, arith, nat_cmp, inl, inr}
use Rattle.std.specs.Ordering.{eq_by_cmp}
use Rattle.std.specs.FinMap.{nat_cmp-IsAntisymmetric}
use Rattle.std.proofs.lemmas.Cmp.{eq_by_cmp_equiv, nat_cmp_total}
use Rattle.std.proofs.lemmas.Bool.{cases_Bool, ne_eqb, or_from}
use Rattle.plain_facts.proofs.Truths.{only_equal}
use Rattle.market_units.specs.Members.{has}

-- a number that stands at no place is not there
pub has_none : (xs : List ℕ) (q : ℕ) → ((k : ℕ) → k < length xs → get_or xs k 0 ≢ q) → has xs q ≡ false
has_none [] q none = refl
has_none (x ∷ xs) q none = or_from (x == q) (has xs q) (ne_eqb x q (none 0 (omega arith))) (has_none xs q (λ k h. none (suc k) (omega arith)))

pub tie_same : (x : ℕ) → eq_by_cmp nat_cmp x x ≡ true
tie_same x = (eq_by_cmp_equiv nat_cmp_total).refl x

pub tie_apart : (x y : ℕ) → x ≢ y → eq_by_cmp nat_cmp x y ≡ false
tie_apart x y apart =
    elim (cases_Bool (eq_by_cmp nat_cmp x y)) [
      | inl tied ↦ absurd (apart (nat_cmp-IsAntisymmetric x y (only_equal (nat_cmp x y) tied)))
      | inr other ↦ other
    ]
