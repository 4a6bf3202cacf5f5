-- What a price and the next one tell.
use Rattle.std.proofs.Common.{◌≡◌, ℕ, ◌+◌, ◌-◌, ◌*◌, ◌/◌, ◌≤◌, ◌<◌, max, min, List, subst, arith, inl, inr}
use Rattle.std.proofs.Math.Nat.{div-le_self, div-lt_iff_lt-mul, le-div_iff_mul-le}
use Rattle.std.specs.Prelude.{ℤ, pos, ◌+ℤ◌, ◌≤ℤ◌}
use Rattle.std.proofs.lemmas.Int.{ints}
use Rattle.std.proofs.lemmas.Bool.{cases_lt}
use Rattle.bundle_bounds.specs.declared.prospects.Prospect.{Prospect}
use Rattle.bundle_bounds.specs.declared.prospects.Resource.{Resource}
use Rattle.bundle_bounds.specs.declared.known.Known.{Known}
use Rattle.bundle_bounds.specs.Bounds.{at_price}
use Rattle.bundle_bounds.specs.Known.{IsKnown}
use Rattle.bundle_bounds.proofs.Lines.{no_less_before, no_less_after, falls_before, falls_after}

over : (base limit : ℤ) (margin g h : ℕ) → (limit +ℤ pos margin) ≤ℤ (base +ℤ pos g) → g ≤ h + margin → limit ≤ℤ (base +ℤ pos h)
over base limit margin g h high more = omega (arith, ints)

times_less : (a b s : ℕ) → a ≤ b → a * s ≤ b * s
times_less a b s up = let e : b ≡ a + (b - a) = omega arith in of_sum a (b - a) s b e
  where
    of_sum : (a d s b : ℕ) → b ≡ a + d → a * s ≤ b * s
    of_sum a d s b e = rw e (omega arith)

-- a number from which another is away by a few steps of at most the margin in all is at most the margin more
few_steps : (g o far steps d e margin : ℕ) → g ≤ o + far * d → far ≤ steps → e ≡ d → steps * e ≤ margin → g ≤ o + margin
few_steps g o far steps d e margin line near same few =
    let less : far * d ≤ steps * d = times_less far steps d near in
    let few' : steps * d ≤ margin = subst (λ k. steps * k ≤ margin) same few in
    omega arith

module _ (base limit : ℤ) (rest : ℕ) (resource : Resource) (all : List Prospect) (known : Known) (is : IsKnown base limit rest resource all known)
    (price sum next margin : ℕ)
    (sum_is : sum ≡ at_price resource rest price all) (next_is : next ≡ at_price resource rest (price + 1) all) (high : (limit +ℤ pos margin) ≤ℤ (base +ℤ pos sum)) where
  pub known_rising : (steps from highest : ℕ) → sum ≤ next → steps * (next - sum) ≤ margin → from ≡ price - steps → highest ≡ min known.high from
      → IsKnown base limit rest resource all record { low = known.low; high = highest }
  known_rising steps from highest rise few from_is highest_is = record {
    low = is.low;
    high = λ other above within. elim (cases_lt other known.high) [
      | inl before ↦
          let g : ℕ = at_price resource rest price all in
          let n : ℕ = at_price resource rest (price + 1) all in
          let o : ℕ = at_price resource rest other all in
          let sum_is' : sum ≡ g = sum_is in
          let next_is' : next ≡ n = next_is in
          let rise' : g ≤ n = omega arith in
          elim (cases_lt other price) [
            | inl left ↦
                let near : g ≤ o + margin =
                few_steps g o (price - other) steps (n - g) (next - sum) margin (falls_before resource rest price all other (omega arith) rise') (omega arith)
                (λ i. next_is i - sum_is i) few in
                over base limit margin sum (at_price resource rest other all) high (let goal : sum ≤ o + margin = omega arith in goal)
            | inr right ↦ elim (cases_lt price other) [
              | inl later ↦
                  let up : n ≤ o = no_less_after resource rest price (price + 1) all (omega arith) rise' other (omega arith) in
                  over base limit margin sum (at_price resource rest other all) high (let goal : sum ≤ o + margin = omega arith in goal)
              | inr here ↦
                  let at : other ≡ price = omega arith in
                  rw at (over base limit margin sum (at_price resource rest price all) high (let goal : sum ≤ g + margin = omega arith in goal))
            ]
          ]
      | inr after ↦ is.high other after within
    ];
    low_within = is.low_within;
    high_within = let h = is.high_within in omega arith;
  }

  pub known_falling : (steps lowest : ℕ) → next < sum → price < 20000000 → steps ≤ known.high - price → steps * (sum - next) ≤ margin
      → lowest ≡ max known.low ((price + steps) + 1) → IsKnown base limit rest resource all record { low = lowest; high = known.high }
  known_falling steps lowest fall small most few lowest_is = record {
    low = λ other below. elim (cases_lt other known.low) [
      | inl before ↦ is.low other before
      | inr after ↦
          let g : ℕ = at_price resource rest price all in
          let n : ℕ = at_price resource rest (price + 1) all in
          let o : ℕ = at_price resource rest other all in
          let sum_is' : sum ≡ g = sum_is in
          let next_is' : next ≡ n = next_is in
          let fall' : n ≤ g = omega arith in
          elim (cases_lt price other) [
            | inl right ↦
                let near : g ≤ o + margin =
                few_steps g o (other - price) steps (g - n) (sum - next) margin (falls_after resource rest price all other (omega arith) fall') (omega arith)
                (λ i. sum_is i - next_is i) few in
                over base limit margin sum (at_price resource rest other all) high (let goal : sum ≤ o + margin = omega arith in goal)
            | inr left ↦
                let up : g ≤ o = no_less_before resource rest price (price + 1) all (omega arith) fall' other (omega arith) in
                over base limit margin sum (at_price resource rest other all) high (let goal : sum ≤ o + margin = omega arith in goal)
          ]
    ];
    high = is.high;
    low_within = let l = is.low_within in let h = is.high_within in omega arith;
    high_within = is.high_within;
  }

-- what is known at the price of a ratio that is low, or high
pub known_below : (base limit : ℤ) (rest : ℕ) (resource : Resource) (all : List Prospect) (known : Known) (worth taken : ℕ)
    → IsKnown base limit rest resource all known → 0 < taken → worth < known.low * taken
    → limit ≤ℤ (base +ℤ pos (at_price resource rest (worth / taken) all))
known_below base limit rest resource all known worth taken is some below = is.low (worth / taken) ((div-lt_iff_lt-mul some).1 below)

pub known_above : (base limit : ℤ) (rest : ℕ) (resource : Resource) (all : List Prospect) (known : Known) (worth taken : ℕ)
    → IsKnown base limit rest resource all known → 0 < taken → worth ≤ 20000000 → known.high * taken ≤ worth
    → limit ≤ℤ (base +ℤ pos (at_price resource rest (worth / taken) all))
known_above base limit rest resource all known worth taken is some small above =
    is.high (worth / taken) ((le-div_iff_mul-le some).1 above) (let less : worth / taken ≤ worth = div-le_self worth taken in omega arith)
