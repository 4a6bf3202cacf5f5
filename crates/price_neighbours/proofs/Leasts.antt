-- The least greater price at which fewer students take a section.
use Rattle.std.proofs.Common.{ℕ, ◌+◌, ◌-◌, ◌<◌, ◌≤◌, ◌≡◌, true, false, inl, inr, arith}
use Rattle.std.specs.Prelude.{Some, nat_lt}
use Rattle.std.proofs.lemmas.Bool.{cases_lt}
use Rattle.std.proofs.lemmas.Bool.Decides.{nat_tests}
use Rattle.demand_api.specs.Crowds.{CrowdData, top, count}
use Rattle.demand_api.specs.Prices.{with_price, IsLeastFrom}
use Rattle.demand_api.proofs.Counts.{none_at_top}
use Rattle.demand_api.proofs.Halving.{count_present, with_here}
use Rattle.price_neighbours.specs.Neighbours.{least_fewer}
use Rattle.price_neighbours.specs.Laws.{IsLeastFewer}
use Rattle.price_neighbours.proofs.Ranges.{find_in_range, some_first, found_below, found_none}

-- nobody takes the section at the top
none_with_top : (crowd : CrowdData) (price : ℕ → ℕ) (s : ℕ) → count crowd (with_price price s (top crowd)) s ≡ 0
none_with_top crowd price s = none_at_top crowd s (with_price price s (top crowd)) (rw (with_here price s (top crowd)) (omega arith))

-- a section that some take has a price below the top
pub below_top : (crowd : CrowdData) (price : ℕ → ℕ) (s : ℕ) → 0 < count crowd price s → price s < top crowd
below_top crowd price s some = elim (cases_lt (price s) (top crowd)) [
  | inl below ↦ below
  | inr above ↦ let none : count crowd price s ≡ 0 = none_at_top crowd s price above in absurd (omega arith)
]

-- the least price is the first that is found
pub least_first : (crowd : CrowdData) (price : ℕ → ℕ) (s least : ℕ) → price s < top crowd → IsLeastFewer crowd price s least
    → least_fewer crowd price s ≡ Some least
least_first crowd price s least low is = find_in_range (λ p. nat_lt (count crowd (with_price price s p) s) (count crowd price s)) (price s + 1) (top crowd - price s) least (record {
  from = let above : price s < least = is.above in omega arith;
  below = elim (cases_lt (top crowd) least) [
    | inl past ↦
        let none : count crowd (with_price price s (top crowd)) s ≡ 0 = none_with_top crowd price s in
        let few : count crowd price s ≤ count crowd (with_price price s (top crowd)) s = is.lower (top crowd) low past in
        let fewer : count crowd (with_price price s least) s < count crowd price s = is.fewer in
        absurd (omega arith)
    | inr within ↦ omega arith
  ];
  passes = let fewer : count crowd (with_price price s least) s < count crowd price s = is.fewer in grind (arith, nat_tests);
  fails = λ p from before. let more : count crowd price s ≤ count crowd (with_price price s p) s = is.lower p (omega arith) before in grind (arith, nat_tests);
})

-- what is asked of the crowd is that price
pub least_asked : (crowd : CrowdData) (price : ℕ → ℕ) (s limit least : ℕ) → limit + 1 ≡ count crowd price s → IsLeastFrom (price s) crowd price s limit least
    → least_fewer crowd price s ≡ Some least
least_asked crowd price s limit least one is =
    let present : count crowd (with_price price s (price s)) s ≡ count crowd price s = count_present crowd price s in
    let from : price s ≤ least = is.from in
    let within : count crowd (with_price price s least) s ≤ limit = is.within in
    least_first crowd price s least (below_top crowd price s (omega arith)) (record {
      above = elim (cases_lt (price s) least) [
        | inl above ↦ above
        | inr below ↦
            let e : least ≡ price s = omega arith in
            let few : count crowd (with_price price s (price s)) s ≤ limit = rw e at within in
            absurd (omega arith)
      ];
      fewer = omega arith;
      lower = λ p above before. let more : limit < count crowd (with_price price s p) s = is.lower p (omega arith) before in omega arith;
    })

-- and there is one
pub least_fewer_is_least : (crowd : CrowdData) (price : ℕ → ℕ) (s : ℕ) → 0 < count crowd price s
    → (least : ℕ) × (least_fewer crowd price s ≡ Some least) × IsLeastFewer crowd price s least
least_fewer_is_least crowd price s some =
    let low : price s < top crowd = below_top crowd price s some in
    let none : count crowd (with_price price s (top crowd)) s ≡ 0 = none_with_top crowd price s in
    let found =
    some_first (λ p. nat_lt (count crowd (with_price price s p) s) (count crowd price s)) (price s + 1) (top crowd - price s) (top crowd) (omega arith)
    (omega arith) (grind (arith, nat_tests)) in
    let from : price s + 1 ≤ found.0 = found.1.from in
    let passes : nat_lt (count crowd (with_price price s found.0) s) (count crowd price s) ≡ true = found.1.passes in (
      found.0,
      find_in_range (λ p. nat_lt (count crowd (with_price price s p) s) (count crowd price s)) (price s + 1) (top crowd - price s) found.0 found.1,
      record {
        above = omega arith;
        fewer = grind (arith, nat_tests);
        lower = λ p above before. let fails : nat_lt (count crowd (with_price price s p) s) (count crowd price s) ≡ false = found.1.fails p (omega arith) before in grind (arith, nat_tests);
      },
    )

-- what is found is at most the top
pub found_capped : (crowd : CrowdData) (price : ℕ → ℕ) (s p : ℕ) → least_fewer crowd price s ≡ Some p → p ≤ top crowd
found_capped crowd price s p is =
    let below : p < (price s + 1) + (top crowd - price s) =
    found_below (λ q. nat_lt (count crowd (with_price price s q) s) (count crowd price s)) (price s + 1) (top crowd - price s) p is in
    elim (cases_lt (price s) (top crowd)) [
      | inl low ↦ omega arith
      | inr high ↦
          let none : top crowd - price s ≡ 0 = omega arith in
          absurd (found_none (λ q. nat_lt (count crowd (with_price price s q) s) (count crowd price s)) (price s + 1) (top crowd - price s) p none is)
    ]
