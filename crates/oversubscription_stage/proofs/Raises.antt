-- What a round does to the prices.
use Rattle.std.proofs.Common.{ℕ, zero, suc, ◌≡◌, ◌<◌, ◌≤◌, ◌+◌, ◌-◌, ◌*◌, ◌∙◌, List, [], ◌∷◌, length, All, arith, ap, sym, subst, refl, inl, inr}
use Rattle.std.specs.Prelude.{slice_index, slice_index_or, slice_set}
use Rattle.std.proofs.lemmas.Bool.{cases_lt}
use Rattle.market_units.specs.declared.units.SectionNo.{SectionNo}
use Rattle.market_units.specs.declared.units.Tokens.{Tokens}
use Rattle.market_units.specs.Totals.{total}
use Rattle.bundle_rules.specs.Demand.{price_in}
use Rattle.demand_api.specs.Crowds.{Student, CrowdData, IsCrowd, greatest_budget, top, holders, count}
use Rattle.demand_api.specs.Prices.{with_price, IsLeastFrom, AreLeastPrices}
use Rattle.demand_api.specs.Asking.{ArePricesFor}
use Rattle.demand_api.proofs.Counts.{none_at_top}
use Rattle.demand_api.proofs.Halving.{count_falls_with, count_present, price_at, price_written, with_here}
use Rattle.own_price.specs.Least.{IsLeastPrice}
use Rattle.own_price.specs.Holding.{HeldData, Holds}
use Rattle.own_price.proofs.Raising.{raised_prices}
use Rattle.oversubscription_stage.specs.Rounds.{IsMostOver, limit_after, IsRoundAt}
use Rattle.oversubscription_stage.specs.Laws.{RaisesWithinTop}

-- the least price from the present one up is the least of all, where too many take the section at the present one
pub least_of_all : (crowd : CrowdData) (price : ℕ → ℕ) (s limit least : ℕ) → limit < count crowd price s → IsLeastFrom (price s) crowd price s limit least
    → IsLeastPrice crowd price s limit least
least_of_all crowd price s limit least over is = record {
  within = is.within;
  lower = λ p below. elim (cases_lt p (price s)) [
    | inl cheaper ↦
        let present : count crowd (with_price price s (price s)) s ≡ count crowd price s = count_present crowd price s in
        let more : count crowd (with_price price s (price s)) s ≤ count crowd (with_price price s p) s =
        count_falls_with crowd price s p (price s) (omega arith) in
        omega arith
    | inr dearer ↦ is.lower p dearer below
  ];
}

-- none passes the top
pub least_capped : (crowd : CrowdData) (price : ℕ → ℕ) (s limit least : ℕ) → IsLeastPrice crowd price s limit least → least ≤ top crowd
least_capped crowd price s limit least is = elim (cases_lt (top crowd) least) [
  | inl above ↦
      let more : limit < count crowd (with_price price s (top crowd)) s = is.lower (top crowd) above in
      let none : count crowd (with_price price s (top crowd)) s ≡ 0 =
      none_at_top crowd s (with_price price s (top crowd)) (rw (with_here price s (top crowd)) (omega arith)) in
      absurd (omega arith)
  | inr capped ↦ capped
]

-- and it is above the present price
pub least_above : (crowd : CrowdData) (price : ℕ → ℕ) (s limit least : ℕ) → limit < count crowd price s → IsLeastPrice crowd price s limit least
    → price s < least
least_above crowd price s limit least over is = elim (cases_lt (price s) least) [
  | inl above ↦ above
  | inr below ↦
      let present : count crowd (with_price price s (price s)) s ≡ count crowd price s = count_present crowd price s in
      let more : count crowd (with_price price s (price s)) s ≤ count crowd (with_price price s least) s =
      count_falls_with crowd price s least (price s) below in
      let few : count crowd (with_price price s least) s ≤ limit = is.within in
      absurd (omega arith)
]

-- a limit is below the count
pub limit_below : (count seats : ℕ) → seats < count → limit_after count seats < count
limit_below count seats over = omega arith

pub round_raises : (crowd : CrowdData) (seats : List ℕ) (before after : List Tokens) (s : ℕ) (price : Tokens) → ArePricesFor crowd before
    → IsRoundAt crowd seats before after s price → RaisesWithinTop crowd before after s
round_raises crowd seats before after s price are is =
    let size : length before ≡ crowd.sections = are.same in
    let low : s < crowd.sections = is.most.in_range in
    let below : limit_after (count crowd (price_in before) s) (slice_index seats s) < count crowd (price_in before) s =
    limit_below (count crowd (price_in before) s) (slice_index seats s) is.most.over in
    let above : price_in before s < price.0 =
    least_above crowd (price_in before) s (limit_after (count crowd (price_in before) s) (slice_index seats s)) price.0 below is.least in
    let capped : price.0 ≤ top crowd =
    least_capped crowd (price_in before) s (limit_after (count crowd (price_in before) s) (slice_index seats s)) price.0 is.least in
    let written : price_in (slice_set before s price) s ≡ price.0 = price_written before s price.0 (omega arith) in
    subst (λ prices. RaisesWithinTop crowd before prices s) (sym is.changed) (record {
      raised = omega arith;
      prices = raised_prices crowd before s price are capped;
    })

-- what is left up to the top, of all prices together
abbrev pub left : CrowdData → List Tokens → ℕ
left crowd prices = total (λ price. top crowd - price.0) prices

total_set : (f : Tokens → ℕ) (xs : List Tokens) (i : ℕ) (x d : Tokens) → i < length xs
    → total f (slice_set xs i x) + f (slice_index_or xs i d) ≡ total f xs + f x
total_set f [] i x d low = absurd (omega arith)
total_set f (y ∷ ys) zero x d low = omega arith
total_set f (y ∷ ys) (suc i) x d low =
    let rest : total f (slice_set ys i x) + f (slice_index_or ys i d) ≡ total f ys + f x = total_set f ys i x d (omega arith) in omega (arith, rest)

-- a higher price leaves less
pub left_falls : (crowd : CrowdData) (prices : List Tokens) (s : ℕ) (price : Tokens) → s < length prices → price_in prices s < price.0 → price.0 ≤ top crowd
    → left crowd (slice_set prices s price) < left crowd prices
left_falls crowd prices s price low up capped =
    let set = total_set (λ p. top crowd - p.0) prices s price (record { 0 = 0 }) low in
    let here : price_in prices s ≡ (slice_index_or prices s (record { 0 = 0 })).0 = price_at prices s (record { 0 = 0 }) low in
    omega (arith, set, here, up, capped)

pub left_after : (crowd : CrowdData) (seats : List ℕ) (before after : List Tokens) (s : ℕ) (price : Tokens) → ArePricesFor crowd before
    → IsRoundAt crowd seats before after s price → left crowd after < left crowd before
left_after crowd seats before after s price are is =
    let size : length before ≡ crowd.sections = are.same in
    let low : s < crowd.sections = is.most.in_range in
    let below : limit_after (count crowd (price_in before) s) (slice_index seats s) < count crowd (price_in before) s =
    limit_below (count crowd (price_in before) s) (slice_index seats s) is.most.over in
    subst (λ prices. left crowd prices < left crowd before) (sym is.changed)
    (left_falls crowd before s price (omega arith) (least_above crowd (price_in before) s (limit_after (count crowd (price_in before) s) (slice_index seats s)) price.0 below is.least)
    (least_capped crowd (price_in before) s (limit_after (count crowd (price_in before) s) (slice_index seats s)) price.0 is.least))

-- the top of a crowd is at most 1,000,001
pub top_high : (crowd : CrowdData) → IsCrowd crowd → top crowd ≤ 1000001
unfolding top
top_high crowd is = let high : greatest_budget crowd.students ≤ 1000000 = among crowd.students is.budgets in omega arith
  where
    among : (students : List Student) → All (λ student. student.budget ≤ 1000000) students → greatest_budget students ≤ 1000000
    among [] all = omega arith
    among (x ∷ xs) all =
        let here : x.budget ≤ 1000000 = all 0 x (omega arith) in
        let rest : greatest_budget xs ≤ 1000000 = among xs (λ i d low. all (suc i) d (let h : suc i < suc (length xs) = omega arith in h)) in
        omega arith

-- at most 400 prices leave less than a u32 can count
pub left_high : (crowd : CrowdData) (prices : List Tokens) → IsCrowd crowd → length prices ≡ crowd.sections → left crowd prices ≤ 400000400
left_high crowd prices is size =
    let few : crowd.sections ≤ 400 = is.sections in
    let high : top crowd ≤ 1000001 = top_high crowd is in
    let each : left crowd prices ≤ length prices * 1000001 = all prices in
    omega arith
  where
    all : (ps : List Tokens) → left crowd ps ≤ length ps * 1000001
    all [] = omega arith
    all (x ∷ xs) = let rest : left crowd xs ≤ length xs * 1000001 = all xs in let high : top crowd ≤ 1000001 = top_high crowd is in omega arith

-- some price is the least
pub find_least : (crowd : CrowdData) (price : ℕ → ℕ) (s limit : ℕ) → (least : ℕ) × IsLeastPrice crowd price s limit least
find_least crowd price s limit = from (top crowd) 0 (omega arith) (λ p below. absurd (omega arith))
  where
    from : (fuel k : ℕ) → top crowd ≤ k + fuel → ((p : ℕ) → p < k → limit < count crowd (with_price price s p) s)
        → (least : ℕ) × IsLeastPrice crowd price s limit least
    from zero k reached lower =
        let none : count crowd (with_price price s k) s ≡ 0 = none_at_top crowd s (with_price price s k) (rw (with_here price s k) (omega arith)) in
        (k, record { within = omega arith; lower = lower })
    from (suc fuel) k reached lower = elim (cases_lt limit (count crowd (with_price price s k) s)) [
      | inl more ↦ from fuel (suc k) (omega arith) (λ p below. elim (cases_lt p k) [
        | inl before ↦ lower p before
        | inr not ↦ let e : p ≡ k = omega arith in rw e more
      ])
      | inr few ↦ (k, record { within = few; lower = lower })
    ]

-- a round that was found: its least price, from the present one up to the top
pub record RoundFound (crowd : CrowdData) (seats : List ℕ) (held : HeldData) (section : SectionNo) (price : Tokens) : Type 0 where
  pub round : IsRoundAt crowd seats held.prices (slice_set held.prices section.0 price) section.0 price
  pub up : price_in held.prices section.0 ≤ price.0
  pub capped : price.0 ≤ top crowd

pub round_found : (crowd : CrowdData) (seats : List ℕ) (held : HeldData) (section : SectionNo) (prices found : List Tokens) (n k : ℕ) (price : Tokens)
    → Holds crowd held → IsMostOver crowd.sections (count crowd (price_in held.prices)) seats section.0
    → prices ≡ held.prices → n ≡ holders section.0 held.bundles → k ≡ slice_index seats section.0 → price ≡ slice_index_or found 0 price
    → AreLeastPrices crowd (price_in prices) ((section, limit_after n k) ∷ []) found → RoundFound crowd seats held section price
round_found crowd seats held section prices [] n k price holds over same many some read found = absurd found
round_found crowd seats held section prices (least ∷ more) n k price holds over same many some read found =
    let counted : n ≡ count crowd (price_in held.prices) section.0 = many ∙ ap (holders section.0) holds.bundles in
    let limit : limit_after n k ≡ limit_after (count crowd (price_in held.prices) section.0) (slice_index seats section.0) =
    ap (λ m. limit_after m k) counted ∙ ap (limit_after (count crowd (price_in held.prices) section.0)) some in
    let here : IsLeastFrom (price_in held.prices section.0) crowd (price_in held.prices) section.0 (limit_after n k) least.0 =
    subst (λ ps. IsLeastFrom (price_in ps section.0) crowd (price_in ps) section.0 (limit_after n k) least.0) same found.0 in
    let from : IsLeastFrom (price_in held.prices section.0) crowd (price_in held.prices) section.0
    (limit_after (count crowd (price_in held.prices) section.0) (slice_index seats section.0)) price.0 =
    subst
    (λ p. IsLeastFrom (price_in held.prices section.0) crowd (price_in held.prices) section.0
    (limit_after (count crowd (price_in held.prices) section.0) (slice_index seats section.0)) p.0)
    (sym read)
    (subst (λ m. IsLeastFrom (price_in held.prices section.0) crowd (price_in held.prices) section.0 m least.0) limit here) in
    let below : limit_after (count crowd (price_in held.prices) section.0) (slice_index seats section.0) < count crowd (price_in held.prices) section.0 =
    limit_below (count crowd (price_in held.prices) section.0) (slice_index seats section.0) over.over in
    let is : IsLeastPrice crowd (price_in held.prices) section.0 (limit_after (count crowd (price_in held.prices) section.0) (slice_index seats section.0))
    price.0 =
    least_of_all crowd (price_in held.prices) section.0 (limit_after (count crowd (price_in held.prices) section.0) (slice_index seats section.0)) price.0
    below from in
    record {
      round = record { most = over; least = is; changed = refl };
      up = from.from;
      capped =
          least_capped crowd (price_in held.prices) section.0 (limit_after (count crowd (price_in held.prices) section.0) (slice_index seats section.0)) price.0
          is;
    }
