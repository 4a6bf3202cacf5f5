-- Prices tried by halving.
use Rattle.std.proofs.Common.{ℕ, zero, suc, ◌≡◌, ◌≢◌, ◌<◌, ◌≤◌, ◌+◌, ◌-◌, ◌/◌, ◌*◌, ◌^◌, ◌==◌, true, false, List, length, arith, refl, sym, ◌∙◌, min, ap, subst, inl, inr}
use Rattle.std.specs.Prelude.{map, slice_index, slice_index_or, slice_set}
use Rattle.std.proofs.lemmas.Bool.{cases_Bool, cases_lt, ne_eqb}
use Rattle.std.proofs.lemmas.Bool.Decides.{nat_tests}
use Rattle.std.proofs.lemmas.List.{get_or-map, get_or-set_same, get_or-set_other, map-set, length-set}
use Rattle.std.proofs.lemmas.List.Elements.{All-set}
use Rattle.std.proofs.Math.Nat.{pow-suc}
use Rattle.demand_api.proofs.Counts.{count_falls, none_at_top}
use Rattle.market_units.specs.declared.units.Tokens.{Tokens}
use Rattle.bundle_rules.specs.Demand.{price_in}
use Rattle.demand_api.specs.Crowds.{CrowdData, top, count}
use Rattle.demand_api.specs.Prices.{with_price, IsRaised, IsLeastFrom}
use Rattle.market_units.specs.Counts.{one_more}
use Rattle.demand_api.specs.Asking.{ArePricesFor, RoseAtMost, RoseBy}

-- a copy of the prices
pub record IsTrial (crowd : CrowdData) (prices trial : List Tokens) : Type 0 where
  pub fits : ArePricesFor crowd trial
  pub same : (t : ℕ) → price_in trial t ≡ price_in prices t

-- the least price is from low to high, and the trial is the prices but for the section
pub record IsHalving (crowd : CrowdData) (prices trial : List Tokens) (s limit low high : ℕ) : Type 0 where
  pub trial_fits : ArePricesFor crowd trial
  pub others : (t : ℕ) → t ≢ s → price_in trial t ≡ price_in prices t
  pub from : price_in prices s ≤ low
  pub ordered : low ≤ high
  pub below_top : high ≤ top crowd
  pub lower : (p : ℕ) → price_in prices s ≤ p → p < low → limit < count crowd (with_price (price_in prices) s p) s
  pub within : count crowd (with_price (price_in prices) s high) s ≤ limit

-- the count did not fall, and rose at most so much for each halving: those that are left fit the digits of n
pub record AreHalvings (each n low high before now : ℕ) : Type 0 where
  pub kept : min before (2 ^ 64 - 1) ≤ now
  pub most : (digits : ℕ) → n < 2 ^ digits → (left : ℕ) × (high - low < 2 ^ left) × (now + left * each ≤ before + digits * each)

pub halvings_begin : (each n low high before : ℕ) → high ≤ n → AreHalvings each n low high before before
halvings_begin each n low high before within = record { kept = omega arith; most = λ digits fits. (digits, omega arith, omega arith) }

-- one halving more: what is left, from a to b, is at most half of what was left
halvings_on : (each n low high before now after a b : ℕ) → AreHalvings each n low high before now → low < high → RoseAtMost each now after
    → (b - a) * 2 ≤ high - low → AreHalvings each n a b before after
halvings_on each n low high before now after a b are apart rose half = record {
  kept = let so_far = are.kept in let kept = rose.kept in omega arith;
  most = λ digits fits. one_less digits (are.most digits fits);
}
  where
    one_less : (digits : ℕ) → (left : ℕ) × (high - low < 2 ^ left) × (now + left * each ≤ before + digits * each)
        → (left : ℕ) × (b - a < 2 ^ left) × (after + left * each ≤ before + digits * each)
    one_less digits (zero, small, few) = absurd (omega arith)
    one_less digits (suc less, small, few) =
        let double : 2 ^ suc less ≡ 2 ^ less * 2 = pow-suc 2 less in
        let most : after ≤ now + each = rose.most in
        (less, omega arith, omega arith)

-- after it the upper half is left, or the lower one
pub halvings_up : (each n low high before now after : ℕ) → AreHalvings each n low high before now → low < high → RoseAtMost each now after
    → AreHalvings each n (low + (high - low) / 2 + 1) high before after
halvings_up each n low high before now after are apart rose =
    halvings_on each n low high before now after (low + (high - low) / 2 + 1) high are apart rose (omega arith)

pub halvings_down : (each n low high before now after : ℕ) → AreHalvings each n low high before now → low < high → RoseAtMost each now after
    → AreHalvings each n low (low + (high - low) / 2) before after
halvings_down each n low high before now after are apart rose =
    halvings_on each n low high before now after low (low + (high - low) / 2) are apart rose (omega arith)

-- all halvings of one price
pub halvings_most : (each n low high before now digits : ℕ) → AreHalvings each n low high before now → n < 2 ^ digits → now ≤ before + digits * each
halvings_most each n low high before now digits are fits = let few = (are.most digits fits).2 in omega arith

-- a sum that stands still at the greatest u64
pub rose_by : (rise n before after : ℕ) → RoseBy n before after → n ≤ rise → RoseAtMost rise before after
rose_by rise n before after is within = record { kept = omega arith; most = omega arith }

-- one call more
pub rose_by_one : (now after : ℕ) → after ≡ one_more now → RoseAtMost 1 now after
rose_by_one now after is = rose_by 1 1 now after is (omega arith)

-- the price at a section, as a list is read
pub price_at : (prices : List Tokens) (s : ℕ) (d : Tokens) → s < length prices → price_in prices s ≡ (slice_index_or prices s d).0
price_at prices s d low = get_or-map (λ price. price.0) prices s d 0 low

-- one price written
pub price_written : (prices : List Tokens) (s p : ℕ) → s < length prices → price_in (slice_set prices s (record { 0 = p })) s ≡ p
price_written prices s p low =
    price_at (slice_set prices s (record { 0 = p })) s (record { 0 = 0 }) (rw (length-set prices s (record { 0 = p })) low)
    ∙ ap (λ price. price.0) (get_or-set_same prices s (record { 0 = p }) (record { 0 = 0 }) low)

pub price_kept : (prices : List Tokens) (s p t : ℕ) → t ≢ s → price_in (slice_set prices s (record { 0 = p })) t ≡ price_in prices t
price_kept prices s p t other =
    ap (λ ps. slice_index ps t) (map-set (λ price. price.0) prices s (record { 0 = p }))
    ∙ get_or-set_other (map (λ (price : Tokens). price.0) prices) s t p 0 other

-- prices that are the same have the same counts
pub count_same : (crowd : CrowdData) (one other : ℕ → ℕ) (s : ℕ) → ((t : ℕ) → one t ≡ other t) → count crowd one s ≡ count crowd other s
count_same crowd one other s same =
    let down : count crowd other s ≤ count crowd one s =
    count_falls crowd s one other (record { others = λ t apart. sym (same t); raised = let e : one s ≡ other s = same s in omega arith }) in
    let up : count crowd one s ≤ count crowd other s =
    count_falls crowd s other one (record { others = λ t apart. same t; raised = let e : one s ≡ other s = same s in omega arith }) in
    omega arith

-- the price that is put in stands there
pub with_here : (price : ℕ → ℕ) (s p : ℕ) → with_price price s p s ≡ p
with_here price s p = let here : (s == s) ≡ true = grind (arith, nat_tests) in rw here refl

pub with_there : (price : ℕ → ℕ) (s p t : ℕ) → t ≢ s → with_price price s p t ≡ price t
with_there price s p t other = let there : (t == s) ≡ false = ne_eqb t s other in rw there refl

-- the count at the present price
pub count_present : (crowd : CrowdData) (price : ℕ → ℕ) (s : ℕ) → count crowd (with_price price s (price s)) s ≡ count crowd price s
count_present crowd price s = count_same crowd (with_price price s (price s)) price s same
  where
    same : (t : ℕ) → with_price price s (price s) t ≡ price t
    same t = elim (cases_Bool (t == s)) [
      | inl here ↦ let e : t ≡ s = grind (arith, nat_tests) in rw e (with_here price s (price s))
      | inr there ↦ with_there price s (price s) t (λ e. grind (arith, nat_tests))
    ]

-- a higher price of one section
pub with_raised : (price : ℕ → ℕ) (s p q : ℕ) → p ≤ q → IsRaised s (with_price price s p) (with_price price s q)
with_raised price s p q more = record {
  others = λ t other. with_there price s q t other ∙ sym (with_there price s p t other);
  raised = rw (with_here price s p, with_here price s q) more;
}

pub count_falls_with : (crowd : CrowdData) (price : ℕ → ℕ) (s p q : ℕ) → p ≤ q → count crowd (with_price price s q) s ≤ count crowd (with_price price s p) s
count_falls_with crowd price s p q more = count_falls crowd s (with_price price s p) (with_price price s q) (with_raised price s p q more)

pub halving_begins : (crowd : CrowdData) (prices trial : List Tokens) (s limit low high : ℕ) → ArePricesFor crowd prices → IsTrial crowd prices trial
    → s < crowd.sections
    → low ≡ (slice_index_or prices s (record { 0 = 0 })).0 → high ≡ top crowd → IsHalving crowd prices trial s limit low high
halving_begins crowd prices trial s limit low high are is in_range at at_top =
    let length_is : length prices ≡ crowd.sections = are.same in
    let here : price_in prices s ≡ (slice_index_or prices s (record { 0 = 0 })).0 = price_at prices s (record { 0 = 0 }) (omega arith) in
    let most : (slice_index_or prices s (record { 0 = 0 })).0 ≤ top crowd = are.high s (record { 0 = 0 }) (omega arith) in
    record {
      trial_fits = is.fits;
      others = λ t other. is.same t;
      from = omega arith;
      ordered = omega arith;
      below_top = omega arith;
      lower = λ p from below. absurd (omega arith);
      within =
          let none : count crowd (with_price (price_in prices) s high) s ≡ 0 =
          none_at_top crowd s (with_price (price_in prices) s high) (rw (with_here (price_in prices) s high) (omega arith)) in
          omega arith;
    }

-- the prices of the trial are the given ones with the tried price
pub tried : (crowd : CrowdData) (prices trial : List Tokens) (s p : ℕ) → ArePricesFor crowd trial → ((t : ℕ) → t ≢ s → price_in trial t ≡ price_in prices t)
    → s < crowd.sections
    → (t : ℕ) → price_in (slice_set trial s (record { 0 = p })) t ≡ with_price (price_in prices) s p t
tried crowd prices trial s p fits others in_range t = elim (cases_Bool (t == s)) [
  | inl here ↦
      let e : t ≡ s = grind (arith, nat_tests) in
      let length_is : length trial ≡ crowd.sections = fits.same in
      rw e (price_written trial s p (omega arith) ∙ sym (with_here (price_in prices) s p))
  | inr there ↦
      let other : t ≢ s = λ e. grind (arith, nat_tests) in
      price_kept trial s p t other ∙ others t other ∙ sym (with_there (price_in prices) s p t other)
]

module _ (crowd : CrowdData) (prices trial : List Tokens) (s limit low high : ℕ) (is : IsHalving crowd prices trial s limit low high)
    (in_range : s < crowd.sections) (apart : low < high) where
  -- the price in the middle
  abbrev middle : ℕ
  middle = low + (high - low) / 2

  trial_then : ArePricesFor crowd (slice_set trial s (record { 0 = middle }))
  trial_then = let capped : high ≤ top crowd = is.below_top in record {
    same = length-set trial s (record { 0 = middle }) ∙ is.trial_fits.same;
    high = All-set (λ price. price.0 ≤ top crowd) trial s (record { 0 = middle }) (omega arith) is.trial_fits.high;
  }

  others_then : (t : ℕ) → t ≢ s → price_in (slice_set trial s (record { 0 = middle })) t ≡ price_in prices t
  others_then t other = price_kept trial s middle t other ∙ is.others t other

  count_then : count crowd (price_in (slice_set trial s (record { 0 = middle }))) s ≡ count crowd (with_price (price_in prices) s middle) s
  count_then =
      count_same crowd (price_in (slice_set trial s (record { 0 = middle }))) (with_price (price_in prices) s middle) s
      (tried crowd prices trial s middle is.trial_fits is.others in_range)

  pub halving_up : limit < count crowd (price_in (slice_set trial s (record { 0 = middle }))) s
      → IsHalving crowd prices (slice_set trial s (record { 0 = middle })) s limit (middle + 1) high
  halving_up more =
      let from : price_in prices s ≤ low = is.from in
      record {
        trial_fits = trial_then;
        others = others_then;
        from = omega arith;
        ordered = omega arith;
        below_top = is.below_top;
        lower = λ p at below.
            let falls : count crowd (with_price (price_in prices) s middle) s ≤ count crowd (with_price (price_in prices) s p) s =
            count_falls_with crowd (price_in prices) s p middle (omega arith) in
            let same : count crowd (price_in (slice_set trial s (record { 0 = middle }))) s ≡ count crowd (with_price (price_in prices) s middle) s =
            count_then in
            omega arith;
        within = is.within;
      }

  pub halving_down : ¬ (limit < count crowd (price_in (slice_set trial s (record { 0 = middle }))) s)
      → IsHalving crowd prices (slice_set trial s (record { 0 = middle })) s limit low middle
  halving_down few_enough =
      let capped : high ≤ top crowd = is.below_top in
      record {
        trial_fits = trial_then;
        others = others_then;
        from = is.from;
        ordered = omega arith;
        below_top = omega arith;
        lower = is.lower;
        within =
            let same : count crowd (price_in (slice_set trial s (record { 0 = middle }))) s ≡ count crowd (with_price (price_in prices) s middle) s =
            count_then in
            elim (cases_lt limit (count crowd (price_in (slice_set trial s (record { 0 = middle }))) s)) [
              | inl more ↦ absurd (few_enough more)
              | inr within ↦ omega arith
            ];
      }

-- a step, as the code has it
pub step_up : (crowd : CrowdData) (prices trial : List Tokens) (s index limit low high : ℕ)
    → IsHalving crowd prices trial s limit low high → s < crowd.sections → low < high → index ≡ s
    → limit < count crowd (price_in (slice_set trial index (record { 0 = low + (high - low) / 2 }))) s
    → IsHalving crowd prices (slice_set trial index (record { 0 = low + (high - low) / 2 })) s limit (low + (high - low) / 2 + 1) high
step_up crowd prices trial s index limit low high is in_range apart at more =
    rw at
    (halving_up crowd prices trial s limit low high is in_range apart
    (subst (λ i. limit < count crowd (price_in (slice_set trial i (record { 0 = low + (high - low) / 2 }))) s) at more))

pub step_down : (crowd : CrowdData) (prices trial : List Tokens) (s index limit low high : ℕ)
    → IsHalving crowd prices trial s limit low high → s < crowd.sections → low < high → index ≡ s
    → ¬ (limit < count crowd (price_in (slice_set trial index (record { 0 = low + (high - low) / 2 }))) s)
    → IsHalving crowd prices (slice_set trial index (record { 0 = low + (high - low) / 2 })) s limit low (low + (high - low) / 2)
step_down crowd prices trial s index limit low high is in_range apart at few =
    rw at
    (halving_down crowd prices trial s limit low high is in_range apart
    (subst (λ i. ¬ (limit < count crowd (price_in (slice_set trial i (record { 0 = low + (high - low) / 2 }))) s)) at few))

-- the price is put back
pub trial_again : (crowd : CrowdData) (prices trial : List Tokens) (s index limit low high : ℕ) (d : Tokens) → ArePricesFor crowd prices
    → IsHalving crowd prices trial s limit low high → s < crowd.sections → index ≡ s
    → IsTrial crowd prices (slice_set trial index (slice_index_or prices index d))
trial_again crowd prices trial s index limit low high d are is in_range at =
    let length_is : length prices ≡ crowd.sections = are.same in
    let here : price_in prices s ≡ (slice_index_or prices s d).0 = price_at prices s d (omega arith) in
    let p : ℕ = (slice_index_or prices s d).0 in
    rw at record {
      fits = record {
        same = length-set trial s (slice_index_or prices s d) ∙ is.trial_fits.same;
        high = All-set (λ price. price.0 ≤ top crowd) trial s (slice_index_or prices s d) (are.high s d (omega arith)) is.trial_fits.high;
      };
      same = λ t. tried crowd prices trial s p is.trial_fits is.others in_range t ∙ put_back t here;
    }
  where
    put_back : (t : ℕ) → price_in prices s ≡ (slice_index_or prices s d).0 → with_price (price_in prices) s (slice_index_or prices s d).0 t ≡ price_in prices t
    put_back t here = elim (cases_Bool (t == s)) [
      | inl same ↦ let e : t ≡ s = grind (arith, nat_tests) in rw e (with_here (price_in prices) s (slice_index_or prices s d).0 ∙ sym here)
      | inr apart ↦ with_there (price_in prices) s (slice_index_or prices s d).0 t (λ e. grind (arith, nat_tests))
    ]

-- what is left when low meets high
pub halved : (crowd : CrowdData) (prices trial : List Tokens) (s limit low high : ℕ) → IsHalving crowd prices trial s limit low high
    → ¬ (low < high) → IsLeastFrom (price_in prices s) crowd (price_in prices) s limit low
halved crowd prices trial s limit low high is met =
    let ordered : low ≤ high = is.ordered in
    let e : high ≡ low = omega arith in
    record { from = is.from; within = subst (λ p. count crowd (with_price (price_in prices) s p) s ≤ limit) e is.within; lower = is.lower }

-- one price that is written over a lower one
pub is_raised : (prices : List Tokens) (s : ℕ) (price : Tokens) → s < length prices → price_in prices s ≤ price.0
    → IsRaised s (price_in prices) (price_in (slice_set prices s price))
is_raised prices s price low up =
    let here : price_in (slice_set prices s price) s ≡ price.0 = price_written prices s price.0 low in
    record { others = λ t apart. price_kept prices s price.0 t apart; raised = omega (arith, here, up) }
