-- The section of greatest excess among the first ones.
use Rattle.std.proofs.Common.{ℕ, zero, suc, ◌≡◌, ◌<◌, ◌≤◌, ◌+◌, ◌-◌, pos, ◌≤ℤ◌, ◌<ℤ◌, ◌⊎◌, List, Option, Some, None, arith, refl, sym, subst, inl, inr}
use Rattle.std.proofs.lemmas.Int.{ints}
use Rattle.std.specs.Prelude.{slice_index, IfSome, IfNone}
use Rattle.std.proofs.lemmas.Bool.{cases_order, cases_lt}
use Rattle.market_units.specs.declared.units.SectionNo.{SectionNo}
use Rattle.clearing_error.specs.Errors.{excess}
use Rattle.oversubscription_stage.specs.Rounds.{AreCountsWithin, IsMostOver}

-- the section found among the first ones, and how many it has too many, 0 where there is none
abbrev pub MostSoFar : (ℕ → ℕ) → List ℕ → ℕ → ℕ → Option SectionNo → Type 0
MostSoFar count seats n greatest None = (greatest ≡ 0) × AreCountsWithin n count seats
MostSoFar count seats n greatest (Some section) = (count section.0 ≡ slice_index seats section.0 + greatest) × IsMostOver n count seats section.0

-- one place more
last_or_before : (n t : ℕ) → t < n + 1 → (t ≡ n) ⊎ (t < n)
last_or_before n t low = elim (cases_order t n) [
  | inl same ↦ inl same
  | inr (inl before) ↦ inr before
  | inr (inr after) ↦ absurd (omega arith)
]

-- more are too many here than anywhere before
over_here : (count : ℕ → ℕ) (seats : List ℕ) (n over : ℕ) → over ≡ count n - slice_index seats n → 0 < over
    → ((t : ℕ) → t < n → excess (count t) (slice_index seats t) <ℤ pos over) → IsMostOver (n + 1) count seats n
over_here count seats n over is some before = record {
  in_range = omega arith;
  over = omega (arith, is, some);
  greatest = λ t low. elim (last_or_before n t low) [
    | inl same ↦ subst (λ k. excess (count k) (slice_index seats k) ≤ℤ excess (count n) (slice_index seats n)) (sym same) (omega (arith, ints))
    | inr less ↦ let h = before t less in omega (arith, ints, is, some, h)
  ];
  lowest = λ t less. let h = before t less in omega (arith, ints, is, some, h);
}

pub most_more : (count : ℕ → ℕ) (seats : List ℕ) (n greatest over : ℕ) (most : Option SectionNo) (section : SectionNo) → section.0 ≡ n
    → MostSoFar count seats n greatest most → over ≡ count n - slice_index seats n → greatest < over
    → MostSoFar count seats (n + 1) over (Some section)
most_more count seats n greatest over None section at so_far is more =
    subst (λ k. (count k ≡ slice_index seats k + over) × IsMostOver (n + 1) count seats k) (sym at) (
      omega (arith, is, more),
      over_here count seats n over is (omega arith)
          (λ t before. let few : count t ≤ slice_index seats t = so_far.1 t before in omega (arith, ints, few, more)),
    )
most_more count seats n greatest over (Some other) section at so_far is more =
    subst (λ k. (count k ≡ slice_index seats k + over) × IsMostOver (n + 1) count seats k) (sym at) (
      omega (arith, is, more),
      over_here count seats n over is (omega arith)
          (λ t before. let less = so_far.1.greatest t before in let most = so_far.0 in omega (arith, ints, less, most, more)),
    )

pub most_same : (count : ℕ → ℕ) (seats : List ℕ) (n greatest over : ℕ) (most : Option SectionNo) → MostSoFar count seats n greatest most
    → over ≡ count n - slice_index seats n → over ≤ greatest → MostSoFar count seats (n + 1) greatest most
most_same count seats n greatest over None so_far is few = (
  so_far.0,
  λ t low. elim (last_or_before n t low) [
    | inl same ↦ let none = so_far.0 in subst (λ k. count k ≤ slice_index seats k) (sym same) (omega (arith, is, few, none))
    | inr before ↦ so_far.1 t before
  ],
)
most_same count seats n greatest over (Some other) so_far is few = (
  so_far.0,
  record {
    in_range = let low : other.0 < n = so_far.1.in_range in omega arith;
    over = so_far.1.over;
    greatest = λ t low. elim (last_or_before n t low) [
      | inl same ↦
          let most = so_far.0 in
          subst (λ k. excess (count k) (slice_index seats k) ≤ℤ excess (count other.0) (slice_index seats other.0)) (sym same)
          (omega (arith, ints, is, few, most))
      | inr before ↦ so_far.1.greatest t before
    ];
    lowest = so_far.1.lowest;
  },
)

-- the first sections have one of greatest excess, or all are within their seats
pub find_most : (count : ℕ → ℕ) (seats : List ℕ) (n : ℕ) → ((s : ℕ) × IsMostOver n count seats s) ⊎ AreCountsWithin n count seats
find_most count seats n = told (found n)
  where
    next : (k : ℕ) → (greatest : ℕ) × (most : Option SectionNo) × MostSoFar count seats k greatest most
        → (greatest : ℕ) × (most : Option SectionNo) × MostSoFar count seats (suc k) greatest most
    next k before = let one_more : k + 1 ≡ suc k = omega arith in elim (cases_lt before.0 (count k - slice_index seats k)) [
      | inl more ↦ (
        count k - slice_index seats k,
        Some (record { 0 = k }),
        subst (λ m. MostSoFar count seats m (count k - slice_index seats k) (Some (record { 0 = k }))) one_more
            (most_more count seats k before.0 (count k - slice_index seats k) before.1 (record { 0 = k }) refl before.2 refl more),
      )
      | inr few ↦ (
        before.0,
        before.1,
        subst (λ m. MostSoFar count seats m before.0 before.1) one_more
            (most_same count seats k before.0 (count k - slice_index seats k) before.1 before.2 refl few),
      )
    ]

    found : (k : ℕ) → (greatest : ℕ) × (most : Option SectionNo) × MostSoFar count seats k greatest most
    found zero = (0, None, (refl, λ t low. absurd (omega arith)))
    found (suc k) = next k (found k)

    told_of : (greatest : ℕ) (most : Option SectionNo) → MostSoFar count seats n greatest most
        → ((s : ℕ) × IsMostOver n count seats s) ⊎ AreCountsWithin n count seats
    told_of greatest None so_far = inr so_far.1
    told_of greatest (Some section) so_far = inl (section.0, so_far.1)

    told : (greatest : ℕ) × (most : Option SectionNo) × MostSoFar count seats n greatest most
        → ((s : ℕ) × IsMostOver n count seats s) ⊎ AreCountsWithin n count seats
    told whole = told_of whole.0 whole.1 whole.2

-- the section is one
pub one_most : (n : ℕ) (count : ℕ → ℕ) (seats : List ℕ) (s t : ℕ) → IsMostOver n count seats s → IsMostOver n count seats t → s ≡ t
one_most n count seats s t is is' = elim (cases_order s t) [
  | inl same ↦ same
  | inr (inl before) ↦ let less = is'.lowest s before in let more = is.greatest t is'.in_range in absurd (omega (arith, ints, less, more))
  | inr (inr after) ↦ let less = is.lowest t after in let more = is'.greatest s is.in_range in absurd (omega (arith, ints, less, more))
]

-- what the search tells at its end
pub most_some : (count : ℕ → ℕ) (seats : List ℕ) (n greatest : ℕ) (most : Option SectionNo) → MostSoFar count seats n greatest most
    → IfSome most (λ section. IsMostOver n count seats section.0)
most_some count seats n greatest None so_far = tt
most_some count seats n greatest (Some section) so_far = so_far.1

pub most_none : (count : ℕ → ℕ) (seats : List ℕ) (n greatest : ℕ) (most : Option SectionNo) → MostSoFar count seats n greatest most
    → IfNone most (AreCountsWithin n count seats)
most_none count seats n greatest None so_far = so_far.1
most_none count seats n greatest (Some section) so_far = tt
