-- Rows and words that are filled place by place.
use Rattle.std.proofs.Common.{◌≡◌, ◌<◌, ◌≤◌, ◌+◌, ◌-◌, ◌*◌, ◌%◌, ◌^◌, ◌⊎◌, min, max, ℕ, Bool, true, List, length, slice_index, slice_set, sym, ◌∙◌, ap, subst, arith, inl, inr, w64}
use Rattle.std.specs.Prelude.{◌≢◌, ◌↔◌, bit_and, bit_or}
use Rattle.std.specs.Int.{bit_at}
use Rattle.std.proofs.lemmas.Bool.{cases_eq, cases_lt, eq-eqb}
use Rattle.std.proofs.lemmas.Bool.Decides.{Decides-eqb}
use Rattle.std.proofs.lemmas.Nat.Bits.{bit_at-lt, bit_at_and, bit_at_or, bit_at_ones, bit_at_ones_above, bit_at_set_same, bit_at_set_other}
use Rattle.std.proofs.Math.Nat.{mod-eq_of_lt}
use Rattle.std.proofs.Math.Pow.{pow-lt}
use Rattle.std.proofs.lemmas.List.{get_or-set_same, get_or-set_other}
use Rattle.bundle_rules.specs.Menus.{MenuData, IsMenu, clash_in}
use Rattle.demand_oracle.specs.OpenWords.{IsWordOf, Clashes}

-- one more place of a row
pub row_more : (Holds : ℕ → ℕ → Type 0) (row : List ℕ) (n at v : ℕ) → at ≡ n → n < length row → ((p : ℕ) → p < n → Holds p (slice_index row p)) → Holds n v
    → (p : ℕ) → p < n + 1 → Holds p (slice_index (slice_set row at v) p)
row_more Holds row n at v same on filled own p low = elim (cases_eq p n) [
  | inl here ↦
      subst (λ q. Holds q (slice_index (slice_set row at v) q)) (sym here)
      (subst (Holds n) (sym (ap (λ i. slice_index (slice_set row i v) n) same ∙ get_or-set_same row n v 0 on)) own)
  | inr other ↦
      let kept : slice_index (slice_set row at v) p ≡ slice_index row p =
      ap (λ i. slice_index (slice_set row i v) p) same ∙ get_or-set_other row n p v 0 other in
      subst (Holds p) (sym kept) (filled p (omega arith))
]

-- one more place of a word
pub word_more : (Holds : ℕ → Type 0) (word n more : ℕ) (is_set : Bool) → IsWordOf Holds n word
    → ((p : ℕ) → (bit_at more p ≡ 1) ↔ ((bit_at word p ≡ 1) ⊎ ((p ≡ n) × (is_set ≡ true)))) → ((is_set ≡ true) ↔ Holds n) → IsWordOf Holds (n + 1) more
word_more Holds word n more is_set are set_as own p = (
  λ set. elim ((set_as p).0 set) [
    | inl before ↦ (let at = (are p).0 before in (omega arith, at.1))
    | inr here ↦ (let same : p ≡ n = here.0 in omega arith, subst Holds (sym here.0) (own.0 here.1))
  ],
  λ holds. elim (cases_eq p n) [
    | inl here ↦ (set_as p).1 (inr (here, own.1 (subst Holds here holds.1)))
    | inr other ↦ (set_as p).1 (inl ((are p).1 ((let low = holds.0 in omega arith), holds.1)))
  ],
)

-- a row of clashes without its bits past the last place
pub clash_word : (menu : MenuData) → IsMenu menu → (k n : ℕ) → n ≡ length menu.places → k < length menu.places
    → IsWordOf (Clashes menu k) (length menu.places) (bit_and (slice_index menu.clashes k) (1 * 2 ^ n % 2 ^ 64 - 1))
clash_word menu is k n same on p =
    let few : length menu.places ≤ 60 = is.places.few in
    let word : ℕ = slice_index menu.clashes k in
    let whole : 1 * 2 ^ n % 2 ^ 64 - 1 ≡ 2 ^ n - 1 =
    ap (λ m. m - 1) (ap (λ m. m % 2 ^ 64) (omega arith) ∙ mod-eq_of_lt (pow-lt {i = n} {j = 64} (omega arith))) in
    let bits : bit_at (bit_and word (1 * 2 ^ n % 2 ^ 64 - 1)) p ≡ min (bit_at word p) (bit_at (2 ^ n - 1) p) =
    ap (λ m. bit_at (bit_and word m) p) whole ∙ bit_at_and word (2 ^ n - 1) p in
    let small : bit_at word p < 2 = bit_at-lt word p in
    let both : p < length menu.places → clash_in menu.clashes k p ≡ clash_in menu.clashes p k = λ low. (is.clashes.each k p on low).both_ways in (
      λ set. elim (cases_lt p n) [
        | inl low ↦
            let below : p < length menu.places = omega arith in
            let one : bit_at (2 ^ n - 1) p ≡ 1 = bit_at_ones n p low in
            let own : bit_at word p ≡ 1 = omega arith in
            (below, sym (both below) ∙ eq-eqb (bit_at word p) 1 own)
        | inr high ↦ absurd (let none : bit_at (2 ^ n - 1) p ≡ 0 = bit_at_ones_above n p (omega arith) in omega arith)
      ],
      λ clash.
          let low : p < n = (let below = clash.0 in omega arith) in
          let one : bit_at (2 ^ n - 1) p ≡ 1 = bit_at_ones n p low in
          let own : bit_at word p ≡ 1 = (Decides-eqb (bit_at word p) 1).0 (both clash.0 ∙ clash.1) in
          omega arith,
    )

module _ (column : ℕ → ℕ) (words : List ℕ) (n at : ℕ) (low : n < 64) (filled : (p : ℕ) → p < n → bit_at (slice_index words (column p)) p ≡ 1) where
  abbrev more : ℕ
  more = bit_or (slice_index words at) (1 * 2 ^ n % 2 ^ 64)

  in_more : (p : ℕ) → p < n + 1 → column p ≡ at → bit_at more p ≡ 1
  in_more p below here = elim (cases_eq p n) [
    | inl last ↦ subst (λ q. bit_at more q ≡ 1) (sym last) (bit_at_set_same w64 (slice_index words at) n low)
    | inr other ↦
        bit_at_set_other w64 (slice_index words at) n low p other
        ∙ subst (λ i. bit_at (slice_index words i) p ≡ 1) here (filled p (omega arith))
  ]

  -- one more place in the word of its column
  pub column_more : at ≡ column n → at < length words → (p : ℕ) → p < n + 1
      → bit_at (slice_index (slice_set words at (bit_or (slice_index words at) (1 * 2 ^ n % 2 ^ 64))) (column p)) p ≡ 1
  column_more same on p below = elim (cases_eq (column p) at) [
    | inl here ↦
        subst (λ i. bit_at (slice_index (slice_set words at more) i) p ≡ 1) (sym here)
        (ap (λ w. bit_at w p) (get_or-set_same words at more 0 on) ∙ in_more p below here)
    | inr other ↦
        let before : p ≢ n = λ last. other (ap column last ∙ sym same) in
        ap (λ w. bit_at w p) (get_or-set_other words at (column p) more 0 other) ∙ filled p (omega arith)
  ]

-- the places of one more word
pub words_more : (words : List ℕ) (word n : ℕ) → ((column p : ℕ) → column < n → bit_at (slice_index words column) p ≡ 1 → bit_at word p ≡ 1)
    → (column p : ℕ) → column < n + 1 → bit_at (slice_index words column) p ≡ 1 → bit_at (bit_or word (slice_index words n)) p ≡ 1
words_more words word n has_all column p low set =
    let both : bit_at (bit_or word (slice_index words n)) p ≡ max (bit_at word p) (bit_at (slice_index words n) p) =
    bit_at_or word (slice_index words n) p in
    let small : bit_at word p < 2 = bit_at-lt word p in
    let small' : bit_at (slice_index words n) p < 2 = bit_at-lt (slice_index words n) p in
    elim (cases_eq column n) [
      | inl same ↦ (let here : bit_at (slice_index words n) p ≡ 1 = subst (λ i. bit_at (slice_index words i) p ≡ 1) same set in omega arith)
      | inr other ↦ (let before : bit_at word p ≡ 1 = has_all column p (omega arith) set in omega arith)
    ]

-- the column of no more units is no later
pub column_below : (few more at : ℕ) → few ≤ more → at ≡ min 63 more → (min 63 few ≤ at) × (at < 64)
column_below few more at less is = (omega arith, omega arith)
