-- Words of places: of a list with one more, and led by a list.
use Rattle.std.proofs.Common.{◌≡◌, ◌<◌, ◌≤◌, ◌-◌, ◌*◌, ◌%◌, ◌^◌, ◌++◌, min, ◌↔◌, ℕ, true, false, List, [], ◌∷◌, inl, inr, sym, ◌∙◌, subst, ap, arith, w64}
use Rattle.std.specs.Prelude.{slice_index, bit_and, bit_or}
use Rattle.std.specs.Int.{bit_at, bit_not, trailing_zeros}
use Rattle.std.proofs.lemmas.Bool.{cases_Bool, cases_lt, cases_eq, true≢false}
use Rattle.std.proofs.lemmas.Nat.{and_le_l}
use Rattle.std.proofs.lemmas.Nat.Bits.{bit_at-lt, bit_at-zero, bit_at-trailing_zeros, bit_at_above, bit_at_and, bit_at_not, bit_at_set_same, bit_at_set_other}
use Rattle.market_units.specs.Members.{has}
use Rattle.market_units.proofs.Memberships.{has_push_same, has_push_other}
use Rattle.demand_oracle.specs.Names.{LeadsWord}

-- one more place
pub one_more : (f : ℕ) (front : List ℕ) (word : ℕ) → f < 64 → ((p : ℕ) → (bit_at word p ≡ 1) ↔ (has front p ≡ true)) → (p : ℕ)
    → (bit_at (bit_or word (1 * 2 ^ f % 2 ^ 64)) p ≡ 1) ↔ (has (front ++ f ∷ []) p ≡ true)
one_more f front word low are p = elim (cases_eq p f) [
  | inl same ↦ (
    λ set. subst (λ q. has (front ++ f ∷ []) q ≡ true) (sym same) (has_push_same front f),
    λ is. subst (λ q. bit_at (bit_or word (1 * 2 ^ f % 2 ^ 64)) q ≡ 1) (sym same) (bit_at_set_same w64 word f low),
  )
  | inr other ↦ (
    λ set. has_push_other front f p (λ is. other (sym is)) ∙ (are p).0 (sym (bit_at_set_other w64 word f low p other) ∙ set),
    λ is. bit_at_set_other w64 word f low p other ∙ (are p).1 (sym (has_push_other front f p (λ same. other (sym same))) ∙ is),
  )
]

module _ (before chosen : List ℕ) (word own : ℕ) (fits : word < 2 ^ 64) (own_fits : own < 2 ^ 64)
    (own_is : (p : ℕ) → (bit_at own p ≡ 1) ↔ (has chosen p ≡ true)) where
  abbrev others : ℕ
  others = bit_and word (bit_not w64 own)

  bits : (q : ℕ) → q < 64 → bit_at others q ≡ min (bit_at word q) (1 - bit_at own q)
  bits q low = bit_at_and word (bit_not w64 own) q ∙ ap (min (bit_at word q)) (bit_at_not w64 own q own_fits low)

  within : (q : ℕ) → bit_at word q ≡ 1 → q < 64
  within q set = elim (cases_lt q 64) [
    | inl low ↦ low
    | inr high ↦ absurd (let none : bit_at word q ≡ 0 = bit_at_above word 64 q fits high in omega arith)
  ]

  clear : (q : ℕ) → has chosen q ≡ false → bit_at own q ≡ 0
  clear q out = elim (cases_lt (bit_at own q) 1) [
    | inl none ↦ omega arith
    | inr some ↦ (let small : bit_at own q < 2 = bit_at-lt own q in absurd (true≢false (sym ((own_is q).0 (omega arith)) ∙ out)))
  ]

  none_before : (p q : ℕ) → bit_and (bit_and word (bit_not w64 own)) (slice_index before p) ≡ 0 → bit_at word q ≡ 1 → has chosen q ≡ false
      → bit_at (slice_index before p) q ≡ 0
  none_before p q none set out =
      let low : q < 64 = within q set in
      let own_clear : bit_at own q ≡ 0 = clear q out in
      let here : bit_at others q ≡ min (bit_at word q) (1 - bit_at own q) = bits q low in
      let both : bit_at (bit_and others (slice_index before p)) q ≡ min (bit_at others q) (bit_at (slice_index before p) q) =
      bit_at_and others (slice_index before p) q in
      let zero_ : bit_at (bit_and others (slice_index before p)) q ≡ 0 = ap (λ n. bit_at n q) none ∙ bit_at-zero q in
      let small : bit_at (slice_index before p) q < 2 = bit_at-lt (slice_index before p) q in
      omega arith

  and_none : (p : ℕ) → ((q : ℕ) → bit_at word q ≡ 1 → has chosen q ≡ false → bit_at (slice_index before p) q ≡ 0)
      → bit_and (bit_and word (bit_not w64 own)) (slice_index before p) ≡ 0
  and_none p none = elim (cases_lt 0 (bit_and others (slice_index before p))) [
    | inl some ↦
        let less : bit_and others (slice_index before p) ≤ others = and_le_l others (slice_index before p) in
        let less' : others ≤ word = and_le_l word (bit_not w64 own) in
        let first = bit_at-trailing_zeros w64 (bit_and others (slice_index before p)) some (omega arith) in
        let q : ℕ = trailing_zeros w64 (bit_and others (slice_index before p)) in
        let low : q < 64 = first.0 in
        let set : bit_at (bit_and others (slice_index before p)) q ≡ 1 = first.1 in
        let both : bit_at (bit_and others (slice_index before p)) q ≡ min (bit_at others q) (bit_at (slice_index before p) q) =
        bit_at_and others (slice_index before p) q in
        let here : bit_at others q ≡ min (bit_at word q) (1 - bit_at own q) = bits q low in
        let small : bit_at word q < 2 = bit_at-lt word q in
        let small' : bit_at (slice_index before p) q < 2 = bit_at-lt (slice_index before p) q in
        let in_word : bit_at word q ≡ 1 = omega arith in
        let not_own : bit_at own q ≡ 0 = omega arith in
        let out : has chosen q ≡ false = elim (cases_Bool (has chosen q)) [
          | inl is ↦ absurd (let set' : bit_at own q ≡ 1 = (own_is q).1 is in omega arith)
          | inr not_in ↦ not_in
        ] in
        absurd (let zero_ : bit_at (slice_index before p) q ≡ 0 = none q in_word out in omega arith)
    | inr no_more ↦ omega arith
  ]

  -- the test by words and what it says
  pub leads_where_none : ((p : ℕ) × (has chosen p ≡ true) × (bit_at word p ≡ 0) × (bit_and (bit_and word (bit_not w64 own)) (slice_index before p) ≡ 0))
      ↔ LeadsWord before chosen word
  leads_where_none = (
    λ one. (one.0, one.1, one.2, λ q set out. none_before one.0 q one.3 set out),
    λ one. (one.0, one.1, one.2, and_none one.0 one.3),
  )
