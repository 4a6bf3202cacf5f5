-- Numbers in a row.
use Rattle.std.proofs.Common.{ℕ, zero, suc, ◌+◌, ◌<◌, ◌≤◌, ◌≡◌, ◌∙◌, ◌++◌, Bool, true, false, List, [], ◌∷◌, sym, ap, refl, inl, inr, arith}
use Rattle.std.specs.Prelude.{find, Some}
use Rattle.std.specs.List.{range_with_len}
use Rattle.std.proofs.lemmas.Bool.{cases_Bool, cases_lt, true≢false}

-- one more number
pub range_more : (a n : ℕ) → range_with_len a (n + 1) ≡ range_with_len a n ++ (a + n) ∷ []
range_more a zero = let e : a + 0 ≡ a = omega arith in rw e refl
range_more a (suc n) =
    let e : suc n + 1 ≡ suc (n + 1) = omega arith in
    let f : (a + 1) + n ≡ a + suc n = omega arith in
    rw (e, ← f) (ap (λ (rest : List ℕ). a ∷ rest) (range_more (a + 1) n))

-- numbers up to one, that one, and those after it
pub range_at : (a n i : ℕ) → i < n → (after : List ℕ) × (range_with_len a n ≡ range_with_len a i ++ (a + i) ∷ after)
range_at a zero i below = absurd (omega arith)
range_at a (suc n) zero below = let e : a + 0 ≡ a = omega arith in (range_with_len (a + 1) n, rw e refl)
range_at a (suc n) (suc i) below =
    let later = range_at (a + 1) n i (omega arith) in
    let f : (a + 1) + i ≡ a + suc i = omega arith in
    (later.0, rw (← f) (ap (λ (rest : List ℕ). a ∷ rest) later.1))

-- the first number that passes a test
pub record IsFirst (p : ℕ → Bool) (a n x : ℕ) : Type 0 where
  pub from : a ≤ x
  pub below : x < a + n
  pub passes : p x ≡ true
  pub fails : (y : ℕ) → a ≤ y → y < x → p y ≡ false

-- is the one that is found
pub find_in_range : (p : ℕ → Bool) (a n x : ℕ) → IsFirst p a n x → find p (range_with_len a n) ≡ Some x
find_in_range p a zero x is = let from : a ≤ x = is.from in let below : x < a + 0 = is.below in absurd (omega arith)
find_in_range p a (suc n) x is = elim (cases_lt a x) [
  | inl less ↦
      let below : x < a + suc n = is.below in
      let f : p a ≡ false = is.fails a (omega arith) less in
      rw f
      (find_in_range p (a + 1) n x
      (record { from = omega arith; below = omega arith; passes = is.passes; fails = λ y at before. is.fails y (omega arith) before }))
  | inr more ↦
      let from : a ≤ x = is.from in
      let e : x ≡ a = omega arith in
      let t : p a ≡ true = rw (← e) is.passes in
      rw t (ap (λ k. Some k) (sym e))
]

-- where some number passes, there is a first one
pub some_first : (p : ℕ → Bool) (a n y : ℕ) → a ≤ y → y < a + n → p y ≡ true → (x : ℕ) × IsFirst p a n x
some_first p a zero y from below passes = absurd (omega arith)
some_first p a (suc n) y from below passes = elim (cases_Bool (p a)) [
  | inl t ↦ (a, record { from = omega arith; below = omega arith; passes = t; fails = λ z at before. absurd (omega arith) })
  | inr f ↦ elim (cases_lt a y) [
    | inl less ↦
        let later = some_first p (a + 1) n y (omega arith) (omega arith) passes in
        let from' : a + 1 ≤ later.0 = later.1.from in
        let below' : later.0 < (a + 1) + n = later.1.below in (
          later.0,
          record {
            from = omega arith;
            below = omega arith;
            passes = later.1.passes;
            fails = λ z at before. elim (cases_lt a z) [
              | inl more ↦ later.1.fails z (omega arith) before
              | inr here ↦ let e : z ≡ a = omega arith in rw e f
            ];
          },
        )
    | inr more ↦ let e : y ≡ a = omega arith in absurd (true≢false (sym passes ∙ (rw e f)))
  ]
]

-- what is found is in the range
pub found_below : (p : ℕ → Bool) (a n x : ℕ) → find p (range_with_len a n) ≡ Some x → x < a + n
found_below p a zero x is = absurd cc
found_below p a (suc n) x is = elim (cases_Bool (p a)) [
  | inl t ↦ let here : Some a ≡ Some x = rw t at is in let e : a ≡ x = cc in omega arith
  | inr f ↦ let later : find p (range_with_len (a + 1) n) ≡ Some x = rw f at is in omega (arith, found_below p (a + 1) n x later)
]

pub found_none : (p : ℕ → Bool) (a n x : ℕ) → n ≡ 0 → find p (range_with_len a n) ≡ Some x → ⊥
found_none p a zero x none is = cc
found_none p a (suc n) x none is = omega arith
