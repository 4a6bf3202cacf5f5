-- The parts of a merged list.
use Rattle.std.proofs.Common.{◌≡◌, ◌≢◌, ◌++◌, ◌∷◌, [], ◌==◌, ℕ, true, false, List, refl, ap, inl, inr, arith}
use Rattle.std.proofs.lemmas.Bool.{cases_Bool}
use Rattle.std.proofs.lemmas.Bool.Decides.{nat_tests}
use Rattle.market_units.specs.Merges.{part_of}

module _ {A : Type 0} (number : A → ℕ) (n : ℕ) where
  -- the part of two lists is the parts of them, one after the other
  pub part_of-append : (xs ys : List A) → part_of number n (xs ++ ys) ≡ part_of number n xs ++ part_of number n ys
  part_of-append [] ys = refl
  part_of-append (x ∷ xs) ys =
      elim (cases_Bool (number x == n)) [
        | inl own ↦ rw own (ap (λ l. x ∷ l) (part_of-append xs ys))
        | inr other ↦ rw other (part_of-append xs ys)
      ]

  -- an item of the number joins its part
  pub part_of-own : (xs : List A) (x : A) → number x ≡ n → part_of number n (xs ++ x ∷ []) ≡ part_of number n xs ++ x ∷ []
  part_of-own [] x is = let own : (number x == n) ≡ true = grind (arith, nat_tests) in rw own refl
  part_of-own (y ∷ ys) x is =
      elim (cases_Bool (number y == n)) [
        | inl own ↦ rw own (ap (λ l. y ∷ l) (part_of-own ys x is))
        | inr other ↦ rw other (part_of-own ys x is)
      ]

  -- an item of another number leaves the part as it was
  pub part_of-other : (xs : List A) (x : A) → number x ≢ n → part_of number n (xs ++ x ∷ []) ≡ part_of number n xs
  part_of-other [] x apart = let other : (number x == n) ≡ false = grind (arith, nat_tests) in rw other refl
  part_of-other (y ∷ ys) x apart =
      elim (cases_Bool (number y == n)) [
        | inl own ↦ rw own (ap (λ l. y ∷ l) (part_of-other ys x apart))
        | inr other ↦ rw other (part_of-other ys x apart)
      ]
