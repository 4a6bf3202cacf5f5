-- By cases that nothing decides: what follows in both cannot be denied.
use Rattle.std.proofs.Common.{ℕ, zero, suc, ◌≡◌, ◌+◌, subst, inl, inr, arith}
use Rattle.std.proofs.lemmas.Bool.{cases_lt}
use Rattle.certificate_checker.specs.Firsts.{AllBelow, FailsFirstAt}

-- it is so, or it is not
pub by_cases : {A : Type 0} → (A → ⊥) → ((A → ⊥) → ⊥) → ⊥
by_cases so other = other so

-- of so many numbers it is so, or there is the first of which it is not
module _ (count : ℕ) (Is : ℕ → Type 0) (all : AllBelow count Is → ⊥) (one : (n : ℕ) → FailsFirstAt count Is n → ⊥) where
  from : (left n : ℕ) → n + left ≡ count → AllBelow n Is → ⊥
  from zero n end before = all (λ m low. before m (omega (arith, end, low)))
  from (suc left) n end before =
      by_cases {A = Is n}
      (λ is. from left (n + 1) (omega (arith, end)) (λ m low. elim (cases_lt m n) [
        | inl less ↦ before m less
        | inr more ↦ subst Is (let same : n ≡ m = omega (arith, low, more) in same) is
      ]))
      (λ fails. one n (record { within = omega (arith, end); before = before; fails = fails }))

  pub first_or_all : ⊥
  first_or_all = from count 0 (omega arith) (λ m low. absurd (omega (arith, low)))
