-- Numbers, and the tests that compare them.
use Rattle.std.proofs.Common.{◌≡◌, ◌≤◌, ◌<◌, ◌+◌, ◌-◌, ℕ, true, arith}
use Rattle.std.specs.Prelude.{nat_lt, nat_le, ℤ, ◌<ℤ◌, int_lt}
use Rattle.std.proofs.lemmas.Bool.Decides.{nat_tests}
use Rattle.std.proofs.lemmas.Int.{ints}

-- what is so is told
pub lt_true : (a b : ℕ) → a < b → nat_lt a b ≡ true
lt_true a b h = grind (arith, nat_tests)

pub le_true : (a b : ℕ) → a ≤ b → nat_le a b ≡ true
le_true a b h = grind (arith, nat_tests)

-- what is told is so
pub true_lt : (a b : ℕ) → nat_lt a b ≡ true → a < b
true_lt a b h = grind (arith, nat_tests)

pub true_lt_signed : (a b : ℤ) → int_lt a b ≡ true → a <ℤ b
true_lt_signed a b h = grind (arith, ints)

-- what is left of a whole that fits
pub rest_fits : (whole front more cap : ℕ) → whole ≡ front + more → whole ≤ cap → more ≤ cap - front
rest_fits whole front more cap split fits = omega arith
