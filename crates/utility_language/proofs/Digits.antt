-- The spelling of numbers with a sign.
use Rattle.std.proofs.Common.{ℕ, suc, ◌≡◌, ◌≢◌, ◌<◌, ◌^◌, List, get_or, drop, arith, ap, sym, ◌∙◌, inl, inr}
use Rattle.std.specs.Prelude.{ℤ, pos, negsuc, unsigned_abs}
use Rattle.std.specs.Fmt.{decimal, signed_decimal}
use Rattle.std.proofs.lemmas.Bool.{cases_lt}
use Rattle.std.proofs.lemmas.Fmt.{decimal_digit, first_decimal, signed_decimal_injective}
use lib.Signed.{mag}

-- a spelling does not begin with a sign
pub no_sign : (n : ℕ) → n < 10 ^ 6 → get_or (decimal n) 0 0 ≢ 45
no_sign n small = elim (cases_lt 0 n) [
  | inl some ↦ λ e. absurd (omega (arith, first_decimal n some (omega arith)))
  | inr none ↦ λ e. let zero_digit = ap (λ ds. get_or ds 0 0) (decimal_digit n (omega arith)) in absurd (omega (arith, zero_digit))
]

-- a word with a sign in front, of which the rest is no number of six digits or the zero
pub no_signed_word : (word : List ℕ) → get_or word 0 0 ≡ 45 → ((n : ℕ) → 0 < n → n < 10 ^ 6 → drop 1 word ≢ decimal n) → (n : ℤ) → unsigned_abs n < 10 ^ 6
    → word ≢ signed_decimal n
no_signed_word word sign none (pos n) small e = no_sign n small (sym (ap (λ ds. get_or ds 0 0) e) ∙ sign)
no_signed_word word sign none (negsuc n) small e = none (suc n) (omega arith) small (ap (drop 1) e)

mag_short : (n : ℤ) → unsigned_abs n < 10 ^ 6 → mag n < 2 ^ 63
mag_short (pos n) small = omega arith
mag_short (negsuc n) small = omega arith

-- two numbers of one spelling are equal
pub same_number : (m n : ℤ) → unsigned_abs m < 10 ^ 6 → unsigned_abs n < 10 ^ 6 → signed_decimal m ≡ signed_decimal n → m ≡ n
same_number m n small small' e = signed_decimal_injective m n (mag_short m small) (mag_short n small') e
