-- Numbers of one or two digits, as they are spelled.
use Rattle.std.proofs.Common.{◌≡◌, ◌≢◌, ◌<◌, ◌≤◌, ◌+◌, ◌-◌, ◌*◌, ◌/◌, ◌%◌, ◌++◌, ◌⊎◌, ℕ, List, [], ◌∷◌, refl, sym, ◌∙◌, ap, subst, inl, inr, arith}
use Rattle.std.proofs.lemmas.Bool.{cases_lt}
use Rattle.std.proofs.lemmas.Fmt.{decimal_digit, decimal_step}
use Rattle.std.specs.Fmt.{decimal}
use Rattle.proof_tree.specs.Texts.{IsDigit, NoDigitFirst}

-- two digits
pub two_digits : (n : ℕ) → 10 ≤ n → n < 100 → decimal n ≡ (48 + n / 10) ∷ (48 + n % 10) ∷ []
two_digits n high low = decimal_step n high (omega arith) ∙ ap (λ ds. ds ++ (48 + n % 10) ∷ []) (decimal_digit (n / 10) (omega arith))

pub two_of : (first second : ℕ) → 49 ≤ first → first ≤ 57 → 48 ≤ second → second ≤ 57 → (rest : List ℕ)
    → first ∷ second ∷ rest ≡ decimal ((first - 48) * 10 + (second - 48)) ++ rest
two_of first second low high low' high' rest =
    let n : ℕ = (first - 48) * 10 + (second - 48) in
    let a : 48 + n / 10 ≡ first = omega arith in
    let b : 48 + n % 10 ≡ second = omega arith in
    let spelling = two_digits n (omega arith) (omega arith) in
    sym (ap (λ ds. ds ++ rest) (spelling ∙ λ i. a i ∷ b i ∷ []))

pub one_of : (first : ℕ) → 48 ≤ first → first ≤ 57 → (rest : List ℕ) → first ∷ rest ≡ decimal (first - 48) ++ rest
one_of first low high rest =
    let a : 48 + (first - 48) ≡ first = omega arith in
    sym (ap (λ ds. ds ++ rest) (decimal_digit (first - 48) (omega arith) ∙ ap (λ d. d ∷ []) a))

-- how a text begins with a number: by one digit, or by two of which the first is not 0
record IsRead (place : ℕ) (text rest : List ℕ) : Type 0 where
  digit : ℕ
  more : List ℕ
  front : text ≡ digit ∷ more
  is_digit : IsDigit digit
  cases : ((more ≡ rest) × (place ≡ digit - 48))
      ⊎ ((second : ℕ) × IsDigit second × (more ≡ second ∷ rest) × (49 ≤ digit) × (place ≡ (digit - 48) * 10 + (second - 48)))

is_read : (place : ℕ) (text rest : List ℕ) → place < 100 → text ≡ decimal place ++ rest → IsRead place text rest
is_read place text rest low whole = elim (cases_lt place 10) [
  | inl one ↦ record {
    digit = 48 + place;
    more = rest;
    front = whole ∙ ap (λ ds. ds ++ rest) (decimal_digit place one);
    is_digit = (omega arith, omega arith);
    cases = inl (refl, omega arith);
  }
  | inr two ↦ record {
    digit = 48 + place / 10;
    more = (48 + place % 10) ∷ rest;
    front = whole ∙ ap (λ ds. ds ++ rest) (two_digits place two low);
    is_digit = (omega arith, omega arith);
    cases = inr (48 + place % 10, (omega arith, omega arith), refl, omega arith, omega arith);
  }
]

-- what no number stands first in
abbrev pub NoPlace : List ℕ → Type 0
NoPlace text = (place : ℕ) (rest : List ℕ) → place < 100 → NoDigitFirst rest → text ≢ decimal place ++ rest

head_same : (x y : ℕ) (xs ys : List ℕ) → x ∷ xs ≡ y ∷ ys → x ≡ y
head_same x y xs ys e = cc e

tail_same : (x y : ℕ) (xs ys : List ℕ) → x ∷ xs ≡ y ∷ ys → xs ≡ ys
tail_same x y xs ys e = cc e

pub none_in_nothing : NoPlace []
none_in_nothing place rest low ends whole = let r = is_read place [] rest low whole in cc r.front

pub none_without_digit : (first : ℕ) (text : List ℕ) → ¬ IsDigit first → NoPlace (first ∷ text)
none_without_digit first text not_digit place rest low ends whole =
    let r = is_read place (first ∷ text) rest low whole in
    not_digit (subst IsDigit (sym (head_same first r.digit text r.more r.front)) r.is_digit)

-- a 0 before another digit
pub none_after_zero : (text : List ℕ) (first : ℕ) → first ≡ 48 → ¬ NoDigitFirst text → NoPlace (first ∷ text)
none_after_zero text first zero_ more place rest low ends whole =
    let r = is_read place (first ∷ text) rest low whole in
    let same : text ≡ r.more = tail_same first r.digit text r.more r.front in
    let digit : first ≡ r.digit = head_same first r.digit text r.more r.front in
    elim r.cases [
      | inl one ↦ more (subst NoDigitFirst (sym (same ∙ one.0)) ends)
      | inr two ↦ let high : 49 ≤ r.digit = two.3 in absurd (omega arith)
    ]

-- a third digit
pub none_of_three : (first second : ℕ) (text : List ℕ) → ¬ NoDigitFirst (second ∷ text) → ¬ NoDigitFirst text → NoPlace (first ∷ second ∷ text)
none_of_three first second text more third place rest low ends whole =
    let r = is_read place (first ∷ second ∷ text) rest low whole in
    let same : second ∷ text ≡ r.more = tail_same first r.digit (second ∷ text) r.more r.front in
    elim r.cases [
      | inl one ↦ more (subst NoDigitFirst (sym (same ∙ one.0)) ends)
      | inr two ↦ third (subst NoDigitFirst (sym (tail_same second two.0 text rest (same ∙ two.2))) ends)
    ]

-- the number that stands first is one
pub same_place : (p q : ℕ) (r s : List ℕ) → p < 100 → q < 100 → NoDigitFirst r → NoDigitFirst s → decimal p ++ r ≡ decimal q ++ s → p ≡ q
same_place p q r s low low' ends ends' whole =
    let a = is_read p (decimal p ++ r) r low refl in
    let b = is_read q (decimal p ++ r) s low' whole in
    let both : a.digit ∷ a.more ≡ b.digit ∷ b.more = sym a.front ∙ b.front in
    let digit : a.digit ≡ b.digit = head_same a.digit b.digit a.more b.more both in
    let more : a.more ≡ b.more = tail_same a.digit b.digit a.more b.more both in
    elim a.cases [
      | inl one ↦ elim b.cases [
        | inl one' ↦ (let x : p ≡ a.digit - 48 = one.1 in let y : q ≡ b.digit - 48 = one'.1 in omega arith)
        | inr two' ↦ absurd (subst NoDigitFirst (sym one.0 ∙ more ∙ two'.2) ends two'.1)
      ]
      | inr two ↦ elim b.cases [
        | inl one' ↦ absurd (subst NoDigitFirst (sym one'.0 ∙ sym more ∙ two.2) ends' two.1)
        | inr two' ↦
            let second : two.0 ≡ two'.0 = head_same two.0 two'.0 r s (sym two.2 ∙ more ∙ two'.2) in
            let x : p ≡ (a.digit - 48) * 10 + (two.0 - 48) = two.4 in
            let y : q ≡ (b.digit - 48) * 10 + (two'.0 - 48) = two'.4 in
            x ∙ (λ i. (digit i - 48) * 10 + (second i - 48)) ∙ sym y
      ]
    ]
