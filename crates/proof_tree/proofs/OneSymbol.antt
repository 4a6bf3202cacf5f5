-- At most one symbol stands first in a text.
use Rattle.std.proofs.Common.{◌≡◌, ◌<◌, ◌≤◌, ◌+◌, ◌++◌, ◌||◌, ◌==◌, ◌⊎◌, ℕ, Bool, Option, Some, None, List, [], ◌∷◌, suc, length, length-append, refl, sym, ◌∙◌, ap, subst, inl, inr, arith}
use Rattle.std.specs.Prelude.{is_some, if◌then◌else◌}
use Rattle.std.proofs.lemmas.Bool.{false≢true}
use Rattle.std.specs.Fmt.{decimal}
use Rattle.bundle_bounds.specs.declared.nodes.Leaf.TheVariants.{Plain, Budget, Credits, Number}
use Rattle.proof_tree.specs.declared.signs.Sign.{Sign}
use Rattle.proof_tree.specs.declared.signs.Sign.TheVariants.{Champion, Shut, Pruned, Forced, Open, Passed}
use Rattle.proof_tree.specs.Texts.{NoDigitFirst, Stands, symbol, number_of}
use Rattle.proof_tree.proofs.Digits.{same_place}

-- the first byte of a symbol, and the digits after it
pub letter_of : Sign → ℕ
letter_of Champion = 42
letter_of Shut = 120
letter_of (Pruned Plain) = 110
letter_of (Pruned (Budget place)) = 98
letter_of (Pruned (Credits place)) = 99
letter_of (Pruned (Number place)) = 109
letter_of Forced = 33
letter_of Open = 43
letter_of Passed = 45

pub digits_of : Option ℕ → List ℕ
digits_of None = []
digits_of (Some place) = decimal place

is_lettered : ℕ → Bool
is_lettered byte = byte == 98 || (byte == 99 || byte == 109)

single_by : ℕ → Sign
single_by byte =
    if byte == 42 then Champion
    else (if byte == 120 then Shut else (if byte == 110 then Pruned Plain else (if byte == 33 then Forced else (if byte == 43 then Open else Passed))))

-- the sign of a letter and a number
sign_by : ℕ → Option ℕ → Sign
sign_by byte None = single_by byte
sign_by byte (Some place) = Pruned (if byte == 98 then Budget place else (if byte == 99 then Credits place else Number place))

-- a sign is spelled by its letter and its digits, the letter tells whether digits follow, and both together tell the sign
record IsLettered (sign : Sign) : Type 0 where
  spelled : symbol sign ≡ letter_of sign ∷ digits_of (number_of sign)
  numbered : is_some (number_of sign) ≡ is_lettered (letter_of sign)
  back : sign_by (letter_of sign) (number_of sign) ≡ sign

lettered : (sign : Sign) → IsLettered sign
unfolding letter_of digits_of is_lettered sign_by single_by
lettered Champion = record { spelled = refl; numbered = refl; back = refl }
lettered Shut = record { spelled = refl; numbered = refl; back = refl }
lettered (Pruned Plain) = record { spelled = refl; numbered = refl; back = refl }
lettered (Pruned (Budget place)) = record { spelled = refl; numbered = refl; back = refl }
lettered (Pruned (Credits place)) = record { spelled = refl; numbered = refl; back = refl }
lettered (Pruned (Number place)) = record { spelled = refl; numbered = refl; back = refl }
lettered Forced = record { spelled = refl; numbered = refl; back = refl }
lettered Open = record { spelled = refl; numbered = refl; back = refl }
lettered Passed = record { spelled = refl; numbered = refl; back = refl }

pub by_letter : (sign : Sign) → symbol sign ≡ letter_of sign ∷ digits_of (number_of sign)
by_letter sign = (lettered sign).spelled

same_sign : (a b : Sign) → letter_of a ≡ letter_of b → number_of a ≡ number_of b → a ≡ b
same_sign a b letter number = sym (lettered a).back ∙ ap (λ l. sign_by l (number_of a)) letter ∙ ap (sign_by (letter_of b)) number ∙ (lettered b).back

same_number : (m n : Option ℕ) (r s : List ℕ) → is_some m ≡ is_some n → ((p : ℕ) → m ≡ Some p → (p < 100) × NoDigitFirst r)
    → ((p : ℕ) → n ≡ Some p → (p < 100) × NoDigitFirst s) → digits_of m ++ r ≡ digits_of n ++ s → m ≡ n
unfolding digits_of
same_number None None r s both first second e = refl
same_number None (Some q) r s both first second e = absurd (false≢true both)
same_number (Some p) None r s both first second e = absurd (false≢true (sym both))
same_number (Some p) (Some q) r s both first second e =
    ap (λ n. Some n) (same_place p q r s (first p refl).0 (second q refl).0 (first p refl).1 (second q refl).1 e)

pub one_symbol : (a b : Sign) (text r s : List ℕ) → Stands a text r → Stands b text s → a ≡ b
one_symbol a b text r s first second =
    let x : text ≡ letter_of a ∷ (digits_of (number_of a) ++ r) = first.spelled ∙ ap (λ t. t ++ r) (by_letter a) in
    let y : text ≡ letter_of b ∷ (digits_of (number_of b) ++ s) = second.spelled ∙ ap (λ t. t ++ s) (by_letter b) in
    let whole : letter_of a ∷ (digits_of (number_of a) ++ r) ≡ letter_of b ∷ (digits_of (number_of b) ++ s) = sym x ∙ y in
    let letter : letter_of a ≡ letter_of b = cc whole in
    let later : digits_of (number_of a) ++ r ≡ digits_of (number_of b) ++ s = cc whole in
    let both : is_some (number_of a) ≡ is_some (number_of b) = (lettered a).numbered ∙ ap is_lettered letter ∙ sym (lettered b).numbered in
    same_sign a b letter
    (same_number (number_of a) (number_of b) r s both (λ p some. (first.short p some, first.whole p some))
    (λ p some. (second.short p some, second.whole p some)) later)

-- a symbol's first byte is no digit
not_digit : (sign : Sign) → letter_of sign ≤ 47 ⊎ 58 ≤ letter_of sign
unfolding letter_of
not_digit Champion = inl (omega arith)
not_digit Shut = inr (omega arith)
not_digit (Pruned Plain) = inr (omega arith)
not_digit (Pruned (Budget place)) = inr (omega arith)
not_digit (Pruned (Credits place)) = inr (omega arith)
not_digit (Pruned (Number place)) = inr (omega arith)
not_digit Forced = inl (omega arith)
not_digit Open = inl (omega arith)
not_digit Passed = inl (omega arith)

pub no_digit_after : (sign : Sign) (text rest : List ℕ) → text ≡ symbol sign ++ rest → NoDigitFirst text
no_digit_after sign text rest whole =
    subst NoDigitFirst (sym (whole ∙ ap (λ t. t ++ rest) (by_letter sign)))
    (λ digit. (let low : 48 ≤ letter_of sign = digit.0 in let high : letter_of sign
    ≤ 57 = digit.1 in elim (not_digit sign) [ inl below ↦ absurd (omega arith) | inr above ↦ absurd (omega arith) ]))

-- it is shorter than the text
pub shorter : (sign : Sign) (text rest : List ℕ) → text ≡ symbol sign ++ rest → length rest < length text
shorter sign text rest whole =
    let all : text ≡ letter_of sign ∷ (digits_of (number_of sign) ++ rest) = whole ∙ ap (λ t. t ++ rest) (by_letter sign) in
    let size : length text ≡ suc (length (digits_of (number_of sign) ++ rest)) = ap length all in
    let split : length (digits_of (number_of sign) ++ rest) ≡ length (digits_of (number_of sign)) + length rest =
    length-append (digits_of (number_of sign)) rest in
    omega arith
