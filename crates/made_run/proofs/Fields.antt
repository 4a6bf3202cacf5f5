-- Fields of a row that are written as they are: no byte in them calls for quotes.
use Rattle.std.proofs.Common.{ℕ, zero, suc, ◌≡◌, ◌%◌, ◌^◌, ◌<◌, ◌≤◌, List, [], ◌∷◌, ◌++◌, false, refl, ap, append-nil, arith}
use Rattle.std.specs.Prelude.{codes, slice_index, ⊤}
use Rattle.std.specs.Fmt.{decimal}
use Rattle.std.specs.List.{list_any}
use Rattle.std.specs.Str.Parse.{AllDigits}
use Rattle.std.proofs.lemmas.Bool.{ne_eqb}
use Rattle.std.proofs.lemmas.Fmt.{decimal_is_IsNumeral}
use Rattle.std.proofs.lemmas.Str.Parse.{digit_from_value}
use Rattle.csv.specs.Writing.{default_writer, fields_text, is_blank, needs_byte, row_body, row_text}
use Rattle.market_maker.specs.Catalogs.{meeting_of}
use Rattle.market_maker.specs.Lines.{ended, row_of}

-- no byte of the field calls for quotes
abbrev pub IsPlain : List ℕ → Type 0
IsPlain field = list_any (needs_byte default_writer) field ≡ false

abbrev pub ArePlain : List (List ℕ) → Type 0
ArePlain [] = ⊤
ArePlain (field ∷ more) = IsPlain field × ArePlain more

-- each byte is at least so great
abbrev pub AreFrom : ℕ → List ℕ → Type 0
AreFrom least [] = ⊤
AreFrom least (b ∷ bs) = (least ≤ b) × AreFrom least bs

high_byte : (b : ℕ) → 45 ≤ b → needs_byte default_writer b ≡ false
high_byte b high = rw (ne_eqb b 44 (λ e. omega arith), ne_eqb b 34 (λ e. omega arith), ne_eqb b 13 (λ e. omega arith), ne_eqb b 10 (λ e. omega arith)) refl

-- bytes behind all marks of the format
pub plain_of_high : (bytes : List ℕ) → AreFrom 45 bytes → IsPlain bytes
plain_of_high [] high = refl
plain_of_high (b ∷ bs) high = rw (high_byte b high.0) (plain_of_high bs high.1)

from_digits : (least : ℕ) (ds : List ℕ) → least ≤ 48 → AllDigits 10 ds → AreFrom least ds
from_digits least [] low all = tt
from_digits least (d ∷ ds) low all = let inside = digit_from_value d all.0 in (omega arith, from_digits least ds low all.1)

pub from_decimal : (least n : ℕ) → least ≤ 48 → n < 2 ^ 64 → AreFrom least (decimal n)
from_decimal least n low small = from_digits least (decimal n) low (decimal_is_IsNumeral n small).0.1

pub plain_decimal : (n : ℕ) → n < 2 ^ 64 → IsPlain (decimal n)
plain_decimal n small = plain_of_high (decimal n) (from_decimal 45 n (omega arith) small)

-- the day of a meeting has one letter from Monday to Friday as in the whole week
pub day_letters : (d : ℕ) → d < 5 → (slice_index (codes "MTWRF") d ≡ slice_index (codes "MTWRFSU") d) × (45 ≤ slice_index (codes "MTWRF") d)
day_letters zero small = (refl, omega arith)
day_letters (suc zero) small = (refl, omega arith)
day_letters (suc (suc zero)) small = (refl, omega arith)
day_letters (suc (suc (suc zero))) small = (refl, omega arith)
day_letters (suc (suc (suc (suc zero)))) small = (refl, omega arith)
day_letters (suc (suc (suc (suc (suc d))))) small = absurd (omega arith)

pub plain_meeting : (j : ℕ) → IsPlain (meeting_of j)
plain_meeting j =
    plain_of_high (meeting_of j) (
      (day_letters (j % 5) (omega arith)).1,
      (omega arith, (omega arith, (omega arith, (omega arith, (omega arith, (omega arith, (omega arith, (omega arith, (omega arith, tt))))))))),
    )

-- the text of a row of plain fields
body_plain : (f : List ℕ) (fields : List (List ℕ)) → ArePlain (f ∷ fields) → row_body default_writer (f ∷ fields) ≡ row_of (f ∷ fields)
unfolding fields_text
body_plain f [] plain = rw plain.0 (append-nil f)
body_plain f (g ∷ gs) plain = rw plain.0 (ap (λ t. f ++ 44 ∷ t) (body_plain g gs plain.1))

pub row_plain : (f g : List ℕ) (fields : List (List ℕ)) → ArePlain (f ∷ g ∷ fields) → row_text default_writer (f ∷ g ∷ fields) ≡ ended (row_of (f ∷ g ∷ fields))
unfolding is_blank
row_plain f g fields plain = ap (λ t. t ++ 10 ∷ []) (body_plain f (g ∷ fields) plain)
