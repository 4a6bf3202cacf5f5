-- Names of one letter and a number: they are names, and different numbers have different ones.
use Rattle.std.proofs.Common.{ℕ, ◌≡◌, ◌≢◌, ◌+◌, ◌^◌, ◌<◌, ◌≤◌, Bool, false, List, [], ◌∷◌, length, map, drop, inl, inr, refl, ap, sym, subst, arith, le-leb}
use Rattle.std.specs.Prelude.{All, IsTrue, None, position}
use Rattle.std.specs.Fmt.{decimal}
use Rattle.std.specs.List.{range_with_len}
use Rattle.std.specs.Str.{bytes_eq}
use Rattle.std.specs.Str.Parse.{AllDigits}
use Rattle.std.proofs.lemmas.Bool.{cases_Bool, le-ltb}
use Rattle.std.proofs.lemmas.Fmt.{decimal_injective, decimal_is_IsNumeral, length-decimal-le}
use Rattle.std.proofs.lemmas.List.Elements.{All-cons}
use Rattle.std.proofs.lemmas.List.FromFn.{get_or-map-range_with_len, length-map-range_with_len}
use Rattle.std.proofs.lemmas.List.Sums.{position_or_len_is}
use Rattle.std.proofs.lemmas.Slice.Eq.{bytes_eq-Decides}
use Rattle.std.proofs.lemmas.Str.Parse.{digit_from_value}
use Rattle.market_units.specs.Names.{IsName, is_name_byte}

digit_is_name_byte : (b : ℕ) → 48 ≤ b → b ≤ 57 → IsTrue (is_name_byte b)
digit_is_name_byte b least most = rw (le-leb 48 b least, le-leb b 57 most) refl

name_digits : (ds : List ℕ) → AllDigits 10 ds → All (λ b. IsTrue (is_name_byte b)) ds
name_digits [] all = λ k d inside. absurd (omega arith)
name_digits (c ∷ cs) all =
    let inside = digit_from_value c all.0 in All-cons (λ b. IsTrue (is_name_byte b)) c cs (digit_is_name_byte c inside.0 inside.1) (name_digits cs all.1)

-- a letter and a number are a name
pub numbered_name : (letter n : ℕ) → IsTrue (is_name_byte letter) → n < 2 ^ 64 → IsName (letter ∷ decimal n)
numbered_name letter n is_letter small = record {
  some = omega arith;
  short = omega (arith, length-decimal-le 20 n (omega arith) (omega arith) small);
  each = All-cons (λ b. IsTrue (is_name_byte b)) letter (decimal n) is_letter (name_digits (decimal n) (decimal_is_IsNumeral n small).0.1);
}

-- other numbers have other names
other_name : (letter a b : ℕ) → a < 2 ^ 64 → b < 2 ^ 64 → a ≢ b → bytes_eq (letter ∷ decimal a) (letter ∷ decimal b) ≡ false
other_name letter a b small small' other = elim (cases_Bool (bytes_eq (letter ∷ decimal a) (letter ∷ decimal b))) [
  | inl same ↦ absurd (other (decimal_injective a b small small' (ap (drop 1) ((bytes_eq-Decides (letter ∷ decimal a) (letter ∷ decimal b)).0 same))))
  | inr differ ↦ differ
]

no_position : (p : List ℕ → Bool) (xs : List (List ℕ)) → All (λ x. p x ≡ false) xs → position p xs ≡ None
no_position p xs none =
    rw (
      position_or_len_is p xs (length xs) [] (omega arith) (λ k inside. none k [] inside) (λ inside. absurd (omega arith)),
      le-ltb (length xs) (length xs) (omega arith),
    )
    refl

-- no earlier number has the name of this one
pub no_earlier : (letter earlier : ℕ) → earlier + 1 < 2 ^ 64
    → position (bytes_eq (letter ∷ decimal (earlier + 1))) (map (λ j. letter ∷ decimal j) (range_with_len 1 earlier)) ≡ None
no_earlier letter earlier small =
    let name = λ (j : ℕ). letter ∷ decimal j in
    no_position (bytes_eq (name (earlier + 1))) (map name (range_with_len 1 earlier)) (
    λ k d inside.
    let within : k < earlier = omega (arith, length-map-range_with_len name 1 earlier) in
    subst (λ x. bytes_eq (name (earlier + 1)) x ≡ false) (sym (get_or-map-range_with_len name 1 earlier k (1 + k) d within refl))
    (other_name letter (earlier + 1) (1 + k) small (omega arith) (λ same. omega arith))
    )
