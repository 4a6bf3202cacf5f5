-- The first place of a byte.
use Rattle.std.proofs.Common.{ℕ, [], ◌+◌, ◌≡◌, ◌≢◌, ◌<◌, ◌==◌, Bool, true, false, List, ◌∷◌, ◌++◌, length, take, drop, get_or, arith, refl, ap, sym, ◌∙◌, inl, inr, Bor}
use Rattle.std.specs.Prelude.{Option, Some, None, IfSome, IfNone, MatchOption}
use Rattle.std.specs.List.{position, position_or_len}
use Rattle.std.proofs.lemmas.Bool.{cases_lt, lt-ltb}
use Rattle.std.proofs.lemmas.Bool.Decides.{nat_tests, Decides-eqb}
use Rattle.std.proofs.lemmas.List.{take-append-drop, drop_more, get_or_default, get_or-take, length-take-le, append_cancel_left}
use Rattle.std.proofs.lemmas.List.Sums.{fails_before_first}
use Rattle.std.proofs.lemmas.List.Quantifiers.{position-Some}
use Rattle.std.specs.Cmp.Lexicographic.{pointwise}
use Rattle.std.proofs.Math.Dec.{eqb}
use Rattle.std.proofs.lemmas.Slice.Eq.{strip_prefix_is}
use Rattle.market_certificate.specs.Lines.{Lacks}

none_cases : (p : ℕ → Bool) (xs : List ℕ) → (position_or_len p xs < length xs → ⊥) → (k d : ℕ) → k < length xs → p (get_or xs k d) ≡ false
none_cases p xs none k d inside =
    fails_before_first p xs k d (elim (cases_lt (position_or_len p xs) (length xs)) [ inl within ↦ absurd (none within) | inr above ↦ omega arith ])

pub place_none : (stop : ℕ) (bytes : List ℕ) → position (λ byte. byte == stop) bytes ≡ None → Lacks stop bytes
place_none stop bytes e = none_cases (λ byte. byte == stop) bytes (λ within. let t = lt-ltb _ _ within in let found = rw t at e in cc)

-- what stands around it
pub place_found : (stop : ℕ) (bytes : List ℕ) (end : ℕ) → position (λ byte. byte == stop) bytes ≡ Some end
    → (bytes ≡ take end bytes ++ stop ∷ drop (end + 1) bytes) × Lacks stop (take end bytes)
place_found stop bytes end e =
    let at = position-Some (λ byte. byte == stop) bytes end 0 e in
    let before = λ (k d : ℕ) (low : k < end).
    let other = at.2 k low in
    let same : get_or (take end bytes) k d ≡ get_or bytes k 0 = get_or-take end bytes k d low ∙ get_or_default bytes k d 0 (omega (arith, at.0)) in
    ap (λ b. b == stop) same ∙ other in
    let is : get_or bytes end 0 ≡ stop = grind (arith, nat_tests, at.1) in (
      sym (take-append-drop end bytes) ∙ ap (λ tail. take end bytes ++ tail) (drop_more bytes end 0 at.0 ∙ ap (λ b. b ∷ drop (end + 1) bytes) is),
      λ k d inside. before k d (omega (arith, length-take-le end bytes (omega (arith, at.0)))),
    )

pub stripped_some : (s p : List ℕ) (r : Option (Bor (List ℕ)))
    → MatchOption r (pointwise eqb (take (length p) s) p ≡ false)
    (λ x. (pointwise eqb (take (length p) s) p ≡ true) × (x.now ≡ drop (length p) s) × (length x.now + length p ≡ length s))
    → IfSome r (λ rest. s ≡ p ++ rest.now)
stripped_some s p None m = tt
stripped_some s p (Some x) m = strip_prefix_is Decides-eqb s p (Some x) m

pub stripped_none : (s p : List ℕ) (r : Option (Bor (List ℕ)))
    → MatchOption r (pointwise eqb (take (length p) s) p ≡ false)
    (λ x. (pointwise eqb (take (length p) s) p ≡ true) × (x.now ≡ drop (length p) s) × (length x.now + length p ≡ length s))
    → IfNone r ((rest : List ℕ) → s ≢ p ++ rest)
stripped_none s p None m = strip_prefix_is Decides-eqb s p None m
stripped_none s p (Some x) m = tt

pub no_space : (s word rest : List ℕ) → s ≡ word ++ rest → ((more : List ℕ) → rest ≢ 32 ∷ more) → (more : List ℕ) → s ≢ word ++ 32 ∷ more
no_space s word rest e none more e' = none more (append_cancel_left word rest (32 ∷ more) (sym e ∙ e'))

-- what stands between two bytes
pub in_two : (bytes rest : List ℕ) (r : Option (Bor (List ℕ))) → bytes ≡ 91 ∷ rest
    → MatchOption r ((front : List ℕ) → rest ≢ front ++ 93 ∷ []) (λ x. rest ≡ x.now ++ 93 ∷ []) → IfSome r (λ inner. bytes ≡ 91 ∷ (inner.now ++ 93 ∷ []))
in_two bytes rest None e m = tt
in_two bytes rest (Some x) e m = e ∙ ap (λ l. 91 ∷ l) m

pub no_items : (xs : List ℕ) → length xs ≡ 0 → xs ≡ []
no_items [] e = refl
no_items (x ∷ xs) e = absurd (omega (arith, e))
