-- A record against the header, field by field.
use Rattle.std.proofs.Common.{Bor, ◌≡◌, ◌≢◌, ◌<◌, ◌≤◌, ◌+◌, ◌-◌, ◌∙◌, ◌&&◌, ℕ, zero, suc, Bool, true, false, List, [], ◌∷◌, Option, Some, None, option_map, length, map, drop, get_or, refl, sym, ap, inl, inr, arith, add-one, nat_lt}
use Rattle.std.specs.Cmp.Lexicographic.{pointwise}
use Rattle.std.specs.Str.{bytes_eq}
use Rattle.std.specs.Prelude.{position, unwrap_or}
use Rattle.std.specs.List.{position_from, position_or_len}
use Rattle.std.proofs.lemmas.Bool.Decides.{nat_tests}
use Rattle.std.proofs.lemmas.Iterator.Adapters.{position_from-zero}
use Rattle.std.proofs.lemmas.List.{drop_all, length-map}
use Rattle.table_records.specs.Reading.{IsVersion}
use Rattle.std.proofs.lemmas.Bool.{cases_Bool}
use Rattle.csv.specs.Records.{field_at}
use Rattle.table_records.specs.Records.{field_in}

-- the fields from a place on begin with the one in the column there
pub drop-field_at : (i : ℕ) (fields : List (List ℕ)) → i < length fields → drop i fields ≡ unwrap_or (field_at fields i) [] ∷ drop (suc i) fields
unfolding field_at
drop-field_at i [] within = absurd (omega arith)
drop-field_at zero (f ∷ fs) within = refl
drop-field_at (suc i) (f ∷ fs) within = drop-field_at i fs (omega arith)

pub drop-field_in : (i : ℕ) (fields : List (List ℕ)) → i < length fields → drop i fields ≡ field_in (i + 1) fields ∷ drop (i + 1) fields
drop-field_in i fields within =
    let same : i + 1 - 1 ≡ i = omega arith in
    rw (same, add-one) (drop-field_at i fields within)

-- lists of two lengths differ
pub lengths_differ : (xs ys : List (List ℕ)) → length xs ≢ length ys → pointwise bytes_eq xs ys ≡ false
lengths_differ [] [] ne = absurd (ne refl)
lengths_differ [] (y ∷ ys) ne = refl
lengths_differ (x ∷ xs) [] ne = refl
lengths_differ (x ∷ xs) (y ∷ ys) ne =
    elim (cases_Bool (bytes_eq x y)) [
      | inl t ↦ rw t (lengths_differ xs ys (λ e. ne (omega arith)))
      | inr f ↦ rw f refl
    ]

-- the texts behind references, as they are compared
abbrev pub texts_of : List (Bor (List ℕ)) → List (List ℕ)
texts_of refs = map (λ r. r.now) refs

drop-texts_of : (i : ℕ) (refs : List (Bor (List ℕ))) (d : Bor (List ℕ)) → i < length refs
    → drop i (texts_of refs) ≡ (get_or refs i d).now ∷ drop (suc i) (texts_of refs)
drop-texts_of i [] d within = absurd (omega arith)
drop-texts_of zero (r ∷ rs) d within = refl
drop-texts_of (suc i) (r ∷ rs) d within = drop-texts_of i rs d (omega arith)

abbrev Decide : List (List ℕ) → List (Bor (List ℕ)) → Bool → ℕ → Type 0
Decide fields header whole i = pointwise bytes_eq (drop i fields) (drop i (texts_of header)) ≡ whole

step : (i : ℕ) (fields : List (List ℕ)) (header : List (Bor (List ℕ))) (d : Bor (List ℕ)) (whole : Bool) → i < length fields → i < length header
    → Decide fields header whole i
    → (bytes_eq (field_in (i + 1) fields) (get_or header i d).now && pointwise bytes_eq (drop (i + 1) fields) (drop (i + 1) (texts_of header))) ≡ whole
step i fields header d whole within also left =
    let cut : drop i (texts_of header) ≡ (get_or header i d).now ∷ drop (i + 1) (texts_of header) = rw add-one (drop-texts_of i header d also) in
    rw (drop-field_in i fields within, cut) at left

-- a field that is the header's leaves the rest to decide
pub field_is : (i : ℕ) (fields : List (List ℕ)) (header : List (Bor (List ℕ))) (d : Bor (List ℕ)) (whole : Bool) → i < length fields → i < length header
    → Decide fields header whole i
    → true ≡ bytes_eq (field_in (i + 1) fields) (get_or header i d).now → Decide fields header whole (i + 1)
field_is i fields header d whole within also left is = rw (sym is) at (step i fields header d whole within also left)

-- a field that is not the header's decides
pub field_is_not : (i : ℕ) (fields : List (List ℕ)) (header : List (Bor (List ℕ))) (d : Bor (List ℕ)) (whole : Bool) → i < length fields → i < length header
    → Decide fields header whole i
    → false ≡ bytes_eq (field_in (i + 1) fields) (get_or header i d).now → false ≡ whole
field_is_not i fields header d whole within also left is = rw (sym is) at (step i fields header d whole within also left)

-- the headers behind references, as they are compared
abbrev pub headers_of : List (Bor (List (Bor (List ℕ)))) → List (List (List ℕ))
headers_of refs = map (λ r. texts_of r.now) refs

pub drop-headers_of : (i : ℕ) (refs : List (Bor (List (Bor (List ℕ))))) (d : Bor (List (Bor (List ℕ)))) → i < length refs
    → drop i (headers_of refs) ≡ texts_of (get_or refs i d).now ∷ drop (i + 1) (headers_of refs)
drop-headers_of i [] d within = absurd (omega arith)
drop-headers_of zero (r ∷ rs) d within = refl
drop-headers_of (suc i) (r ∷ rs) d within = let next : suc i + 1 ≡ suc (i + 1) = omega arith in rw next (drop-headers_of i rs d (omega arith))

-- a header that the fields are is the first
pub header_is : (test : List (List ℕ) → Bool) (i : ℕ) (refs : List (Bor (List (Bor (List ℕ))))) (d : Bor (List (Bor (List ℕ)))) (whole : Option ℕ)
    → i < length refs
    → position_from test i (drop i (headers_of refs)) ≡ whole → true ≡ test (texts_of (get_or refs i d).now) → whole ≡ Some i
header_is test i refs d whole within left is = sym left ∙ rw (drop-headers_of i refs d within, sym is) refl

-- a header that the fields are not leaves the rest
pub header_is_not : (test : List (List ℕ) → Bool) (i : ℕ) (refs : List (Bor (List (Bor (List ℕ))))) (d : Bor (List (Bor (List ℕ)))) (whole : Option ℕ)
    → i < length refs
    → position_from test i (drop i (headers_of refs)) ≡ whole → false ≡ test (texts_of (get_or refs i d).now)
    → position_from test (i + 1) (drop (i + 1) (headers_of refs)) ≡ whole
header_is_not test i refs d whole within left is = rw (drop-headers_of i refs d within, sym is) at left

-- where none is left, the fields are none
pub header_none : (test : List (List ℕ) → Bool) (i : ℕ) (refs : List (Bor (List (Bor (List ℕ))))) (whole : Option ℕ) → length refs ≤ i
    → position_from test i (drop i (headers_of refs)) ≡ whole → whole ≡ None
header_none test i refs whole end left =
    sym left ∙ ap (position_from test i) (drop_all i (headers_of refs) (omega (arith, length-map refs (λ r. texts_of r.now))))

-- the version of fields, by their place among the headers
pub version_of-place : (test : List (List ℕ) → Bool) (headers : List (List (List ℕ))) (place : Option ℕ) → position_from test 0 headers ≡ place
    → option_map (λ k. k + 1) (position test headers) ≡ option_map (λ k. k + 1) place
version_of-place test headers place is = ap (option_map (λ k. k + 1)) (position_from-zero test headers ∙ is)

-- a place is one among the headers
pub place-within : (test : List (List ℕ) → Bool) (headers : List (List (List ℕ))) (version : ℕ) → option_map (λ k. k + 1) (position test headers) ≡ Some version
    → IsVersion headers version
place-within test headers version is =
    elim (cases_Bool (nat_lt (position_or_len test headers) (length headers))) [
      | inl t ↦ let same : position_or_len test headers + 1 ≡ version = cc (rw t at is) in record { first = omega arith; last = grind (arith, nat_tests) }
      | inr f ↦ absurd (cc (rw f at is))
    ]
