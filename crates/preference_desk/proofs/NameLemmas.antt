-- Names that are found at one place.
use Rattle.std.proofs.Common.{ℕ, suc, ◌≡◌, ◌+◌, ◌<◌, Bool, true, false, cond, not, ◌||◌, List, [], ◌∷◌, length, get_or, ap, sym, ◌∙◌, arith, true≢false, inl, inr}
use Rattle.std.specs.List.{list_any, position_or_len}
use Rattle.std.specs.Prelude.{IfNone, IfSome, None, Option, Some, nat_lt, option_map, position}
use Rattle.std.specs.Str.{bytes_eq}
use Rattle.std.specs.Cmp.Lexicographic.{nat_list_eq_equiv}
use Rattle.std.proofs.lemmas.Bool.{cases_Bool, lt-ltb}
use Rattle.std.proofs.lemmas.List.Folds.{list_any_at}
use Rattle.std.proofs.lemmas.List.Quantifiers.{position-Some}
use Rattle.std.proofs.lemmas.List.Sums.{passes_at_first}
use Rattle.plain_facts.proofs.Outcomes.{cond_none, cond_some}
use Rattle.market_units.specs.declared.names.Name.{Name}
use Rattle.market_units.specs.Name.{name_bytes}
use Rattle.preference_desk.specs.DeskNames.{has_name, ordinal_of}

pub found_inside : {A : Type 0} (p : A → Bool) (xs : List A) → list_any p xs ≡ true → position_or_len p xs < length xs
found_inside p [] has = absurd (true≢false (sym has))
found_inside p (x ∷ xs) has = elim (p x) as (λ b. (b || list_any p xs) ≡ true → cond (not b) (1 + position_or_len p xs) 0 < suc (length xs)) [
  | true ↦ λ h. omega arith
  | false ↦ λ h. omega (arith, found_inside p xs h)
] has

-- names of one ordinal have the same bytes
pub same_ordinal : (names : List (List ℕ)) (first second : Name) → has_name names first ≡ true → has_name names second ≡ true
    → ordinal_of names first ≡ ordinal_of names second → bytes_eq (name_bytes first) (name_bytes second) ≡ true
same_ordinal names first second has has' same =
    let d : List ℕ = [] in
    let at : bytes_eq (name_bytes first) (get_or names (ordinal_of names first) d) ≡ true =
    passes_at_first (bytes_eq (name_bytes first)) names d (found_inside (bytes_eq (name_bytes first)) names has) in
    let at' : bytes_eq (name_bytes second) (get_or names (ordinal_of names second) d) ≡ true =
    passes_at_first (bytes_eq (name_bytes second)) names d (found_inside (bytes_eq (name_bytes second)) names has') in
    let there : bytes_eq (name_bytes second) (get_or names (ordinal_of names first) d) ≡ true =
    ap (λ i. bytes_eq (name_bytes second) (get_or names i d)) same ∙ at' in
    nat_list_eq_equiv.congr (name_bytes first) (get_or names (ordinal_of names first) d) (name_bytes second) at
    ∙ nat_list_eq_equiv.symm (get_or names (ordinal_of names first) d) (name_bytes second) ∙ there

pub other_ordinals : (names : List (List ℕ)) (first second : Name) (one other : ℕ) → has_name names first ≡ true → has_name names second ≡ true
    → one ≡ ordinal_of names first → other ≡ ordinal_of names second
    → bytes_eq (name_bytes first) (name_bytes second) ≡ false → one ≡ other → ⊥
other_ordinals names first second one other has has' e f apart same = true≢false (sym (same_ordinal names first second has has' (sym e ∙ same ∙ f)) ∙ apart)

-- a name that was found is one of these, at its ordinal
pub found_is : {A : Type 0} (number : A → ℕ) (names : List (List ℕ)) (name : Name) (found : Option A)
    → option_map number found ≡ position (bytes_eq (name_bytes name)) names → IfSome found (λ a. has_name names name ≡ true)
found_is number names name None e = tt
found_is number names name (Some a) e =
    let at = position-Some (bytes_eq (name_bytes name)) names (number a) [] (sym e) in
    list_any_at (bytes_eq (name_bytes name)) names (number a) [] at.0 at.1

pub found_ordinal : {A : Type 0} (number : A → ℕ) (names : List (List ℕ)) (name : Name) (found : Option A)
    → option_map number found ≡ position (bytes_eq (name_bytes name)) names → IfSome found (λ a. number a ≡ ordinal_of names name)
found_ordinal number names name None e = tt
found_ordinal number names name (Some a) e =
    cond_some (nat_lt (ordinal_of names name) (length names)) (ordinal_of names name) (number a) (sym e)

pub found_below : {A : Type 0} (number : A → ℕ) (names : List (List ℕ)) (name : Name) (found : Option A)
    → option_map number found ≡ position (bytes_eq (name_bytes name)) names → IfSome found (λ a. number a < length names)
found_below number names name None e = tt
found_below number names name (Some a) e = (position-Some (bytes_eq (name_bytes name)) names (number a) [] (sym e)).0

-- and one that was not found is none of these
pub not_found_is_none : {A : Type 0} (number : A → ℕ) (names : List (List ℕ)) (name : Name) (found : Option A)
    → option_map number found ≡ position (bytes_eq (name_bytes name)) names → IfNone found (has_name names name ≡ false)
not_found_is_none number names name (Some a) e = tt
not_found_is_none number names name None e = elim (cases_Bool (has_name names name)) [
  | inl has ↦
      absurd
      (true≢false
      (sym (lt-ltb (ordinal_of names name) (length names) (found_inside (bytes_eq (name_bytes name)) names has))
      ∙ cond_none (nat_lt (ordinal_of names name) (length names)) (ordinal_of names name) (sym e)))
  | inr none ↦ none
]
