-- Names among names, seen as their bytes.
use Rattle.std.proofs.Common.{◌≡◌, ◌∙◌, ◌+◌, ◌++◌, ℕ, suc, Bool, true, false, not, cond, List, [], ◌∷◌, length, Some, None, refl, sym, ap, inl, inr, arith, nat_lt}
use Rattle.std.specs.Prelude.{Option, position, slice_get, get_or, IfSome}
use Rattle.std.specs.Cmp.Lexicographic.{bytes_decides}
use Rattle.std.proofs.lemmas.Option.{slice_get-get_or}
use Rattle.std.proofs.lemmas.List.Quantifiers.{position-Some}
use Rattle.std.specs.List.{AllByRecursion, IsDistinct, list_any, position_or_len}
use Rattle.std.specs.Str.{bytes_eq}
use Rattle.std.proofs.lemmas.Bool.{cases_Bool}
use Rattle.std.proofs.lemmas.Bool.Decides.{nat_tests}
use Rattle.std.proofs.lemmas.List.{map-append, length-map}
use Rattle.plain_facts.proofs.Lists.{position_or_len-map}
use Rattle.market_units.specs.declared.names.Name.{Name}
use Rattle.market_units.specs.Name.{name_bytes}
use Rattle.table_records.specs.Reading.{bytes_of}
use Rattle.table_records.specs.Walk.{AddsName}

-- the place of a name is that of its bytes
pub position-bytes_of : (p : List ℕ → Bool) (names : List Name) → position (λ name. p (name_bytes name)) names ≡ position p (bytes_of names)
position-bytes_of p names = rw (position_or_len-map p name_bytes names, length-map names name_bytes) refl

lt_suc : (a b : ℕ) → nat_lt (1 + a) (suc b) ≡ nat_lt a b
lt_suc a b = grind (arith, nat_tests)

any_within : {X : Type 0} (p : X → Bool) (xs : List X) → nat_lt (position_or_len p xs) (length xs) ≡ list_any p xs
any_within p [] = grind (arith, nat_tests)
any_within p (x ∷ xs) =
    elim (cases_Bool (p x)) [
      | inl t ↦ rw t (grind (arith, nat_tests))
      | inr n ↦ rw n (lt_suc (position_or_len p xs) (length xs) ∙ any_within p xs)
    ]

position-any : {X : Type 0} (p : X → Bool) (xs : List X) → list_any p xs ≡ true → position p xs ≡ Some (position_or_len p xs)
position-any p xs h = rw (any_within p xs ∙ h) refl

position-none : {X : Type 0} (p : X → Bool) (xs : List X) → list_any p xs ≡ false → position p xs ≡ None
position-none p xs h = rw (any_within p xs ∙ h) refl

opposite : (a b : Bool) → a ≡ not b → b ≡ not a
opposite true true h = h
opposite true false h = refl
opposite false true h = refl
opposite false false h = h

differ-bytes_of : (name : Name) (names : List Name) → AllByRecursion (λ other. bytes_eq (name_bytes name) (name_bytes other) ≡ false) names
    → AllByRecursion (λ other. bytes_eq (name_bytes name) other ≡ false) (bytes_of names)
differ-bytes_of name [] differ = tt
differ-bytes_of name (other ∷ more) differ = (differ.0, differ-bytes_of name more differ.1)

-- names that differ have bytes that differ
pub IsDistinct-bytes_of : (names : List Name) → IsDistinct (λ a b. bytes_eq (name_bytes a) (name_bytes b)) names → IsDistinct bytes_eq (bytes_of names)
unfolding IsDistinct
IsDistinct-bytes_of [] distinct = tt
IsDistinct-bytes_of (name ∷ more) distinct = (differ-bytes_of name more distinct.0, IsDistinct-bytes_of more distinct.1)

-- a name that is not there comes last
pub adds_new : (old new : List Name) (name : Name) → true ≡ not (list_any (λ k. bytes_eq (name_bytes name) (name_bytes k)) old)
    → new ≡ cond (list_any (λ k. bytes_eq (name_bytes name) (name_bytes k)) old) old (old ++ name ∷ [])
    → IsDistinct (λ a b. bytes_eq (name_bytes a) (name_bytes b)) new → AddsName old new (name_bytes name) None
adds_new old new name added keys distinct =
    let lacks = opposite true (list_any (λ k. bytes_eq (name_bytes name) (name_bytes k)) old) added in
    record {
      is_place = sym (position-none (λ k. bytes_eq (name_bytes name) (name_bytes k)) old lacks) ∙ position-bytes_of (bytes_eq (name_bytes name)) old;
      added = ap bytes_of (rw lacks at keys) ∙ map-append name_bytes old (name ∷ []);
      distinct = IsDistinct-bytes_of new distinct;
    }

-- a name that is there has a place
pub adds_none : (old new : List Name) (name : Name) (place : ℕ) → false ≡ not (list_any (λ k. bytes_eq (name_bytes name) (name_bytes k)) old)
    → place ≡ position_or_len (λ k. bytes_eq (name_bytes name) (name_bytes k)) old → IsDistinct (λ a b. bytes_eq (name_bytes a) (name_bytes b)) new
    → AddsName old new (name_bytes name) (Some place)
adds_none old new name place added is distinct =
    let has = opposite false (list_any (λ k. bytes_eq (name_bytes name) (name_bytes k)) old) added in
    record {
      is_place = ap Some is ∙ sym (position-any (λ k. bytes_eq (name_bytes name) (name_bytes k)) old has) ∙ position-bytes_of (bytes_eq (name_bytes name)) old;
      added = tt;
      distinct = IsDistinct-bytes_of new distinct;
    }

-- where a name has a place, it stands there
pub stands_at : (name : List ℕ) (names : List (List ℕ)) (place : Option ℕ) → place ≡ position (bytes_eq name) names
    → IfSome place (λ i. slice_get names i ≡ Some name)
stands_at name names None is = tt
stands_at name names (Some i) is =
    let at = position-Some (bytes_eq name) names i [] (sym is) in
    let same : name ≡ get_or names i [] = (bytes_decides name (get_or names i [])).0 at.1 in
    slice_get-get_or names i [] at.0 ∙ ap Some (sym same)
