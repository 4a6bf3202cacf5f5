-- Names that are copied one by one, and what stands at a place of a list.
use Rattle.std.proofs.Common.{ℕ, zero, suc, ◌≡◌, ◌+◌, ◌<◌, false, cond, List, [], ◌∷◌, ◌++◌, map, length, take, get_or, refl, ap, sym, ◌∙◌, arith}
use Rattle.std.specs.Prelude.{Some, option_map, slice_get}
use Rattle.std.specs.List.{AllByRecursion, IsDistinct, list_any}
use Rattle.std.specs.Str.{bytes_eq}
use Rattle.std.specs.Cmp.Lexicographic.{nat_list_eq_equiv}
use Rattle.std.proofs.lemmas.Bool.{or_from}
use Rattle.std.proofs.lemmas.List.{take_more, map-append}
use Rattle.plain_facts.proofs.Lists.{list_any-map}
use Rattle.market_units.specs.declared.names.Name.{Name}
use Rattle.market_units.specs.Name.{name_bytes}

holds_at : {A : Type 0} (P : A → Type 0) (xs : List A) (n : ℕ) (d : A) → AllByRecursion P xs → n < length xs → P (get_or xs n d)
holds_at P [] n d each inside = absurd (omega arith)
holds_at P (x ∷ xs) zero d each inside = each.0
holds_at P (x ∷ xs) (suc n) d each inside = holds_at P xs n d each.1 (omega arith)

-- a name of a list without repeats is none of the names before it
not_before : (names : List (List ℕ)) (n : ℕ) (d : List ℕ) → IsDistinct bytes_eq names → n < length names
    → list_any (bytes_eq (get_or names n d)) (take n names) ≡ false
unfolding IsDistinct
not_before [] n d distinct inside = absurd (omega arith)
not_before (name ∷ names) zero d distinct inside = refl
not_before (name ∷ names) (suc n) d distinct inside =
    or_from _ _ (nat_list_eq_equiv.symm (get_or names n d) name ∙ holds_at (λ other. bytes_eq name other ≡ false) names n d distinct.0 (omega arith))
    (not_before names n d distinct.1 (omega arith))

-- one name more
pub one_name_more : (names : List (List ℕ)) (keys new : List Name) (n : ℕ) (name : Name) → IsDistinct bytes_eq names → n < length names
    → map name_bytes keys ≡ take n names → name_bytes name ≡ get_or names n []
    → new ≡ cond (list_any (λ key. bytes_eq (name_bytes name) (name_bytes key)) keys) keys (keys ++ name ∷ []) → map name_bytes new ≡ take (n + 1) names
one_name_more names keys new n name distinct inside so is e =
    let fresh : list_any (λ key. bytes_eq (name_bytes name) (name_bytes key)) keys ≡ false =
    sym (list_any-map (bytes_eq (name_bytes name)) name_bytes keys) ∙ ap (list_any (bytes_eq (name_bytes name))) so
    ∙ ap (λ bytes. list_any (bytes_eq bytes) (take n names)) is ∙ not_before names n [] distinct inside in
    let added : new ≡ keys ++ name ∷ [] = e ∙ ap (λ b. cond b keys (keys ++ name ∷ [])) fresh in
    ap (map name_bytes) added ∙ map-append name_bytes keys (name ∷ []) ∙ ap (λ front. front ++ name_bytes name ∷ []) so
    ∙ ap (λ last. take n names ++ last ∷ []) is ∙ sym (take_more names n [] inside)

-- and the same of the images
pub read_option : {A B : Type 0} (f : A → B) (xs : List A) (n : ℕ) (v d : B) → option_map f (slice_get xs n) ≡ Some v → v ≡ get_or (map f xs) n d
read_option f [] n v d e = cc
read_option f (x ∷ xs) zero v d e = cc
read_option f (x ∷ xs) (suc n) v d e = read_option f xs n v d e
