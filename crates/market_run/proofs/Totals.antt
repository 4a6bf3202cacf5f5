-- Sums over the first items of a list.
use Rattle.std.proofs.Common.{ℕ, ◌≡◌, ◌<◌, ◌≤◌, ◌+◌, ◌∙◌, List, [], ◌∷◌, ◌++◌, map, length, get_or, take, refl, ap, arith}
use Rattle.std.proofs.lemmas.List.{map-append, take_all, take_more}
use Rattle.market_units.specs.Totals.{total}
use Rattle.market_units.proofs.Sums.{total-append}

-- one more item
pub total_more : {A B : Type 0} (f : B → ℕ) (v : A → B) (xs : List A) (i : ℕ) (d : A) (sum more : ℕ) → i < length xs → sum ≡ total f (map v (take i xs))
    → more ≡ f (v (get_or xs i d)) → sum + more ≡ total f (map v (take (i + 1) xs))
total_more f v xs i d sum more low so_far is =
    let one : total f (map v (take i xs ++ get_or xs i d ∷ [])) ≡ total f (map v (take i xs)) + total f (v (get_or xs i d) ∷ []) =
    ap (total f) (map-append v (take i xs) (get_or xs i d ∷ [])) ∙ total-append f (map v (take i xs)) (v (get_or xs i d) ∷ []) in
    let whole : total f (map v (take (i + 1) xs)) ≡ total f (map v (take i xs ++ get_or xs i d ∷ [])) = ap (λ ys. total f (map v ys)) (take_more xs i d low) in
    let last : total f (v (get_or xs i d) ∷ []) ≡ f (v (get_or xs i d)) = omega arith in
    omega arith

-- all items
pub total_all : {A B : Type 0} (f : B → ℕ) (v : A → B) (xs : List A) (i sum : ℕ) → length xs ≤ i → sum ≡ total f (map v (take i xs)) → sum ≡ total f (map v xs)
total_all f v xs i sum past so_far = so_far ∙ ap (λ ys. total f (map v ys)) (take_all i xs past)

pub map_same : {A : Type 0} (xs : List A) → map (λ (x : A). x) xs ≡ xs
map_same [] = refl
map_same (x ∷ xs) = ap (λ rest. x ∷ rest) (map_same xs)
